-- Every exported call ends: its code meets its contract, which is the theorem that the kit hands out for it, and the contract says what
-- the definition says (the crate pledges). So the code meets every demand that the definition meets.
use mathlib.Core.Path.{refl}
use denote.Triple.Clauses.{at_exit}
use Rattle.kerb.proofs.kerb_book_size
use Rattle.kerb.proofs.kerb_lorry_cell
use Rattle.kerb.proofs.kerb_never_opened
use Rattle.kerb.proofs.kerb_pack
use Rattle.kerb.proofs.kerb_ring
use Rattle.kerb.proofs.kerb_sector
use Rattle.kerb.proofs.kerb_unit_cell
use Rattle.kerb.proofs.kerb_unpack
use Rattle.kerb.proofs.kerb_version_3
use Rattle.kerb_chain.proofs.kerb_chain
use Rattle.kerb_file.proofs.kerb_list
use Rattle.kerb_file.proofs.kerb_read
use Rattle.kerb_file.proofs.kerb_write
use Rattle.kerb_groups.proofs.kerb_groups
use Rattle.kerb_joined.proofs.kerb_joined
use Rattle.kerb_lamps.proofs.kerb_lamps
use Rattle.kerb_opening.proofs.kerb_opening
use Rattle.kerb_play.proofs.kerb_play
use Rattle.kerb_slides.proofs.kerb_open_slide
use Rattle.kerb_slides.proofs.kerb_slide_ticks
use Rattle.kerb_text.proofs.kerb_text_in
use Rattle.kerb_text.proofs.kerb_text_out
use Rattle.kerb_time.proofs.kerb_clock
use Rattle.kerb_time.proofs.kerb_link
use Rattle.kerb_time.proofs.kerb_time
use Rattle.pledges.specs.Exported.{Exported, Lifetimes, Given, Claim, Definition, Met, Pledged, CodeMeets}
use Rattle.pledges.proofs.Exported.{code_meets}
use Rattle.pledges.proofs.Pledges.{pledges}
use Rattle.promises.specs.Routines.{Ends, CodeEnds}

ends : {f : Exported} {definition : Definition f} → Met f → Pledged f definition → Ends f definition
ends met pledged = record { met = met; pledged = pledged; code = code_meets met pledged (λ κs a. (refl, refl)) }

pub code_ends : CodeEnds
code_ends =
    record {
      kerb_never_opened_lem = ends (λ M. kerb_never_opened.Met.met) pledges.kerb_never_opened_lem;
      kerb_opening_lem = ends (λ M. kerb_opening.Met.met) pledges.kerb_opening_lem;
      kerb_link_lem = ends (λ M. kerb_link.Met.met) pledges.kerb_link_lem;
      kerb_clock_lem = ends (λ M. kerb_clock.Met.met) pledges.kerb_clock_lem;
      kerb_play_lem = ends (λ M. kerb_play.Met.met) pledges.kerb_play_lem;
      kerb_joined_lem = ends (λ M. kerb_joined.Met.met) pledges.kerb_joined_lem;
      kerb_chain_lem = ends (λ M. kerb_chain.Met.met) pledges.kerb_chain_lem;
      kerb_groups_lem = ends (λ M. kerb_groups.Met.met) pledges.kerb_groups_lem;
      kerb_lamps_lem = ends (λ M. kerb_lamps.Met.met) pledges.kerb_lamps_lem;
      kerb_time_lem = ends (λ M. kerb_time.Met.met) pledges.kerb_time_lem;
      kerb_open_slide_lem = ends (λ M. kerb_open_slide.Met.met) pledges.kerb_open_slide_lem;
      kerb_slide_ticks_lem = ends (λ M. kerb_slide_ticks.Met.met) pledges.kerb_slide_ticks_lem;
      kerb_read_lem = ends (λ M. kerb_read.Met.met) pledges.kerb_read_lem;
      kerb_write_lem = ends (λ M. kerb_write.Met.met) pledges.kerb_write_lem;
      kerb_list_lem = ends (λ M. kerb_list.Met.met) pledges.kerb_list_lem;
      kerb_text_in_lem = ends (λ M. kerb_text_in.Met.met) pledges.kerb_text_in_lem;
      kerb_text_out_lem = ends (λ M. kerb_text_out.Met.met) pledges.kerb_text_out_lem;
      kerb_pack_lem = ends (λ M. kerb_pack.Met.met) pledges.kerb_pack_lem;
      kerb_unpack_lem = ends (λ M. kerb_unpack.Met.met) pledges.kerb_unpack_lem;
      kerb_lorry_cell_lem = ends (λ M. kerb_lorry_cell.Met.met) pledges.kerb_lorry_cell_lem;
      kerb_unit_cell_lem = ends (λ M. kerb_unit_cell.Met.met) pledges.kerb_unit_cell_lem;
      kerb_ring_lem = ends (λ M. kerb_ring.Met.met) pledges.kerb_ring_lem;
      kerb_sector_lem = ends (λ M. kerb_sector.Met.met) pledges.kerb_sector_lem;
      kerb_version_3_lem = ends (λ M. kerb_version_3.Met.met) pledges.kerb_version_3_lem;
      kerb_book_size_lem = ends (λ M. kerb_book_size.Met.met) pledges.kerb_book_size_lem;
    }

-- the code of a call that ends meets every demand that the definition meets
pub demanded : {f : Exported} {definition : Definition f} {demand : Claim f} → Ends f definition →
    ((κs : Lifetimes f) (a : Given f κs) → demand κs a (definition κs a).0 (at_exit f.ended κs a (definition κs a).1)) → CodeMeets f demand
demanded e holds = code_meets e.met e.pledged holds
