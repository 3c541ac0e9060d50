-- The exported calls as the kit hands them out: nothing of a contract is quoted here. For each function F of a crate the kit generates
-- `Rattle.CRATE.specs.contracts.F` with its signature and its clauses, and `Rattle.CRATE.proofs.F.Symbol` with its name and its code; and the
-- theorem that the code meets the clauses, which is taken up in the crate promises (proofs/Ends), since who names it has the prover read
-- every proof that it rests on.
use Rattle.kerb.specs.contracts.kerb_book_size
use Rattle.kerb.proofs.kerb_book_size.Symbol as kerb_book_size_symbol
use Rattle.kerb.specs.contracts.kerb_lorry_cell
use Rattle.kerb.proofs.kerb_lorry_cell.Symbol as kerb_lorry_cell_symbol
use Rattle.kerb.specs.contracts.kerb_never_opened
use Rattle.kerb.proofs.kerb_never_opened.Symbol as kerb_never_opened_symbol
use Rattle.kerb.specs.contracts.kerb_pack
use Rattle.kerb.proofs.kerb_pack.Symbol as kerb_pack_symbol
use Rattle.kerb.specs.contracts.kerb_ring
use Rattle.kerb.proofs.kerb_ring.Symbol as kerb_ring_symbol
use Rattle.kerb.specs.contracts.kerb_sector
use Rattle.kerb.proofs.kerb_sector.Symbol as kerb_sector_symbol
use Rattle.kerb.specs.contracts.kerb_unit_cell
use Rattle.kerb.proofs.kerb_unit_cell.Symbol as kerb_unit_cell_symbol
use Rattle.kerb.specs.contracts.kerb_unpack
use Rattle.kerb.proofs.kerb_unpack.Symbol as kerb_unpack_symbol
use Rattle.kerb.specs.contracts.kerb_version_3
use Rattle.kerb.proofs.kerb_version_3.Symbol as kerb_version_3_symbol
use Rattle.kerb_chain.specs.contracts.kerb_chain
use Rattle.kerb_chain.proofs.kerb_chain.Symbol as kerb_chain_symbol
use Rattle.kerb_file.specs.contracts.kerb_list
use Rattle.kerb_file.proofs.kerb_list.Symbol as kerb_list_symbol
use Rattle.kerb_file.specs.contracts.kerb_read
use Rattle.kerb_file.proofs.kerb_read.Symbol as kerb_read_symbol
use Rattle.kerb_file.specs.contracts.kerb_write
use Rattle.kerb_file.proofs.kerb_write.Symbol as kerb_write_symbol
use Rattle.kerb_groups.specs.contracts.kerb_groups
use Rattle.kerb_groups.proofs.kerb_groups.Symbol as kerb_groups_symbol
use Rattle.kerb_joined.specs.contracts.kerb_joined
use Rattle.kerb_joined.proofs.kerb_joined.Symbol as kerb_joined_symbol
use Rattle.kerb_lamps.specs.contracts.kerb_lamps
use Rattle.kerb_lamps.proofs.kerb_lamps.Symbol as kerb_lamps_symbol
use Rattle.kerb_opening.specs.contracts.kerb_opening
use Rattle.kerb_opening.proofs.kerb_opening.Symbol as kerb_opening_symbol
use Rattle.kerb_play.specs.contracts.kerb_play
use Rattle.kerb_play.proofs.kerb_play.Symbol as kerb_play_symbol
use Rattle.kerb_slides.specs.contracts.kerb_open_slide
use Rattle.kerb_slides.proofs.kerb_open_slide.Symbol as kerb_open_slide_symbol
use Rattle.kerb_slides.specs.contracts.kerb_slide_ticks
use Rattle.kerb_slides.proofs.kerb_slide_ticks.Symbol as kerb_slide_ticks_symbol
use Rattle.kerb_text.specs.contracts.kerb_text_in
use Rattle.kerb_text.proofs.kerb_text_in.Symbol as kerb_text_in_symbol
use Rattle.kerb_text.specs.contracts.kerb_text_out
use Rattle.kerb_text.proofs.kerb_text_out.Symbol as kerb_text_out_symbol
use Rattle.kerb_time.specs.contracts.kerb_clock
use Rattle.kerb_time.proofs.kerb_clock.Symbol as kerb_clock_symbol
use Rattle.kerb_time.specs.contracts.kerb_link
use Rattle.kerb_time.proofs.kerb_link.Symbol as kerb_link_symbol
use Rattle.kerb_time.specs.contracts.kerb_time
use Rattle.kerb_time.proofs.kerb_time.Symbol as kerb_time_symbol
use Rattle.pledges.specs.Exported.{Exported}

abbrev pub never_opened_call : Exported
never_opened_call = record { ended = kerb_never_opened.ended; clauses = λ M 𝓤. kerb_never_opened.clauses; name = kerb_never_opened_symbol.name; code = kerb_never_opened_symbol.code }

abbrev pub opening_call : Exported
opening_call = record { ended = kerb_opening.ended; clauses = λ M 𝓤. kerb_opening.clauses; name = kerb_opening_symbol.name; code = kerb_opening_symbol.code }

abbrev pub link_call : Exported
link_call = record { ended = kerb_link.ended; clauses = λ M 𝓤. kerb_link.clauses; name = kerb_link_symbol.name; code = kerb_link_symbol.code }

abbrev pub clock_call : Exported
clock_call = record { ended = kerb_clock.ended; clauses = λ M 𝓤. kerb_clock.clauses; name = kerb_clock_symbol.name; code = kerb_clock_symbol.code }

abbrev pub play_call : Exported
play_call = record { ended = kerb_play.ended; clauses = λ M 𝓤. kerb_play.clauses; name = kerb_play_symbol.name; code = kerb_play_symbol.code }

abbrev pub joined_call : Exported
joined_call = record { ended = kerb_joined.ended; clauses = λ M 𝓤. kerb_joined.clauses; name = kerb_joined_symbol.name; code = kerb_joined_symbol.code }

abbrev pub chain_call : Exported
chain_call = record { ended = kerb_chain.ended; clauses = λ M 𝓤. kerb_chain.clauses; name = kerb_chain_symbol.name; code = kerb_chain_symbol.code }

abbrev pub groups_call : Exported
groups_call = record { ended = kerb_groups.ended; clauses = λ M 𝓤. kerb_groups.clauses; name = kerb_groups_symbol.name; code = kerb_groups_symbol.code }

abbrev pub lamps_call : Exported
lamps_call = record { ended = kerb_lamps.ended; clauses = λ M 𝓤. kerb_lamps.clauses; name = kerb_lamps_symbol.name; code = kerb_lamps_symbol.code }

abbrev pub time_call : Exported
time_call = record { ended = kerb_time.ended; clauses = λ M 𝓤. kerb_time.clauses; name = kerb_time_symbol.name; code = kerb_time_symbol.code }

abbrev pub open_slide_call : Exported
open_slide_call = record { ended = kerb_open_slide.ended; clauses = λ M 𝓤. kerb_open_slide.clauses; name = kerb_open_slide_symbol.name; code = kerb_open_slide_symbol.code }

abbrev pub slide_ticks_call : Exported
slide_ticks_call = record { ended = kerb_slide_ticks.ended; clauses = λ M 𝓤. kerb_slide_ticks.clauses; name = kerb_slide_ticks_symbol.name; code = kerb_slide_ticks_symbol.code }

abbrev pub read_call : Exported
read_call = record { ended = kerb_read.ended; clauses = λ M 𝓤. kerb_read.clauses; name = kerb_read_symbol.name; code = kerb_read_symbol.code }

abbrev pub write_call : Exported
write_call = record { ended = kerb_write.ended; clauses = λ M 𝓤. kerb_write.clauses; name = kerb_write_symbol.name; code = kerb_write_symbol.code }

abbrev pub list_call : Exported
list_call = record { ended = kerb_list.ended; clauses = λ M 𝓤. kerb_list.clauses; name = kerb_list_symbol.name; code = kerb_list_symbol.code }

abbrev pub text_in_call : Exported
text_in_call = record { ended = kerb_text_in.ended; clauses = λ M 𝓤. kerb_text_in.clauses; name = kerb_text_in_symbol.name; code = kerb_text_in_symbol.code }

abbrev pub text_out_call : Exported
text_out_call = record { ended = kerb_text_out.ended; clauses = λ M 𝓤. kerb_text_out.clauses; name = kerb_text_out_symbol.name; code = kerb_text_out_symbol.code }

abbrev pub pack_call : Exported
pack_call = record { ended = kerb_pack.ended; clauses = λ M 𝓤. kerb_pack.clauses; name = kerb_pack_symbol.name; code = kerb_pack_symbol.code }

abbrev pub unpack_call : Exported
unpack_call = record { ended = kerb_unpack.ended; clauses = λ M 𝓤. kerb_unpack.clauses; name = kerb_unpack_symbol.name; code = kerb_unpack_symbol.code }

abbrev pub lorry_cell_call : Exported
lorry_cell_call = record { ended = kerb_lorry_cell.ended; clauses = λ M 𝓤. kerb_lorry_cell.clauses; name = kerb_lorry_cell_symbol.name; code = kerb_lorry_cell_symbol.code }

abbrev pub unit_cell_call : Exported
unit_cell_call = record { ended = kerb_unit_cell.ended; clauses = λ M 𝓤. kerb_unit_cell.clauses; name = kerb_unit_cell_symbol.name; code = kerb_unit_cell_symbol.code }

abbrev pub ring_call : Exported
ring_call = record { ended = kerb_ring.ended; clauses = λ M 𝓤. kerb_ring.clauses; name = kerb_ring_symbol.name; code = kerb_ring_symbol.code }

abbrev pub sector_call : Exported
sector_call = record { ended = kerb_sector.ended; clauses = λ M 𝓤. kerb_sector.clauses; name = kerb_sector_symbol.name; code = kerb_sector_symbol.code }

abbrev pub version_call : Exported
version_call = record { ended = kerb_version_3.ended; clauses = λ M 𝓤. kerb_version_3.clauses; name = kerb_version_3_symbol.name; code = kerb_version_3_symbol.code }

abbrev pub book_size_call : Exported
book_size_call = record { ended = kerb_book_size.ended; clauses = λ M 𝓤. kerb_book_size.clauses; name = kerb_book_size_symbol.name; code = kerb_book_size_symbol.code }
