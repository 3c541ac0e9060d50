-- What each exported call gives, by the definitions that the demands speak of: for every input, what it returns and, parameter by
-- parameter, what lent memory holds afterwards; `kept` stands for a parameter that the call cannot change.
use Rattle.std.specs.Prelude.{length, replicate}
use Rattle.cells.specs.Cell.{sectors, ring_of, sector_of, lorry_cell_of, unit_cell_of}
use Rattle.slides.specs.Clock.{time_of, open_slide_of, ticks_of}
use Rattle.book_state.specs.Order.{never_opened_of}
use Rattle.book_joined.specs.Joined.{joined_of}
use Rattle.book.specs.Calls.{Outcome, opening_of, link_of, clock_of}
use Rattle.chain.specs.Chain.{ChainOutcome, chain_of}
use Rattle.file.specs.Format.{read_of}
use Rattle.file_play.specs.Play.{Play, play_of}
use Rattle.file_record.specs.Record.{pack_number, packed_of, record_of}
use Rattle.file_write.specs.Writer.{write_number, output_of}
use Rattle.listing.specs.Listing.{Listing, listing_of}
use Rattle.groups.specs.Call.{GroupsOutcome, groups_given}
use Rattle.lamps.specs.Lamps.{lamps_of}
use Rattle.text_list.specs.Call.{TextIn, text_in_of, TextOut, text_out_of}
use Rattle.kerb.specs.Interface.{version, book_size}
use Rattle.pledges.specs.Exported.{Exported, Definition, Pledged}
use Rattle.pledges.specs.Calls.{
  never_opened_call,
  opening_call,
  link_call,
  clock_call,
  play_call,
  joined_call,
  chain_call,
  groups_call,
  lamps_call,
  time_call,
  open_slide_call,
  slide_ticks_call,
  read_call,
  write_call,
  list_call,
  text_in_call,
  text_out_call,
  pack_call,
  unpack_call,
  lorry_cell_call,
  unit_cell_call,
  ring_call,
  sector_call,
  version_call,
  book_size_call,
}

-- a result: what is returned, then each parameter
infixr 20 ◌▸◌
abbrev pub ◌▸◌ : {A B : Type 0} → A → B → A × B
x ▸ y = (x, y)

abbrev pub kept : Unit {0}
kept = tt

-- the arguments by name
abbrev pub with1 {κ} : {A : Type 0} {X : Type κ} → A × Unit {0} → (A → X) → X
with1 a f = f a.0

abbrev pub with2 {κ} : {A B : Type 0} {X : Type κ} → A × (B × Unit {0}) → (A → B → X) → X
with2 a f = with1 a.1 (f a.0)

abbrev pub with3 {κ} : {A B C : Type 0} {X : Type κ} → A × (B × (C × Unit {0})) → (A → B → C → X) → X
with3 a f = with2 a.1 (f a.0)

abbrev pub with4 {κ} : {A B C D : Type 0} {X : Type κ} → A × (B × (C × (D × Unit {0}))) → (A → B → C → D → X) → X
with4 a f = with3 a.1 (f a.0)

abbrev pub with5 {κ} : {A B C D E : Type 0} {X : Type κ} → A × (B × (C × (D × (E × Unit {0})))) → (A → B → C → D → E → X) → X
with5 a f = with4 a.1 (f a.0)

-- something holds of every exported call and its definition
pub record EachCall (Holds : (f : Exported) → Definition f → Type 2) : Type 2 where
  pub kerb_never_opened_lem : Holds never_opened_call λ κs a. never_opened_of ▸ tt
  pub kerb_opening_lem : Holds opening_call λ κs a. with3 a λ book log s.
      let o : Outcome = opening_of book.now log.now s in
      o.number ▸ o.book ▸ o.log ▸ kept ▸ tt
  pub kerb_link_lem : Holds link_call λ κs a. with5 a λ book log tick one other.
      let o : Outcome = link_of book.now log.now tick one other in
      o.number ▸ o.book ▸ o.log ▸ kept ▸ kept ▸ kept ▸ tt
  pub kerb_clock_lem : Holds clock_call λ κs a. with3 a λ book log tick.
      let o : Outcome = clock_of book.now log.now tick in
      o.number ▸ o.book ▸ kept ▸ kept ▸ tt
  pub kerb_play_lem : Holds play_call λ κs a. with3 a λ book log file.
      let p : Play = play_of file.now book.now log.now in
      record { taken = p.taken; number = p.number } ▸ p.book ▸ p.log ▸ kept ▸ tt
  pub kerb_joined_lem : Holds joined_call λ κs a. with3 a λ book one other.
      joined_of book.now one other ▸ kept ▸ kept ▸ kept ▸ tt
  pub kerb_chain_lem : Holds chain_call λ κs a. with5 a λ book log one other chain.
      let o : ChainOutcome = chain_of book.now log.now chain.now one other in
      o.answer ▸ kept ▸ kept ▸ kept ▸ kept ▸ o.chain ▸ tt
  pub kerb_groups_lem : Holds groups_call λ κs a. with5 a λ book log first size hold.
      let o : GroupsOutcome = groups_given book.now log.now first.now size.now hold.now in
      o.answer ▸ kept ▸ kept ▸ o.first ▸ o.size ▸ o.hold ▸ tt
  pub kerb_lamps_lem : Holds lamps_call λ κs a. with3 a λ book log mask.
      lamps_of book.now log.now mask.now ▸ kept ▸ kept ▸ kept ▸ tt
  pub kerb_time_lem : Holds time_call λ κs a. with1 a λ book. time_of book.now.clock ▸ kept ▸ tt
  pub kerb_open_slide_lem : Holds open_slide_call λ κs a. with1 a λ book. open_slide_of book.now.clock ▸ kept ▸ tt
  pub kerb_slide_ticks_lem : Holds slide_ticks_call λ κs a. with2 a λ book slide. ticks_of book.now.clock slide ▸ kept ▸ kept ▸ tt
  pub kerb_read_lem : Holds read_call λ κs a. with1 a λ file. read_of file.now ▸ kept ▸ tt
  pub kerb_write_lem : Holds write_call λ κs a. with3 a λ s records out.
      write_number s (length records.now) (length out.now) ▸ kept ▸ kept ▸ output_of s records.now out.now ▸ tt
  pub kerb_list_lem : Holds list_call λ κs a. with2 a λ file out.
      let l : Listing = listing_of file.now out.now in
      l.answer ▸ kept ▸ l.output ▸ tt
  pub kerb_text_in_lem : Holds text_in_call λ κs a. with3 a λ s text out.
      let t : TextIn = text_in_of s text.now out.now in
      t.answer ▸ kept ▸ kept ▸ t.output ▸ tt
  pub kerb_text_out_lem : Holds text_out_call λ κs a. with2 a λ file out.
      let t : TextOut = text_out_of file.now out.now in
      t.answer ▸ kept ▸ t.output ▸ tt
  pub kerb_pack_lem : Holds pack_call λ κs a. with4 a λ tick one other out.
      pack_number (length out.now) ▸ kept ▸ kept ▸ kept ▸ packed_of tick one other out.now ▸ tt
  pub kerb_unpack_lem : Holds unpack_call λ κs a. with2 a λ records i. record_of records.now i ▸ kept ▸ kept ▸ tt
  pub kerb_lorry_cell_lem : Holds lorry_cell_call λ κs a. with2 a λ mounting cell.
      lorry_cell_of (record { mounting = mounting; pad = replicate 7 0 }) cell ▸ kept ▸ kept ▸ tt
  pub kerb_unit_cell_lem : Holds unit_cell_call λ κs a. with2 a λ mounting cell.
      unit_cell_of (record { mounting = mounting; pad = replicate 7 0 }) cell ▸ kept ▸ kept ▸ tt
  pub kerb_ring_lem : Holds ring_call λ κs a. with1 a λ cell. ring_of sectors cell ▸ kept ▸ tt
  pub kerb_sector_lem : Holds sector_call λ κs a. with1 a λ cell. sector_of sectors cell ▸ kept ▸ tt
  pub kerb_version_3_lem : Holds version_call λ κs a. version ▸ tt
  pub kerb_book_size_lem : Holds book_size_call λ κs a. book_size ▸ tt

abbrev pub Pledges : Type 2
Pledges = EachCall Pledged
