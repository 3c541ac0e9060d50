-- What opening, link and clock give, for every book, log and argument (RULES 7). Each call is
-- one total number, the first check that fails in the order of the table; its effects follow where that is 0, and a refusal
-- changes nothing.
use Rattle.std.specs.Prelude.{ℕ, zero, suc, ◌+◌, ◌≤◌, ◌<◌, ◌≡◌, Bool, Option, List, [], ◌∷◌, ◌++◌, ltb, length, get_or, set, drop, replicate}
use Rattle.numbers.specs.Kinds.{Cell, Log, Number, Tick}
use Rattle.settings.specs.Settings.{taken_number, fitting_of}
use Rattle.settings.specs.declared.Settings.{Settings}
use Rattle.cells.specs.Cell.{lorry_cell_of}
use Rattle.cells.specs.Touching.{touch}
use Rattle.slides.specs.Clock.{not_before_of, slide_of, open_slide_of, chunk_of, place_of, started}
use Rattle.slides.specs.declared.Clock.{Clock}
use Rattle.forest_unite.specs.United.{merge_of_lem, merged_parents, merged_sizes}
use Rattle.forest_unite.specs.declared.Merge.{Merge}
use Rattle.book_state.specs.declared.Book.{Book}
use Rattle.book_state.specs.Arrays.{step_limit}
use Rattle.numbers.specs.Checks.{first_of, unless, has}
use Rattle.book_state.specs.Numbers.{log_places, are_cells_of}
use Rattle.book_state.specs.Log.{half_of, spot_of, start_of, stored}
use Rattle.book_state.specs.Order.{in_order_of}
use Rattle.book_time.specs.Time.{emptied, moved_book}

-- the book and its log together are the state; what a call makes of it, and the number that it gives
pub record Outcome : Type 0 where
  pub book : Book
  pub log : List ℕ
  pub number : ℕ

-- the book after a call, and the number that it gives
pub record Answer : Type 0 where
  pub book : Book
  pub number : Number

-- an answer and a log are those of an outcome
pub record Gives (o : Outcome) (answer : Answer) (log : List ℕ) : Type 0 where
  pub answered : answer ≡ record { book = o.book; number = o.number }
  pub logged : log ≡ o.log

-- ---- opening: 2, 6

unfoldable pub opening_number_of : (settings : Settings) (log : Log) → Number
opening_number_of s log = first_of (taken_number s ∷ unless (has log_places log) 6 ∷ [])

unfoldable pub opening_by_number : (number : Number) (book : Book) (log : Log) (settings : Settings) → Outcome
opening_by_number zero b log s =
    record { book = emptied (started s) (fitting_of s); log = replicate log_places 0 ++ drop log_places log; number = 0 }
opening_by_number (suc k) b log s = record { book = b; log = log; number = suc k }

unfoldable pub opening_of : (book : Book) (log : Log) (settings : Settings) → Outcome
opening_of b log s = opening_by_number (opening_number_of s log) b log s

-- ---- link: 1, 6, 3, 14, 4, 5

-- given whether the book is in order, its clock, and how many links the link's slide holds: that of the total which its tick makes, and so
-- no matter of the tick alone (RULES 2.4)
abbrev pub link_number_in : (ordered : Bool) (clock : Clock) (held : ℕ) (log : Log) (tick : Tick) (one other : Cell) → Number
link_number_in ordered clock held log tick one other =
    first_of
    (unless ordered 1
    ∷ unless (has log_places log) 6
    ∷ unless (are_cells_of one other) 3
    ∷ unless (touch one other) 14
    ∷ unless (not_before_of clock tick) 4
    ∷ unless (ltb held 256) 5
    ∷ [])

unfoldable pub link_number_of : (book : Book) (log : Log) (tick : Tick) (one other : Cell) → Number
link_number_of b log tick one other = link_number_in (in_order_of b) b.clock (stored b (slide_of b.clock tick)) log tick one other

-- the spot of the open slide
abbrev pub open_spot : Clock → ℕ
open_spot clock = spot_of (half_of (chunk_of clock (open_slide_of clock))) (place_of clock (open_slide_of clock))

-- what storing a link needs: the open slide has room for one more, in the counts and in the log
pub record Room (clock : Clock) (counts log : List ℕ) : Type 0 where
  pub spot : open_spot clock < 32
  pub few : get_or counts (open_spot clock) 0 < 256
  pub long : start_of 32 ≤ length log

-- a link of two of the lorry's cells stored in the open slide
unfoldable pub link_stored : (book : Book) (log : Log) (one other : Cell) → Outcome
link_stored b log one other =
    let spot : ℕ = open_spot b.clock in
    let count : ℕ = get_or b.counts spot 0 in
    let at : ℕ = start_of spot + (count + count) in
    let h : Option Merge = merge_of_lem b.forward_parent b.forward_size step_limit one other in
    record {
      book =
          record {
            forward_parent = merged_parents b.forward_parent h;
            forward_size = merged_sizes b.forward_size h;
            backward_parent = b.backward_parent;
            backward_size = b.backward_size;
            counts = set b.counts spot (count + 1);
            clock = b.clock;
            backward_label = b.backward_label;
            fitting = b.fitting;
          };
      log = set (set log at one) (at + 1) other;
      number = 0;
    }

-- the time moves first, and the link is in the slide that is open then; links arrive in the unit's numbers and are stored in the lorry's
unfoldable pub link_by_number : (number : Number) (book : Book) (log : Log) (tick : Tick) (one other : Cell) → Outcome
link_by_number zero b log tick one other =
    link_stored (moved_book b log tick) log (lorry_cell_of b.fitting one) (lorry_cell_of b.fitting other)
link_by_number (suc k) b log tick one other = record { book = b; log = log; number = suc k }

unfoldable pub link_of : (book : Book) (log : Log) (tick : Tick) (one other : Cell) → Outcome
link_of b log tick one other = link_by_number (link_number_of b log tick one other) b log tick one other

-- ---- clock: 1, 6, 4

abbrev pub clock_number_in : (ordered : Bool) (clock : Clock) (log : Log) (tick : Tick) → Number
clock_number_in ordered clock log tick =
    first_of (unless ordered 1 ∷ unless (has log_places log) 6 ∷ unless (not_before_of clock tick) 4 ∷ [])

unfoldable pub clock_number_of : (book : Book) (log : Log) (tick : Tick) → Number
clock_number_of b log tick = clock_number_in (in_order_of b) b.clock log tick

unfoldable pub clock_by_number : (number : Number) (book : Book) (log : Log) (tick : Tick) → Outcome
clock_by_number zero b log tick = record { book = moved_book b log tick; log = log; number = 0 }
clock_by_number (suc k) b log tick = record { book = b; log = log; number = suc k }

unfoldable pub clock_of : (book : Book) (log : Log) (tick : Tick) → Outcome
clock_of b log tick = clock_by_number (clock_number_of b log tick) b log tick
