-- The worked cases are what `ours` gives: an opening makes the front of the log zeros, whatever it was (`opened`). From there on
-- everything is computed.
use Rattle.std.specs.Prelude.{◌≡◌, refl, true, List, ◌∷◌, ◌++◌, drop, replicate}
use Rattle.std.proofs.Common.{◌∙◌, ap}
use Rattle.numbers.specs.Kinds.{Log}
use Rattle.graph.specs.Link.{chains}
use Rattle.graph.specs.Trail.{trail_of}
use Rattle.graph.specs.Forest.{climb, at_least}
use Rattle.settings.specs.Settings.{taken_number, fitting_of}
use Rattle.settings.specs.declared.Settings.{Settings}
use Rattle.cells.specs.Cell.{lorry_cell_over}
use Rattle.cells.specs.Touching.{touch_over}
use Rattle.slides.specs.Counter.{ahead, counter_at_of}
use Rattle.slides.specs.Clock.{not_before_of, total_with_of, slide_of, open_slide_of, place_of, started, moved_to, clock_in_range}
use Rattle.forest.specs.Arrays.{count_from}
use Rattle.forest_check.specs.Sound.{every}
use Rattle.book_state.specs.declared.Book.{Book}
use Rattle.book_state.specs.Arrays.{united, united_all}
use Rattle.book_state.specs.Log.{links_at, chunk_links, stored}
use Rattle.book_state.specs.Order.{in_order_of}
use Rattle.book_time.specs.Time.{cleared, emptied, stayed, backward_of, turned, moved_by_chunk, moved_book}
use Rattle.numbers.specs.Checks.{first_of, has}
use Rattle.book_state.specs.Numbers.{log_places}
use Rattle.book_joined.specs.Joined.{parent_steps, parent_steps_at, step_links, four_walks, joined_number_of, joined_by_number, joined_of}
use Rattle.book.specs.Calls.{Outcome, opening_number_of, opening_by_number, opening_of, link_number_of, link_stored, link_by_number, link_of, clock_number_of, clock_by_number, clock_of}
use Rattle.window.specs.Window.{links_from_age, window_links, highest}
use Rattle.chain.specs.Chain.{chain_number, chain_by_number, chain_of}
use Rattle.demands.specs.History.{opening}
use Rattle.demands.specs.Implementation.{state_of, gives}
use Rattle.demands_cases.specs.Cases.{Step, call, called, given, stated, script, Cases}

-- what an opening that is taken leaves, whatever book and log it was given
opened : (b : Book) (log : Log) (s : Settings) → taken_number s ≡ 0 → has log_places log ≡ true →
    opening_of b log s ≡ record { book = emptied (started s) (fitting_of s); log = replicate log_places 0 ++ drop log_places log; number = 0 }
unfolding opening_of opening_number_of opening_by_number first_of
opened b log s taken room = rw (taken, room)

-- so a script that begins with one goes on from there
from_opening : (b : Book) (log : Log) (s : Settings) (ds : List Step) → taken_number s ≡ 0 → has log_places log ≡ true →
    given (record { book = b; log = log }) (call (opening s) 0 ∷ ds)
    ≡ called 0 ∷ given (record { book = emptied (started s) (fitting_of s); log = replicate log_places 0 ++ drop log_places log }) ds
unfolding given gives
from_opening b log s ds taken room = ap (λ (o : Outcome). called o.number ∷ given (state_of o) ds) (opened b log s taken room)

-- the settings of the first opening, and what follows it
abbrev settings : Settings
settings = record { t0 = 0; b = 10; n = 3; mounting = 1 }

abbrev later : List Step
later = drop 1 script

-- for any log places from 16,384 on
computed : (rest : Log) → given (record { book = emptied (started settings) (fitting_of settings); log = replicate log_places 0 ++ rest }) later ≡ stated later
unfolding given stated gives opening_of link_of clock_of joined_of chain_of opening_number_of opening_by_number stored link_number_of link_stored link_by_number clock_number_of clock_by_number parent_steps parent_steps_at step_links four_walks joined_number_of joined_by_number chain_number chain_by_number highest window_links links_from_age at_least trail_of first_of has cleared emptied stayed backward_of turned moved_by_chunk moved_book in_order_of links_at chunk_links united united_all every count_from ahead counter_at_of not_before_of total_with_of slide_of open_slide_of place_of moved_to clock_in_range lorry_cell_over touch_over climb chains
computed rest = refl

pub cases : Cases
unfolding stated
cases b log room = from_opening b log settings later refl room ∙ ap (λ rows. called 0 ∷ rows) (computed (drop log_places log))
