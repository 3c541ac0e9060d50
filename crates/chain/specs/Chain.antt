-- The chain call (RULES 5), for every book, log, pair of cells and chain buffer: order 1, 6, 3, 7.
--
-- The labels of window say it in one go. With j the largest label such that the links from it on chain the two, L is
-- k + j - n and the hold is j - 1. A cell and itself are chained with no link at all, so j is then n + 1: L is k + 1 and the hold n.
use Rattle.std.specs.Prelude.{ℕ, zero, suc, ◌+◌, ◌-◌, ◌≡◌, ◌&&◌, List, [], ◌∷◌, ltb, length, Result, Ok, Err}
use Rattle.numbers.specs.Front.{at_front}
use Rattle.numbers.specs.Kinds.{Cell, Counts, Label, Log, Number}
use Rattle.graph.specs.Trail.{trail_of}
use Rattle.slides.specs.Clock.{open_slide_of}
use Rattle.slides.specs.declared.Clock.{Clock}
use Rattle.refusals.specs.declared.Refusal.{Refusal}
use Rattle.refusals.specs.Number.{code_of}
use Rattle.book_state.specs.declared.Book.{Book}
use Rattle.book_state.specs.Order.{in_order_of}
use Rattle.numbers.specs.Checks.{first_of, unless, has}
use Rattle.book_state.specs.Numbers.{log_places, are_cells_of}
use Rattle.window.specs.Window.{window_links, links_from_label, highest}
use Rattle.chain.specs.declared.Chain.{Chain}
use Rattle.chain.specs.declared.ChainAnswer.{ChainAnswer}

-- how many places the chain buffer must have
abbrev pub chain_places : ℕ
chain_places = 1024

-- the largest label such that the window's links from it on chain the two; 0 where no links do
abbrev pub label_of : (clock : Clock) (counts : Counts) (log : Log) (one other : Cell) → Label
label_of clock counts log one other = highest (suc clock.n) (window_links clock counts log) one other

-- the chain handed back
abbrev pub chain_cells : (clock : Clock) (counts : Counts) (log : Log) (one other : Cell) → List Cell
chain_cells clock counts log one other =
    trail_of (links_from_label (label_of clock counts log one other) (window_links clock counts log)) one other

-- what the window is asked: 7
abbrev pub trail_number : (clock : Clock) (counts : Counts) (log : Log) (one other : Cell) → Number
trail_number clock counts log one other = unless (ltb 0 (label_of clock counts log one other)) 7

unfoldable pub chain_number : (book : Book) (log : Log) (chain : List Cell) (one other : Cell) → Number
chain_number b log chain one other =
    first_of
    (unless (in_order_of b) 1
    ∷ unless (has log_places log && has chain_places chain) 6
    ∷ unless (are_cells_of one other) 3
    ∷ trail_number b.clock b.counts log one other
    ∷ [])

-- what is told through the interface: the number of the table, and with 0 what was found
abbrev pub told : Result Chain Refusal → ChainAnswer
told (Ok chain) = record { newest = chain.newest; cells = chain.cells; hold = chain.hold; number = 0 }
told (Err refusal) = record { newest = 0; cells = 0; hold = 0; number = code_of refusal }

-- the answer, and what the chain buffer holds afterwards
pub record ChainOutcome : Type 0 where
  pub answer : ChainAnswer
  pub chain : List Cell

-- by the number; the chain is written to the front of the buffer, and later places keep what they had
unfoldable pub chain_by_number : (number : Number) (clock : Clock) (counts : Counts) (log : Log) (chain : List Cell) (one other : Cell) → ChainOutcome
chain_by_number zero clock counts log chain one other =
    let j : Label = label_of clock counts log one other in
    let cs : List Cell = chain_cells clock counts log one other in
    record {
      answer = record { newest = open_slide_of clock + j - clock.n; cells = length cs; hold = j - 1; number = 0 };
      chain = at_front cs chain;
    }
chain_by_number (suc k) clock counts log chain one other =
    record { answer = record { newest = 0; cells = 0; hold = 0; number = suc k }; chain = chain }

unfoldable pub chain_of : (book : Book) (log : Log) (chain : List Cell) (one other : Cell) → ChainOutcome
chain_of b log chain one other = chain_by_number (chain_number b log chain one other) b.clock b.counts log chain one other

-- an answer and a chain buffer are those of an outcome
pub record GivesChain (o : ChainOutcome) (answer : ChainAnswer) (chain : List Cell) : Type 0 where
  pub answered : answer ≡ o.answer
  pub written : chain ≡ o.chain
