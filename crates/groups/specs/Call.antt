-- The groups of a book's window as a call (RULES 8.9), for every book and every buffer: one total number, 1 or 6, the first check that
-- fails; where it is 0 the groups go to the fronts of three lent outputs, and a refusal changes nothing.
use Rattle.std.specs.Prelude.{ℕ, zero, suc, ◌≡◌, Bool, List, [], ◌∷◌, Result, Ok, Err}
use Rattle.numbers.specs.Kinds.{Log, Number}
use Rattle.numbers.specs.Checks.{first_of, unless, has}
use Rattle.numbers.specs.Front.{at_front}
use Rattle.refusals.specs.declared.Refusal.{Refusal}
use Rattle.refusals.specs.Number.{code_of}
use Rattle.book_state.specs.declared.Book.{Book}
use Rattle.book_state.specs.Arrays.{cells}
use Rattle.book_state.specs.Numbers.{log_places}
use Rattle.book_state.specs.Order.{in_order_of}
use Rattle.window_groups.specs.declared.Groups.{Groups}
use Rattle.groups.specs.declared.GroupsAnswer.{GroupsAnswer}
use Rattle.window_groups.specs.Groups.{groups_of}

-- what the call tells through the interface: the number of the table, and with 0 how many links the window holds
abbrev pub told : Result ℕ Refusal → GroupsAnswer
told (Ok links) = record { links = links; number = 0 }
told (Err refusal) = record { links = 0; number = code_of refusal }

-- what is given, and what the three outputs hold afterwards
pub record GroupsOutcome : Type 0 where
  pub answer : GroupsAnswer
  pub first : List ℕ
  pub size : List ℕ
  pub hold : List ℕ

-- for a book in order or not: the log and the three outputs are long enough
abbrev pub groups_number_in : (ordered : Bool) (log first size hold : List ℕ) → Number
groups_number_in ordered log first size hold =
    first_of
    (unless ordered 1
    ∷ unless (has log_places log) 6
    ∷ unless (has cells first) 6
    ∷ unless (has cells size) 6
    ∷ unless (has cells hold) 6
    ∷ [])

-- of each cell its group's smallest cell, number of cells and least hold at the fronts; how many links the window holds
unfoldable pub groups_by_number : (number : Number) (groups : Groups) (first size hold : List ℕ) → GroupsOutcome
groups_by_number zero g first size hold =
    record {
      answer = record { links = g.links; number = 0 };
      first = at_front g.first first;
      size = at_front g.count size;
      hold = at_front g.hold hold;
    }
groups_by_number (suc k) g first size hold = record { answer = record { links = 0; number = suc k }; first = first; size = size; hold = hold }

unfoldable pub groups_given : (book : Book) (log : Log) (first size hold : List ℕ) → GroupsOutcome
groups_given b log first size hold =
    groups_by_number (groups_number_in (in_order_of b) log first size hold) (groups_of b.clock b.counts log) first size hold

-- an answer and three outputs are those of an outcome
pub record GivesGroups (o : GroupsOutcome) (answer : GroupsAnswer) (first size hold : List ℕ) : Type 0 where
  pub answered : answer ≡ o.answer
  pub firsts : first ≡ o.first
  pub sizes : size ≡ o.size
  pub holds : hold ≡ o.hold
