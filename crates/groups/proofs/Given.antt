-- What the groups call gives where no check fails: each of the three lists has a number of each cell, for which its output has room.
use Rattle.std.proofs.Common.{◌≡◌, ℕ, ◌≤◌, true, ◌&&◌, List, [], ◌∷◌, ◌++◌, length, drop, arith}
use Rattle.std.proofs.lemmas.Grind.{common_steps}
use Rattle.numbers.specs.Checks.{first_of, unless, has}
use Rattle.numbers.proofs.Checks.{has_length}
use Rattle.forest.proofs.Fill.{length_each}
use Rattle.slides.specs.declared.Clock.{Clock}
use Rattle.book_state.specs.declared.Book.{Book}
use Rattle.book_state.specs.Arrays.{cells}
use Rattle.book_state.specs.Numbers.{log_places}
use Rattle.book_state.specs.Order.{in_order_of}
use Rattle.window_groups.specs.declared.Groups.{Groups}
use Rattle.window_groups.specs.Groups.{groups_of}
use Rattle.groups.specs.Call.{groups_by_number, groups_given, GivesGroups}

pub gives : (b : Book) (log first size hold : List ℕ) {g : Groups} {f s h : List ℕ}
    → first_of (unless (in_order_of b) 1 ∷ unless (has log_places log) 6 ∷ []) ≡ 0 → (has cells first && has cells size && has cells hold) ≡ true
    → {clock : Clock} {counts read : List ℕ} → (clock ≡ b.clock) × (counts ≡ b.counts) × (read ≡ log) → g ≡ groups_of clock counts read
    → (length g.first ≤ length first → f ≡ g.first ++ drop (length g.first) first)
    → (length g.count ≤ length size → s ≡ g.count ++ drop (length g.count) size)
    → (length g.hold ≤ length hold → h ≡ g.hold ++ drop (length g.hold) hold)
    → GivesGroups (groups_given b log first size hold) (record { links = g.links; number = 0 }) f s h
unfolding groups_given groups_by_number first_of groups_of
gives b log first size hold done room of is firsts sizes holds = grind (arith, common_steps, has_length, length_each)
