-- `book_steady::grown` meets its contract: a pass over the cells (crates/forest_check/proofs/Every.antt) that stops at a size that
-- does not double, and adds up the roots' sizes. Each is at most 1,024, so their sum is a 32-bit number.
use Prim.Native.Nat.{ℕ, ◌*◌, ◌≤◌}
use mathlib.Core.Path.{◌≡◌}
use mathlib.Core.Bool.{true}
use mathlib.Core.List.{List}
use Rattle.forest.specs.Arrays.{places}
use Rattle.forest_check.specs.Sound.{doubles_at}
use Rattle.forest_check.proofs.Every.{Tested}
use Rattle.book_steady.specs.Steady.{root_cells}
use Rattle.book_steady.proofs.grown.Given as goal

-- the cells before i are tested, and the sizes of their roots are added up
pub record Counted (ps ss : List ℕ) (sum i : ℕ) : Type 0 where
  pub tested : Tested (doubles_at ss) ps true i
  pub summed : sum ≡ root_cells ps ss i
  pub small : sum ≤ i * places

abbrev pub invariant-loop-i : goal.invariant-loop-i
invariant-loop-i l = Counted l.parent l.size l.cells l.i
