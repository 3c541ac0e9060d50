-- `book_joined::alone_in` meets its contract: a pass over the cells, with their parents at the cut, that counts; the flag is whether nothing
-- was counted so far.
use Prim.Native.Nat.{◌≤◌}
use lib.Dec.{eqb}
use Rattle.forest.specs.Arrays.{fresh_parents_of, parent_at_in}
use Rattle.forest_check.proofs.Every.{Tested}
use Rattle.book_state.specs.Arrays.{cells}
use Rattle.book_joined.specs.Alone.{spares}
use Rattle.book_joined.proofs.alone_in.Given as goal

abbrev pub invariant-loop-cell : goal.invariant-loop-cell
invariant-loop-cell l =
    Tested (λ c _. spares l.asked c (parent_at_in l.parent l.label l.cut c)) (fresh_parents_of cells) (eqb l.steps 0) l.cell × (l.steps ≤ l.cell)
