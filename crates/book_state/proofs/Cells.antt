-- The cells of a book, the steps of a walk and the places of an array fit together. A change of the one definition that breaks
-- this is refused here.
use Prim.Native.Nat.{◌^◌, ◌≤◌}
use mathlib.Core.Path.{◌≡◌, refl}
use native.Mathlib.Omega.{arith}
use Rattle.forest.specs.Arrays.{places}
use Rattle.book_state.specs.Arrays.{cells, step_limit}

-- each step of a walk doubles the size of a tree, which is 1 at least and as many as the cells at most
pub cells_doubled : cells ≡ 2 ^ step_limit
cells_doubled = refl

-- each cell has a place
pub cells_placed : cells ≤ places
cells_placed = omega arith
