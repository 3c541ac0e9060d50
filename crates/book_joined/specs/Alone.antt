-- A cell that no parent step leaves or reaches: it is joined with no other.
use Rattle.std.specs.Prelude.{ℕ, Bool, cond, not, eqb}
use Rattle.numbers.specs.Kinds.{Cell}
use Rattle.forest_check.specs.Sound.{every}
use Rattle.forest.specs.Arrays.{fresh_parents_of}
use Rattle.book_state.specs.Arrays.{cells}

-- what a cell and its parent say of the cell that is asked for: it is its own parent, and no other cell's
abbrev pub spares : (asked cell : Cell) (parent : ℕ) → Bool
spares asked cell parent = cond (eqb cell asked) (eqb parent asked) (not (eqb parent asked))

-- all cells say so
abbrev pub alone_in_of : (up : Cell → Cell) (asked : Cell) → Bool
alone_in_of up asked = every (λ cell _. spares asked cell (up cell)) 0 (fresh_parents_of cells)
