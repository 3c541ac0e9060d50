-- What a link does to a forest in arrays (RULES 3): of two different roots the one with the
-- smaller tree becomes a child of the other. Parents are never shortened.
use Rattle.std.specs.Prelude.{◌≡◌, ℕ, ◌+◌, ◌%◌, ◌^◌, cond, List, Option, Some, None, ◌==◌, slice_set}
use Rattle.numbers.specs.Kinds.{Cell, Label, Labels, Parents, Sizes}
use Rattle.graph.specs.Forest.{climb, goes_under_of}
use Rattle.forest.specs.Arrays.{parent_in, size_in}
use Rattle.forest_unite.specs.declared.Merge.{Merge}

-- the root `child` under the root `top`, whose tree then has the cells of both; the sum is a 16-bit number
abbrev pub under : (sizes : Sizes) (child top : Cell) → Merge
under ss child top = record { child = child; top = top; size = (size_in ss top + size_in ss child) % 2 ^ 16 }

-- which root goes under which: of two different roots the one with the smaller tree, and on equal sizes the larger number; one root
-- alone is merged with nothing
abbrev pub merge_of_roots_of : (sizes : Sizes) (a b : Cell) → Option Merge
merge_of_roots_of ss a b = cond (a == b) None (cond (goes_under_of (size_in ss) a b) (Some (under ss a b)) (Some (under ss b a)))

-- what a link of `one` and `other` does to the forest
abbrev pub merge_of_lem : (parents : Parents) (sizes : Sizes) (limit : ℕ) (one other : Cell) → Option Merge
merge_of_lem ps ss limit one other = merge_of_roots_of ss (climb (parent_in ps) limit one).root (climb (parent_in ps) limit other).root

-- parents, sizes and labels after it
abbrev pub merged_parents : (parents : Parents) (merge : Option Merge) → Parents
merged_parents ps None = ps
merged_parents ps (Some h) = slice_set ps h.child h.top

abbrev pub merged_sizes : (sizes : Sizes) (merge : Option Merge) → Sizes
merged_sizes ss None = ss
merged_sizes ss (Some h) = slice_set ss h.top h.size

abbrev pub merged_labels : (labels : Labels) (merge : Option Merge) (label : Label) → Labels
merged_labels ls None label = ls
merged_labels ls (Some h) label = slice_set ls h.child label

-- what one link more, with the label, makes of parents, sizes and labels
pub record United (ps ss ls : List ℕ) (limit one other label : ℕ) (ps' ss' ls' : List ℕ) : Type 0 where
  pub parents : ps' ≡ merged_parents ps (merge_of_lem ps ss limit one other)
  pub sizes : ss' ≡ merged_sizes ss (merge_of_lem ps ss limit one other)
  pub labels : ls' ≡ merged_labels ls (merge_of_lem ps ss limit one other) label
