-- What the code reads off a forest of the window's links: a group is a tree, and its least hold is the smallest label of a
-- parent step in it, less 1. That this is what Groups.antt says is proved (proofs/GroupTrees.antt).
use Rattle.std.specs.Prelude.{ℕ, ◌-◌, ◌≤◌, ◌<◌, min, cond, List, [], ◌∷◌, eqb, length, get_or}
use Rattle.numbers.specs.Kinds.{Cell, Label, Labels, Parents}
use Rattle.forest.specs.Arrays.{count_from, parent_in, label_in}
use Rattle.book_state.specs.Arrays.{cells}
use Rattle.window_groups.specs.declared.trees.Tallies.{Tallies}
use Rattle.window_groups.specs.declared.Groups.{Groups}
use Rattle.window_groups.specs.Groups.{filter, smallest, of_cells}

-- the root of a cell, in a list of the cells' roots
abbrev pub root_in : (roots : List Cell) (cell : Cell) → Cell
root_in roots c = get_or roots c 0

-- each root is a cell
abbrev pub Roots : (roots : List Cell) → Type 0
Roots roots = (c : ℕ) → root_in roots c < cells

-- the cells whose root is r
abbrev pub tree_of : (root : Cell → Cell) (r : Cell) → List Cell
tree_of root r = filter (λ c. eqb (root c) r) (count_from 0 cells)

-- what f gives of each root's tree
abbrev pub of_trees : (f : List Cell → ℕ) (root : Cell → Cell) → List ℕ
of_trees f root = of_cells (λ r. f (tree_of root r))

-- the label of c's step, if that is smaller; a root has no step
abbrev pub lower : (cell parent : Cell) (label least : Label) → Label
lower c parent label least = cond (eqb parent c) least (min label least)

-- the smallest label of a parent step from one of the cells; `top` where there is none
unfoldable pub least_label : (top : Label) (parent : Cell → Cell) (label : Cell → Label) (cells : List Cell) → Label
least_label top parent label [] = top
least_label top parent label (c ∷ cs) = lower c (parent c) (label c) (least_label top parent label cs)

-- of each root's tree its smallest cell, number of cells and smallest label
unfoldable pub tallies_of : (roots : List Cell) (parents : Parents) (labels : Labels) (top : Label) → Tallies
tallies_of roots ps ls top =
    record {
      first = of_trees smallest (root_in roots);
      count = of_trees length (root_in roots);
      least = of_trees (least_label top (parent_in ps) (label_in ls)) (root_in roots);
    }

-- what a list tells at the root of a cell
abbrev pub at_root : (roots : List Cell) (told : List ℕ) (cell : Cell) → ℕ
at_root roots told c = get_or told (root_in roots c) 0

-- and that is 1 or more, for each cell
abbrev pub FromOne : (roots : List Cell) (told : List ℕ) → Type 0
FromOne roots told = (c : ℕ) → c < cells → 1 ≤ at_root roots told c

-- of each cell what stands at its root; the hold is the smallest label, less 1
unfoldable pub groups_at : (roots : List Cell) (tallies : Tallies) (links : ℕ) → Groups
groups_at roots t links =
    record {
      first = of_cells (at_root roots t.first);
      count = of_cells (at_root roots t.count);
      hold = of_cells (λ c. at_root roots t.least c - 1);
      links = links;
    }
