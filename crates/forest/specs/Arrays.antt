-- The labelled forest of RULES 3 in arrays: which forest of the crate graph the lists of
-- parents, sizes and labels hold, and what each function of this crate gives. The lists may have any length.
--
-- A cell beyond a list is its own root, of size 1, with the label 0. So fresh lists hold exactly `fresh`, and a store is
-- exactly `put`.
use Rattle.std.specs.Prelude.{ℕ, zero, suc, ◌<◌, ◌≤◌, cond, List, [], ◌∷◌, map, ltb, length, get_or, replicate}
use Rattle.numbers.specs.Kinds.{Cell, Label, Labels, Parents, Sizes}
use Rattle.graph.specs.Forest as graph
use Rattle.graph.specs.Forest.{Forest, climb}
use Rattle.forest.specs.declared.Walk.{Walk}

-- how long the arrays of cells are that the functions make and change; the lists of the definitions may have any length
abbrev pub places : ℕ
places = 1024

-- the parent, the size and the label that a list gives a cell
abbrev pub parent_in : (parents : Parents) (cell : Cell) → Cell
parent_in ps c = get_or ps c c

abbrev pub size_in : (sizes : Sizes) (cell : Cell) → ℕ
size_in ss c = get_or ss c 1

abbrev pub label_in : (labels : Labels) (cell : Cell) → Label
label_in ls c = get_or ls c 0

-- the forest that the lists hold
abbrev pub held : (parents : Parents) (sizes : Sizes) (labels : Labels) → Forest
held ps ss ls = record { parent = parent_in ps; size = size_in ss; label = label_in ls }

-- the numbers i, i + 1, .., n of them
unfoldable pub count_from : (first count : ℕ) → List ℕ
count_from i zero = []
count_from i (suc n) = i ∷ count_from (suc i) n

-- n cells, each its own root
abbrev pub fresh_parents_of : ℕ → List ℕ
fresh_parents_of n = count_from 0 n

-- of size 1
abbrev pub fresh_sizes_of : ℕ → List ℕ
fresh_sizes_of n = replicate n 1

abbrev pub fresh_labels_of : ℕ → List ℕ
fresh_labels_of n = replicate n 0

-- a walk of the crate graph as the functions hand it back
abbrev pub walked : graph.Walk → Walk
walked w = record { root = w.root; steps = w.steps }

-- a walk without a cut
abbrev pub walk_of : (parents : Parents) (limit : ℕ) (cell : Cell) → Walk
walk_of ps limit c = walked (climb (parent_in ps) limit c)

-- the parent at a cut: a step whose label is below the cut is not taken
abbrev pub parent_at_in : (parents : Parents) (labels : Labels) (cut : Label) (cell : Cell) → Cell
parent_at_in ps ls cut c = cond (ltb (label_in ls c) cut) c (parent_in ps c)

-- a walk at a cut
abbrev pub walk_at_of_lem : (parents : Parents) (labels : Labels) (limit : ℕ) (cut : Label) (cell : Cell) → Walk
walk_at_of_lem ps ls limit cut c = walked (climb (parent_at_in ps ls cut) limit c)

-- the roots of the cells 0 to n - 1, without a cut and at a cut
abbrev pub roots_of : (parents : Parents) (limit n : ℕ) → List Cell
roots_of ps limit n = map (λ c. (climb (parent_in ps) limit c).root) (fresh_parents_of n)

abbrev pub roots_at_of : (parents : Parents) (labels : Labels) (limit : ℕ) (cut : Label) (n : ℕ) → List Cell
roots_at_of ps ls limit cut n = map (λ c. (climb (parent_at_in ps ls cut) limit c).root) (fresh_parents_of n)

-- each cell's parent is a cell and its step has a label, the cells being as many as the list has places
pub record ParentsAreCells (parents : Parents) (labels : Labels) : Type 0 where
  pub inside : (cell : Cell) → cell < length parents → parent_in parents cell < length parents
  pub labelled : length parents ≤ length labels
