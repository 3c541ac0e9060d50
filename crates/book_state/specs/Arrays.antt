-- How many cells a book has, and how many steps a walk takes at most; a labelled forest in three lists, and links united into it
-- one after the other (RULES 3).
use Rattle.std.specs.Prelude.{ℕ, Option, List, [], ◌∷◌}
use Rattle.numbers.specs.Kinds.{Label, Labels, Parents, Sizes}
use Rattle.graph.specs.Forest.{Labelled}
use Rattle.forest.specs.Arrays.{places, fresh_parents_of, fresh_sizes_of, fresh_labels_of}
use Rattle.forest_unite.specs.United.{merge_of_lem, merged_parents, merged_sizes, merged_labels}
use Rattle.forest_unite.specs.declared.Merge.{Merge}

-- the cells of a book. They are as many as trees of doubled sizes allow within the steps of a walk, and an array has a place for
-- each of them (proofs/Cells.antt)
abbrev pub cells : ℕ
cells = 1024

-- the most steps of a walk that number 1 allows
abbrev pub step_limit : ℕ
step_limit = 10

pub record Arrays : Type 0 where
  pub parents : List ℕ
  pub sizes : List ℕ
  pub labels : List ℕ

abbrev pub arrays_of : (parents : Parents) (sizes : Sizes) (labels : Labels) → Arrays
arrays_of parents sizes labels = record { parents = parents; sizes = sizes; labels = labels }

-- each cell its own root, of size 1
abbrev pub fresh_arrays : Arrays
fresh_arrays = record { parents = fresh_parents_of places; sizes = fresh_sizes_of places; labels = fresh_labels_of places }

abbrev pub merged_arrays : (arrays : Arrays) (label : Label) (merge : Option Merge) → Arrays
merged_arrays a label h = record { parents = merged_parents a.parents h; sizes = merged_sizes a.sizes h; labels = merged_labels a.labels h label }

-- one link more
unfoldable pub united : Arrays → Labelled → Arrays
united a x = merged_arrays a x.label (merge_of_lem a.parents a.sizes step_limit x.link.one x.link.other)

-- the links of a list, of which the LAST stands at the front
unfoldable pub united_all : Arrays → List Labelled → Arrays
united_all a [] = a
united_all a (x ∷ xs) = united (united_all a xs) x
