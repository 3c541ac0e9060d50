-- The labelled forest of links in arrays.
use Rattle.std.specs.Prelude.{List, reverse}
use Rattle.graph.specs.Forest.{Labelled}
use Rattle.book_state.specs.Arrays.{Arrays, fresh_arrays, united_all}
use Rattle.window_forest.specs.declared.LinkForest.{LinkForest}

-- each cell its own root, and then the links united, the first of them first
abbrev pub grown_arrays : (links : List Labelled) → Arrays
grown_arrays xs = united_all fresh_arrays (reverse xs)

unfoldable pub grown_from : (links : List Labelled) → LinkForest
grown_from xs = record { parent = (grown_arrays xs).parents; label = (grown_arrays xs).labels }
