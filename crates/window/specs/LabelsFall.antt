-- Labels that never rise along a list, as those of the window's links, newest slide first.
use Rattle.std.specs.Prelude.{◌≤◌, List, [], ◌∷◌}
use Rattle.numbers.specs.Kinds.{Label}
use Rattle.graph.specs.Forest.{Labelled}

-- each label is at most `top`, and at most the label before it
pub data LabelsFall : (top : Label) (links : List Labelled) → Type 0 where
  none : {top : Label} → LabelsFall top []
  next : {top : Label} {x : Labelled} {xs : List Labelled} → x.label ≤ top → LabelsFall x.label xs → LabelsFall top (x ∷ xs)
