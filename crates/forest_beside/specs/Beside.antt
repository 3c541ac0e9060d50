-- Scratch parents beside a labelled forest in arrays: two cells have one root in the one exactly when they have in the other.
use Rattle.std.specs.Prelude.{ℕ, ◌<◌, min, ◌≡◌, cond, Option, Some, None, List, map, eqb, length, get_or, set}
use Rattle.numbers.specs.Kinds.{Cell}
use Rattle.graph.specs.Link.{Link, group}
use Rattle.graph.specs.Forest.{Labelled, climb, EndsBelow}
use Rattle.forest.specs.Arrays.{parent_in}
use Rattle.book_state.specs.Arrays.{cells, step_limit, Arrays, fresh_arrays, united_all}
use Rattle.forest_unite.specs.declared.Merge.{Merge}
use Rattle.forest_unite.specs.United.{merge_of_lem}
use Rattle.forest_scratch.specs.declared.Roots.{Roots}
use Rattle.forest_beside.specs.declared.Scratch.{Scratch}
use Rattle.forest_scratch.specs.Scratch.{roots_of, Root, Stands}

-- the forest's root of a cell
abbrev pub root_in : (arrays : Arrays) (cell : Cell) → Cell
root_in a c = (climb (parent_in a.parents) step_limit c).root

abbrev pub links_of : (links : List Labelled) → List Link
links_of xs = map (λ x. x.link) xs

-- both are of the same links, and the tops are the forest's roots of the scratch roots
pub record Beside (a : Arrays) (s : Scratch) : Type 0 where
  pub done : List Labelled
  pub ends : EndsBelow cells done
  pub built : a ≡ united_all fresh_arrays done
  pub stands : Stands (group (links_of done)) s.parents
  pub long : length s.tops ≡ cells
  pub tops : (c : ℕ) → c < cells → Root s.parents c → get_or s.tops c 0 ≡ root_in a c

-- the tops where the root that two scratch trees are joined under has the top of the forest's merge
abbrev pub topped : (tops : List ℕ) (root : Cell) (merge : Option Merge) → List ℕ
topped ts root None = ts
topped ts root (Some h) = set ts root h.top

-- the tops after a link: where two trees are joined, the new scratch root has the forest's new root
abbrev pub tops_of : (arrays : Arrays) (scratch : Scratch) (one other : Cell) → List ℕ
tops_of a s one other =
    let r : Roots = roots_of s.parents one other in
    cond (eqb r.one r.other) s.tops (topped s.tops (min r.one r.other) (merge_of_lem a.parents a.sizes step_limit one other))
