-- What the inner functions do. Links are joined in scratch parents, one after the other, and the two ends of each are marked; at last each
-- cell has its root for its parent.
use Rattle.std.specs.Prelude.{ℕ, ◌<◌, ◌≡◌, set}
use mathlib.Core.List.{List, foldl}
use Rattle.numbers.specs.Kinds.{Parents}
use Rattle.graph.specs.Link.{Link}
use Rattle.forest.specs.Arrays.{places, parent_in}
use Rattle.forest_scratch.specs.Scratch.{Descends, join_of, Root, Stands}

-- the parents with one link more: the trees of its two ends are joined
abbrev pub with_link : (parents : Parents) (link : Link) → Parents
with_link ps l = join_of ps l.one l.other

-- and the marks: its two ends have 1
abbrev pub with_ends : (marks : List ℕ) (link : Link) → List ℕ
with_ends marks l = set (set marks l.one 1) l.other 1

-- from parents and marks to those with all of the links
pub record Joins (links : List Link) (ps marks ps' marks' : List ℕ) : Type 0 where
  pub falls : Descends ps'
  pub joined : ps' ≡ foldl with_link ps links
  pub marked : marks' ≡ foldl with_ends marks links

-- each cell's parent is a root, and whatever the parents stood for they still stand for
pub record ToRoots (ps ps' : List ℕ) : Type 0 where
  pub stands : (key : ℕ → ℕ) → Stands key ps → Stands key ps'
  pub roots : (c : ℕ) → c < places → Root ps' (parent_in ps' c)
