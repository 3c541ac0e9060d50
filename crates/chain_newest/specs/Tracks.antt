-- Two cells whose roots are followed while links are joined in scratch parents.
use Rattle.std.specs.Prelude.{ℕ, ◌≡◌, List, ◌++◌}
use Rattle.graph.specs.Link.{Link, Chained, group}
use Rattle.forest_scratch.specs.declared.Roots.{Roots}
use Rattle.forest_scratch.specs.Scratch.{Descends, Stands, RootOf}

-- the parents are those of the links that are joined, and the roots those of the two cells
pub record Tracks (links : List Link) (one other : ℕ) (ps : List ℕ) (roots : Roots) : Type 0 where
  pub stands : Stands (group links) ps
  pub one_root : RootOf (group links) ps one roots.one
  pub other_root : RootOf (group links) ps other roots.other

-- more links are joined, up to the one with which the two cells meet: whichever links there were before, and whichever the two are
pub record Follows (more : List Link) (ps : List ℕ) (from : Roots) (ps' : List ℕ) (to : Roots) : Type 0 where
  pub falls : Descends ps'
  pub met : (links : List Link) (one other : ℕ) → Tracks links one other ps from → to.one ≡ to.other → Chained (links ++ more) one other
  pub apart : (links : List Link) (one other : ℕ) → Tracks links one other ps from → (to.one ≡ to.other → ⊥) → Tracks (links ++ more) one other ps' to
