-- The numbers begin unknown, and what the descent asks holds once they are those of the best trails.
--
-- The links are between cells that have a place in an array of cells, and a best trail has no cell twice (graph, `best_few`). So it
-- has no more cells than such an array has places, and there is room for it.
use Prim.Native.Nat.{ℕ, ◌≤◌}
use native.Mathlib.Nat.{le_trans}
use mathlib.Core.List.{List}
use mathlib.Core.Logic.{⊎_elim}
use lib.ListN.{length}
use Rattle.forest.specs.Arrays.{places}
use Rattle.graph.specs.Trail.{trail_of}
use Rattle.graph.proofs.Trails.{trail_one}
use Rattle.graph.proofs.Distinct.{Inside, best_few}
use Rattle.graph.proofs.Finder.{trail_of_best}
use Rattle.chain_fewest.specs.Lists.{links_of}
use Rattle.chain_fewest.specs.Levels.{Counted}
use Rattle.chain_fewest.specs.Descent.{DescentReady}
use Rattle.chain_fewest.specs.Best.{TrailAskable}
use Rattle.chain_fewest.proofs.LinkLists.{linked_leads}

module _
    {ones others chain remaining : List ℕ} {one other : ℕ}
    (a : TrailAskable ones others one other chain)
    (k : Counted (links_of ones others) other remaining)
  where
    -- the best trail
    abbrev trail : List ℕ
    trail = trail_of (links_of ones others) one other

    inside : Inside places (links_of ones others)
    inside x y h =
        ⊎_elim (λ p. rw (← p.starts) (a.ones_inside p.link p.within)) (λ p. rw (← p.starts) (a.others_inside p.link p.within))
        (linked_leads ones others h)

    trail_fits : length trail ≤ places
    trail_fits = best_few places inside a.one_inside (trail_of_best a.chained)

    pub may_descend : DescentReady (links_of ones others) remaining one other chain
    may_descend =
        record {
          counted = k;
          known = rw (k.counts one) (trail_one (trail_of_best a.chained).trail);
          room = le_trans (rw (k.counts one) trail_fits) a.room;
        }
