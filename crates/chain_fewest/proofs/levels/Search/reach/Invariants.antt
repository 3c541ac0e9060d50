-- `reach` meets its contract. The loop's invariant: the search holds, and the cells across the links that are passed have their
-- numbers (`Reaching`, `Passed`). The measure is what is left of the links.
use Prim.Native.Nat.{◌-◌}
use lib.ListN.{length}
use Rattle.chain_fewest.proofs.Reach.{Reaching, Passed}
use Rattle.chain_fewest.proofs.levels.Search.reach.Given as goal

abbrev pub invariant-loop-link : goal.invariant-loop-link
invariant-loop-link l = Reaching l.side l.initial.self l.cell l.number l.self × Passed l.side l.self l.cell l.link

abbrev pub decreases-loop-link : goal.decreases-loop-link
decreases-loop-link l = length l.side.from.now - l.link
