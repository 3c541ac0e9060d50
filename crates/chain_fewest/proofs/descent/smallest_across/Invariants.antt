-- `smallest_across` meets its contract. The loop's invariant: what is found is the smallest so far (`Finding`). The measure is
-- what is left of the links.
use Prim.Native.Nat.{◌-◌}
use lib.ListN.{length}
use Rattle.chain_fewest.proofs.Nearest.{Finding}
use Rattle.chain_fewest.proofs.descent.smallest_across.Given as goal

abbrev pub invariant-loop-link : goal.invariant-loop-link
invariant-loop-link l = Finding l.side l.remaining l.cell l.number l.best l.found l.link

abbrev pub decreases-loop-link : goal.decreases-loop-link
decreases-loop-link l = length l.side.from.now - l.link
