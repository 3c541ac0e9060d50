-- `count` meets its contract: the search begins at the second cell (`counting_begins`), each turn keeps it (`counting_turns`), and
-- at its end the numbers are those of the best trails (`counting_ends`). The measure is what is left of the queue's places.
use Prim.Native.Nat.{◌-◌}
use Rattle.forest.specs.Arrays.{places}
use Rattle.chain_fewest.proofs.Counting.{Counting}
use Rattle.chain_fewest.proofs.levels.Search.count.Given as goal

abbrev pub invariant-loop-self : goal.invariant-loop-self
invariant-loop-self l = Counting l.links l.other l.self

abbrev pub decreases-loop-self : goal.decreases-loop-self
decreases-loop-self l = places - l.self.head
