-- `descend` meets its contract. The loop's invariant: the best trail is what is written and then the best trail from the cell
-- (`Descending`). The measure is the cell's number.
use lib.ListN.{get_or}
use Rattle.chain_fewest.specs.Joined.{joined_by}
use Rattle.chain_fewest.proofs.Descending.{Descending}
use Rattle.chain_fewest.proofs.descent.descend.Given as goal

abbrev pub invariant-loop-cell : goal.invariant-loop-cell
invariant-loop-cell l = Descending (joined_by l.links) l.remaining l.one l.other l.initial.chain l.chain l.place l.cell

abbrev pub decreases-loop-cell : goal.decreases-loop-cell
decreases-loop-cell l = get_or l.remaining l.cell 0
