-- `forest_scratch::find` meets its contract: the loop of proofs/Shorter.antt, in which the cell falls.
use Rattle.forest_scratch.proofs.Shorter.{Going}
use Rattle.forest_scratch.proofs.find.Given as goal

abbrev pub invariant-loop-cell : goal.invariant-loop-cell
invariant-loop-cell l = Going l.initial.parent l.cell l.parent l.at

abbrev pub decreases-loop-cell : goal.decreases-loop-cell
decreases-loop-cell l = l.at
