-- `lamps::body::groups` meets its contract: after i cells the groups of the body cells below i are marked (proofs/Groups.antt).
use Rattle.lamps.specs.Groups.{Marks}
use Rattle.lamps.proofs.body.groups.Given as goal

abbrev pub invariant-loop-cell : goal.invariant-loop-cell
invariant-loop-cell l = Marks l.first l.mask l.cell l.dark
