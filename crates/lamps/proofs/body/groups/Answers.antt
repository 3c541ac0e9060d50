use Rattle.lamps.proofs.Groups.{marks_none}
use Rattle.lamps.proofs.body.groups.Goals as goal

pub loop-cell-init : goal.loop-cell-init
loop-cell-init c = marks_none c.args.first.now c.args.mask.now
