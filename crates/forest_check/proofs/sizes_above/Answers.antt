use Rattle.std.proofs.Common.{arith}
use Rattle.forest_check.proofs.Facts.{parent_inside}
use Rattle.forest_check.proofs.sizes_above.Goals as goal

pub bounds-size-from : goal.bounds-size-from
bounds-size-from c = omega (arith, parent_inside c.requires c.loop-i.i c.loop-i-test.true)
