use mathlib.Core.Path.{refl}
use Rattle.forest_check.proofs.Every.{tested_more, tested_all}
use Rattle.forest_check.proofs.labels_within.Goals as goal

pub loop-x-preserved : goal.loop-x-preserved
loop-x-preserved c = tested_more c.loop-x.invariant c.loop-x-test.true refl

pub returns : goal.returns
returns c = tested_all c.loop-x.invariant c.loop-x-test.false
