use Rattle.window_ends.proofs.Rooting.{rooting_one}
use Rattle.window_ends.proofs.to_roots.Goals as goal

pub loop-cell-preserved : goal.loop-cell-preserved
loop-cell-preserved c = rooting_one c.loop-cell.invariant c.loop-cell-test.true
