use Rattle.std.proofs.Common.{arith}
use Rattle.forest.proofs.Fill.{entries_each}
use Rattle.forest_walk.proofs.roots.Goals as goal

pub returns : goal.returns
returns c = entries_each _ _ c.loop-cell.invariant.long (λ k h. c.loop-cell.invariant.filled k (omega arith))
