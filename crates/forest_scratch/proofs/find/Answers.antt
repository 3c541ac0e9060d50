use Rattle.std.proofs.Common.{ap, arith}
use Rattle.forest_scratch.proofs.Shorter.{above_inside, falls, going_more, going_end}
use Rattle.forest_scratch.proofs.find.Goals as goal

pub bounds-parent-from : goal.bounds-parent-from
bounds-parent-from c = omega (arith, above_inside c.loop-cell.invariant)

pub returns-then-next-above : goal.returns-then-next-above
returns-then-next-above c =
    let e = going_end c.loop-cell.invariant (rw c.from.ensures at c.if-next-above.true) in
    record { value = ap (λ f. f.root) e; parent_after = ap (λ f. f.parents) e }

pub loop-cell-smaller : goal.loop-cell-smaller
loop-cell-smaller c =
    rw (c.from-at-in-loop-cell.ensures, c.from.ensures) (falls c.loop-cell.invariant (rw c.from.ensures at c.if-next-above.false))

pub loop-cell-preserved : goal.loop-cell-preserved
loop-cell-preserved c =
    rw (c.from-at-in-loop-cell.ensures, c.from.ensures) (going_more c.loop-cell.invariant (rw c.from.ensures at c.if-next-above.false))
