-- The measure of the cycle of calls from `from_backward` to `from_forward` and back is how many groups of both sides have no mark
-- yet: a function marks its own group before any call, and no call takes a mark away. But for names the two functions are
-- one: measure and invariant are said of an own and another side, and so are the lemmas (`Passing`).
use Rattle.std.proofs.Common.{◌-◌, ◌+◌}
use Rattle.forest.specs.Arrays.{places}
use Rattle.forest_cross.proofs.Passing.{Passing}
use Rattle.forest_cross.proofs.Unmarked.{unmarked}
use Rattle.forest_cross.proofs.Walk.{place_in}
use Rattle.forest_cross.proofs.+from_backward_from_forward.Given as goal

abbrev pub decreases-from_backward : goal.decreases-from_backward
decreases-from_backward l = unmarked l.backward_marks.now + unmarked l.forward_marks.now

abbrev pub decreases-from_forward : goal.decreases-from_forward
decreases-from_forward l = unmarked l.forward_marks.now + unmarked l.backward_marks.now

abbrev pub invariant-from_backward-loop-cell : goal.invariant-from_backward-loop-cell
invariant-from_backward-loop-cell l =
    Passing (unmarked l.fn.backward_marks + unmarked l.fn.forward_marks) l.backward.roots.now l.backward.next.now l.forward.roots.now l.forward.next.now l.group
    l.initial.backward_marks l.initial.forward_marks l.backward_marks l.forward_marks l.cell

abbrev pub decreases-from_backward-loop-cell : goal.decreases-from_backward-loop-cell
decreases-from_backward-loop-cell l = places + 1 - place_in l.group l.cell

abbrev pub invariant-from_forward-loop-cell : goal.invariant-from_forward-loop-cell
invariant-from_forward-loop-cell l =
    Passing (unmarked l.fn.forward_marks + unmarked l.fn.backward_marks) l.forward.roots.now l.forward.next.now l.backward.roots.now l.backward.next.now l.group
    l.initial.forward_marks l.initial.backward_marks l.forward_marks l.backward_marks l.cell

abbrev pub decreases-from_forward-loop-cell : goal.decreases-from_forward-loop-cell
decreases-from_forward-loop-cell l = places + 1 - place_in l.group l.cell
