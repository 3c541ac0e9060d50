-- A crossing from one group, in both directions: each goal is a lemma of `Passing`, said of an own and another side. The two functions
-- are one but for names, and so are their answers.
use mathlib.Core.Path.{refl}
use Rattle.forest_cross.proofs.Passing.{passing_begins, crossed_already, passing_turns, passed_all}
use Rattle.forest_cross.proofs.+from_backward_from_forward.Goals as goal
use Rattle.forest_cross.proofs.+from_backward_from_forward.Goals.{from_backward-then-forward_marks-shared-eq0, from_backward-else-forward_marks-shared-eq0}
use Rattle.forest_cross.proofs.+from_backward_from_forward.Goals.{from_forward-then-backward_marks-shared-eq0, from_forward-else-backward_marks-shared-eq0}

pub from_backward-loop-cell-init : goal.from_backward-loop-cell-init
from_backward-loop-cell-init t c = passing_begins refl (record { own_side = c.args.backward.grouped; other_side = c.args.forward.grouped; own_marks = c.told-backward_marks; other_marks = c.told-forward_marks }) c.requires refl

pub from_backward-loop-cell-preserved : goal.from_backward-loop-cell-preserved
from_backward-loop-cell-preserved t c =
    passing_turns c.loop-cell.invariant c.loop-cell-test.true c.from-shared.ensures
    (
    elim c.if-forward_marks-shared-eq0.branch [
      | from_backward-then-forward_marks-shared-eq0 w ↦ rw (w.backward_marks-is, w.forward_marks-is) w.from_forward.ensures
      | from_backward-else-forward_marks-shared-eq0 w ↦ rw (w.backward_marks-is, w.forward_marks-is) (crossed_already w.if-forward_marks-shared-eq0.false)
    ]
    )
    c.from-cell.ensures

pub from_backward-returns : goal.from_backward-returns
from_backward-returns t c = passed_all c.loop-cell.invariant c.loop-cell-test.false

pub from_forward-loop-cell-init : goal.from_forward-loop-cell-init
from_forward-loop-cell-init t c = passing_begins refl (record { own_side = c.args.forward.grouped; other_side = c.args.backward.grouped; own_marks = c.told-forward_marks; other_marks = c.told-backward_marks }) c.requires refl

pub from_forward-loop-cell-preserved : goal.from_forward-loop-cell-preserved
from_forward-loop-cell-preserved t c =
    passing_turns c.loop-cell.invariant c.loop-cell-test.true c.from-shared.ensures
    (
    elim c.if-backward_marks-shared-eq0.branch [
      | from_forward-then-backward_marks-shared-eq0 w ↦ rw (w.forward_marks-is, w.backward_marks-is) w.from_backward.ensures
      | from_forward-else-backward_marks-shared-eq0 w ↦ rw (w.forward_marks-is, w.backward_marks-is) (crossed_already w.if-backward_marks-shared-eq0.false)
    ]
    )
    c.from-cell.ensures

pub from_forward-returns : goal.from_forward-returns
from_forward-returns t c = passed_all c.loop-cell.invariant c.loop-cell-test.false
