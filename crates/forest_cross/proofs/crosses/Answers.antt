-- `forest_cross::crosses` meets its contract: the marks begin at 0, so what the crossing leaves at the second cell's mark is the
-- answer (`mark_answers`).
use Rattle.std.proofs.Common.{◌≡◌, get_or}
use Rattle.forest.specs.Arrays.{places}
use Rattle.forest_cross.proofs.Joined.{group_inside, enters_unmarked, mark_answers}
use Rattle.forest_cross.proofs.crosses.Goals as goal
use Rattle.forest_cross.proofs.crosses.Goals.{After-from-asked}

-- the two cells' groups
start : (c : After-from-asked) → c.from-start.result ≡ get_or c.args.backward.roots.now c.args.one 0
start c = rw c.from.ensures at c.from-start.ensures

asked : (c : After-from-asked) → c.from-asked.result ≡ get_or c.args.backward.roots.now c.args.other 0
asked c = rw c.from-2.ensures at c.from-asked.ensures

pub from_backward-requires : goal.from_backward-requires
from_backward-requires c =
    let own = c.args.backward.grouped in
    let group = start (goal.at.from_backward-requires c).After-from-asked in
    enters_unmarked places (rw own.long (group_inside own c.requires.one group)) (rw group (own.rooted c.args.one (rw own.long c.requires.one)))

pub bounds-backward_marks-asked : goal.bounds-backward_marks-asked
bounds-backward_marks-asked c =
    group_inside c.args.backward.grouped c.requires.other (asked (goal.at.bounds-backward_marks-asked c).After-from-asked)

pub returns : goal.returns
returns c =
    let own = c.args.backward.grouped in
    let other = c.args.forward.grouped in
    let at = (goal.at.returns c).After-from-asked in
    mark_answers places (rw own.long other.long) (rw own.long c.requires.one) (start at) c.from_backward.ensures (rw own.long c.requires.other) (asked at)
