-- `forest_scratch::join` meets its contract: the two finds, and then the store where the roots differ.
use Rattle.std.proofs.Common.{arith}
use Rattle.forest_scratch.proofs.Joined.{descends_found, child_inside}
use Rattle.forest_scratch.proofs.join.Goals as goal

pub find-v-requires-clause-descends : goal.find-v-requires-clause-descends
find-v-requires-clause-descends c = rw c.find-u.ensures.parent_after (descends_found c.requires.descends c.requires.one_lt_places.0)

pub bounds-parent-from : goal.bounds-parent-from
bounds-parent-from c =
    let u = c.find-u.ensures in
    let v = c.find-v.ensures in
    omega (arith, child_inside c.requires.descends c.requires.one_lt_places (u.value, u.parent_after) (v.value, v.parent_after))
