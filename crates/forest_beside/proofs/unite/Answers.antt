-- `forest_beside::unite` meets its contract: where the scratch has one root nothing changes; else each store is one of the step
-- (proofs/Advancing.antt).
use Rattle.std.proofs.Common.{◌≡◌, ◌<◌, Some, None, get_or, arith}
use Rattle.forest.specs.Arrays.{places}
use Rattle.forest_unite.specs.United.{merge_of_roots_of}
use Rattle.forest_beside.proofs.Advancing.{roots_inside, same_made, apart_made, beside_united}
use Rattle.forest_beside.proofs.unite.Goals as goal
use Rattle.forest_beside.proofs.unite.Goals.{After-join-r}

inside : (c : After-join-r) → (c.join-r.result.one < places) × (c.join-r.result.other < places)
inside c = roots_inside c.requires.beside c.requires.one_lt_cells 0 c.join-r.ensures.value

pub bounds-tops-from : goal.bounds-tops-from
bounds-tops-from c = omega (arith, (inside (goal.at.bounds-tops-from c).After-join-r).0)

pub bounds-tops-from-2 : goal.bounds-tops-from-2
bounds-tops-from-2 c = omega (arith, (inside (goal.at.bounds-tops-from-2 c).After-join-r).1)

pub returns-then-r : goal.returns-then-r
returns-then-r c =
    let beside = c.requires.beside in
    let cell = c.requires.one_lt_cells in
    let scratch = c.join-r.ensures.parent_after in
    let same = same_made beside cell c.args.place c.join-r.ensures.value c.if-r.true in
    record {
      label_after = same.0;
      beside_after = beside_united beside cell c.args.place same.0 scratch same.1;
      scratch_after = scratch;
      tops_after = same.1;
    }

pub returns-in-Some : goal.returns-in-Some
returns-in-Some c =
    let beside = c.requires.beside in
    let cell = c.requires.one_lt_cells in
    let scratch = c.join-r.ensures.parent_after in
    let tops = c.args.scratch.now.tops in
    let merge : Some c.in-Some.h ≡ merge_of_roots_of c.args.size.now (get_or tops c.join-r.result.one 0) (get_or tops c.join-r.result.other 0) = cc in
    let made = apart_made beside cell c.args.place c.join-r.ensures.value c.if-r.false merge in
    let label = rw (← c.merge_parents.ensures, ← c.merge_sizes.ensures, ← c.merge_labels.ensures) at made.0 in
    let top = rw (← c.min.ensures, ← c.from-in-Some.ensures) at made.1 in
    record {
      label_after = label;
      beside_after = beside_united beside cell c.args.place label scratch top;
      scratch_after = scratch;
      tops_after = top;
    }

pub returns-in_default : goal.returns-in_default
returns-in_default c =
    let beside = c.requires.beside in
    let cell = c.requires.one_lt_cells in
    let scratch = c.join-r.ensures.parent_after in
    let tops = c.args.scratch.now.tops in
    let merge : None ≡ merge_of_roots_of c.args.size.now (get_or tops c.join-r.result.one 0) (get_or tops c.join-r.result.other 0) = cc in
    let made = apart_made beside cell c.args.place c.join-r.ensures.value c.if-r.false merge in
    record {
      label_after = made.0;
      beside_after = beside_united beside cell c.args.place made.0 scratch made.1;
      scratch_after = scratch;
      tops_after = made.1;
    }
