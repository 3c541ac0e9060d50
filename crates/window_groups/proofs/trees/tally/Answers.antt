use Rattle.std.proofs.Common.{suc, ◌-◌, ◌<◌, ◌≡◌, refl, ap, ◌∙◌, length, get_or, add-one, arith}
use mathlib.Core.Path.{ap₂}
use Rattle.forest.specs.Arrays.{label_in}
use Rattle.forest.proofs.Fill.{get_d_within}
use Rattle.book_state.specs.Arrays.{cells}
use Rattle.window_groups.specs.Groups.{smallest}
use Rattle.window_groups.specs.Trees.{root_in, lower, least_label, tallies_of}
use Rattle.window_groups.proofs.Tally.{tree_from, tallied_none, tallied_one, tallied_all}
use Rattle.window_groups.proofs.trees.tally.Goals as goal
use Rattle.window_groups.proofs.trees.tally.Goals.{In-loop-cell}

-- of the turn's cell, its root, which is a cell, and how many of its tree are counted
below : (c : In-loop-cell) → root_in c.args.root.now (c.loop-cell.cell - 1) < cells
below c = c.requires (c.loop-cell.cell - 1)

counted : (c : In-loop-cell) → let root = root_in c.args.root.now in
    get_or c.loop-cell.count (root (c.loop-cell.cell - 1)) 0 ≡ length (tree_from root (root (c.loop-cell.cell - 1)) c.loop-cell.cell)
counted c = c.loop-cell.invariant.1.stored _ (below c)

pub loop-cell-init : goal.loop-cell-init
unfolding smallest least_label
loop-cell-init c = (tallied_none 0 refl, tallied_none 0 refl, tallied_none c.args.top refl)

pub loop-cell-preserved : goal.loop-cell-preserved
unfolding smallest least_label
loop-cell-preserved c =
    let turn = (goal.at.loop-cell-preserved c).In-loop-cell in
    let tallied = c.loop-cell.invariant in
    let more = c.loop-cell-test.true in
    let cell = c.loop-cell.cell - 1 in (
      tallied_one tallied.0 more refl (below turn) refl,
      tallied_one tallied.1 more refl (below turn) (add-one _ ∙ ap suc (counted turn)),
      tallied_one tallied.2 more refl (below turn)
          (c.lower_label.ensures
          ∙ ap₂ (λ p l. lower cell p (label_in c.args.forest.now.label cell) l)
          (get_d_within c.args.forest.now.parent cell 0 cell (omega (arith, more)))
          (tallied.2.stored _ (below turn))),
    )

pub returns : goal.returns
unfolding tallies_of
returns c =
    let tallied = c.loop-cell.invariant in
    let all = c.loop-cell-test.false in
    λ i. record {
      first = tallied_all tallied.0 all i;
      count = tallied_all tallied.1 all i;
      least = tallied_all tallied.2 all i;
    }
