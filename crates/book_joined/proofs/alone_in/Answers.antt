use Prim.Native.Nat.{ℕ, zero, suc, ◌+◌, ◌≤◌, zero-le}
use native.Mathlib.Nat.{le_refl, zero-add}
use borrow.Author.Tests.{ne_eqb}
use mathlib.Core.Path.{◌≡◌, refl, ap, ◌∙◌}
use mathlib.Core.Bool.{Bool, true, false, cond, ◌&&◌}
use native.Mathlib.Omega.{arith}
use lib.Dec.{eqb, ltb}
use lib.ListN.{get_or}
use Rattle.forest.specs.Arrays.{parent_at_in}
use Rattle.forest_check.proofs.Every.{tested_none, tested_more, tested_all}
use Rattle.forest.proofs.Fill.{get_d_within, length_count_from}
use Rattle.book_joined.specs.Alone.{spares}
use Rattle.book_joined.proofs.alone_in.Goals as goal
use Rattle.book_joined.proofs.alone_in.Goals.{After-touch-steps}

-- one that is not spared is counted
none_counted : (t : Bool) → eqb (cond t 0 1) 0 ≡ t
none_counted true = refl
none_counted false = refl

counted_once : (t : Bool) → cond t 0 1 ≤ 1
counted_once true = zero-le
counted_once false = le_refl 1

-- and nothing is counted in all where nothing is counted before and at the cell
none_more : (a b : ℕ) → eqb (a + b) 0 ≡ (eqb a 0 && eqb b 0)
none_more zero b = rw (zero-add b)
none_more (suc a) b = simp (ne_eqb (suc a + b) 0 (λ e. omega arith), ne_eqb (suc a) 0 (λ e. omega arith))

counted : (c : After-touch-steps) → c.touch-steps.result ≡ cond ((let args = c.args in let cell = c.loop-cell.cell in spares args.asked cell (parent_at_in args.parent.now args.label.now args.cut cell))) 0 1
counted c =
    let args = c.args in
    let cell = c.loop-cell.cell in
    c.touch-steps.ensures
    ∙ ap (λ p. cond (spares args.asked cell (cond (ltb (get_or args.label.now cell 0) args.cut) cell p)) 0 1)
    (get_d_within args.parent.now cell 0 cell (rw c.requires.0 c.loop-cell-test.true))

once : (c : After-touch-steps) → c.touch-steps.result ≤ 1
once c = omega (arith, counted c, counted_once ((let args = c.args in let cell = c.loop-cell.cell in spares args.asked cell (parent_at_in args.parent.now args.label.now args.cut cell))))

pub loop-cell-init : goal.loop-cell-init
loop-cell-init c = (tested_none, le_refl 0)

pub overflow_add-steps : goal.overflow_add-steps
overflow_add-steps c = omega (arith, c.loop-cell.invariant.1, c.loop-cell-test.true, once c)

pub loop-cell-preserved : goal.loop-cell-preserved
loop-cell-preserved c =
    let inv = c.loop-cell.invariant in (
      tested_more inv.0 (rw length_count_from c.loop-cell-test.true)
          (none_more c.loop-cell.steps c.touch-steps.result ∙ ap (λ t. eqb c.loop-cell.steps 0 && t) (ap (λ x. eqb x 0) (counted c) ∙ none_counted ((let args = c.args in let cell = c.loop-cell.cell in spares args.asked cell (parent_at_in args.parent.now args.label.now args.cut cell))))),
      omega (arith, inv.1, once c),
    )

pub returns : goal.returns
returns c = tested_all c.loop-cell.invariant.0 (rw length_count_from c.loop-cell-test.false)
