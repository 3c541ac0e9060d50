use Prim.Native.Nat.{ℕ, ◌+◌, ◌*◌, ◌≤◌, ◌<◌}
use mathlib.Core.Path.{◌≡◌, refl, sym, ap, ◌∙◌}
use mathlib.Core.Bool.{true, false}
use mathlib.Core.List.{List}
use native.Mathlib.Omega.{arith}
use native.Mathlib.Numerals.{add-one}
use borrow.Author.Tests.{eq-eqb, ne_eqb, le-leb, lt-leb}
use lib.ListN.{length, get_or}
use Rattle.numbers.proofs.Flags.{struck, kept}
use Rattle.forest.specs.Arrays.{places}
use Rattle.forest.proofs.Fill.{get_d_within}
use Rattle.forest.proofs.Ranged.{Ranged}
use Rattle.forest_check.specs.Sound.{every, doubles_at}
use Rattle.forest_check.proofs.Every.{tested_none, tested_more, tested_all}
use Rattle.forest_check.proofs.Facts.{sound_ranged}
use Rattle.book_steady.specs.Steady.{root_cells}
use Rattle.book_steady.proofs.grown.Invariants.{Counted}
use Rattle.book_steady.proofs.grown.Goals as goal
use Rattle.book_steady.proofs.grown.Goals.{In-loop-i, then-up-i, else-up-i+else-size-up}

module _ {ps ss : List ℕ} (long : length ps ≡ places) (r : Ranged (length ps) ps ss) {sum i : ℕ} (on : Counted ps ss sum i) (h : i < places) where
  inside : i < length ps
  inside = omega arith

  within : i < length ss
  within = omega (arith, r.sizes_long)

  -- a root
  root_more : get_or ps i 0 ≡ i → Counted ps ss (sum + get_or ss i 0) (i + 1)
  unfolding root_cells
  root_more e =
      record {
        tested = tested_more on.tested inside (kept (rw (eq-eqb _ _ e)) refl);
        summed = rw (add-one i, get_d_within ps i i 0 inside, eq-eqb _ _ e, get_d_within ss i 1 0 within, on.summed);
        small = omega (arith, on.small, r.size_to i inside, get_d_within ss i 1 0 within);
      }

  -- a cell with a step
  step_more : ¬ (get_or ps i 0 ≡ i) → 2 * get_or ss i 0 ≤ get_or ss (get_or ps i 0) 0 → Counted ps ss sum (i + 1)
  unfolding root_cells
  step_more n d =
      record {
        tested = tested_more on.tested inside (kept (rw (ne_eqb _ _ n) (le-leb _ _ d)) refl);
        summed = rw (add-one i, get_d_within ps i i 0 inside, ne_eqb _ _ n) (omega (arith, on.summed));
        small = omega (arith, on.small);
      }

  step_fails : ¬ (get_or ps i 0 ≡ i) → get_or ss (get_or ps i 0) 0 < 2 * get_or ss i 0 → every (doubles_at ss) 0 ps ≡ false
  step_fails n d = (tested_more on.tested inside (struck true (rw (ne_eqb _ _ n) (lt-leb _ _ d)) refl)).rest

  parent_within : get_or ps i 0 < length ss
  parent_within =
      let below : get_or ps i 0 < length ps = rw (get_d_within ps i 0 i inside) (r.parent_below i inside) in
      omega (arith, below, r.sizes_long)

-- as many parents as a book has
long : (c : In-loop-i) → length c.args.parent.now ≡ places
long c = c.if-parent-ne-PLACES.false

ranged : (c : In-loop-i) → Ranged (length c.args.parent.now) c.args.parent.now c.args.size.now
ranged c = sound_ranged _ _ _ c.requires

pub returns-then-parent-ne-PLACES : goal.returns-then-parent-ne-PLACES
returns-then-parent-ne-PLACES c = rw (ne_eqb _ _ c.if-parent-ne-PLACES.true)

pub loop-i-init : goal.loop-i-init
unfolding root_cells
loop-i-init c = record { tested = tested_none; summed = refl; small = omega arith }

pub bounds-size-up : goal.bounds-size-up
bounds-size-up c = parent_within (long (goal.at.bounds-size-up c).In-loop-i) (ranged (goal.at.bounds-size-up c).In-loop-i) c.loop-i.invariant c.loop-i-test.true

pub returns-then-size-up : goal.returns-then-size-up
returns-then-size-up c =
    rw (step_fails (long (goal.at.returns-then-size-up c).In-loop-i) (ranged (goal.at.returns-then-size-up c).In-loop-i) c.loop-i.invariant c.loop-i-test.true c.if-up-i.false c.if-size-up.true, eq-eqb _ _ (long (goal.at.returns-then-size-up c).In-loop-i))

pub loop-i-preserved : goal.loop-i-preserved
loop-i-preserved c =
    let more = ranged (goal.at.loop-i-preserved c).In-loop-i in
    elim c.if-up-i.branch [
      | then-up-i w ↦ rw w.cells-is (root_more (long (goal.at.loop-i-preserved c).In-loop-i) more c.loop-i.invariant c.loop-i-test.true w.if-up-i.true)
      | else-up-i+else-size-up w ↦ rw w.cells-is (step_more (long (goal.at.loop-i-preserved c).In-loop-i) more c.loop-i.invariant c.loop-i-test.true w.if-up-i.false w.if-size-up.false)
    ]

pub returns : goal.returns
returns c =
    let on = c.loop-i.invariant in
    let all : c.loop-i.i ≡ places = omega (arith, on.tested.passed, c.if-parent-ne-PLACES.false) in
    rw (eq-eqb _ _ c.if-parent-ne-PLACES.false, sym (tested_all on.tested (omega (arith, c.if-parent-ne-PLACES.false))), sym (on.summed ∙ ap (root_cells _ _) all))
