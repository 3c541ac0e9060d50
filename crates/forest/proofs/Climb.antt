-- The loop of a walk, whichever parents it goes by: the walk from the start is the steps so far, and then the walk of what
-- is left from the cell where the loop stands.
use Prim.Native.Nat.{ℕ, zero, suc, ◌+◌, ◌-◌, ◌≤◌, ◌<◌}
use mathlib.Core.Path.{◌≡◌, refl, sym, ap, ◌∙◌}
use native.Mathlib.Omega.{arith}
use native.Mathlib.Nat.{zero-add, add-zero, sub-zero}
use native.Mathlib.Decide.{ℕ_discrete}
use borrow.Author.Tests.{eq-eqb, ne_eqb}
use Rattle.graph.specs.Forest as graph
use Rattle.graph.specs.Forest.{climb, onward}
use Rattle.forest.specs.declared.Walk.{Walk}
use Rattle.forest.specs.Arrays.{walked}

module _ (up : ℕ → ℕ) where
  -- a cell that stays ends a walk
  pub climb_stays : (limit c : ℕ) → up c ≡ c → climb up limit c ≡ record { root = c; steps = 0 }
  unfolding climb
  climb_stays zero c e = refl
  climb_stays (suc limit) c e = simp (eq-eqb _ _ e)

  -- any other is one step before the walk from its parent
  pub climb_goes : (limit c : ℕ) → (up c ≡ c → ⊥) → climb up (suc limit) c ≡ onward (climb up limit (up c))
  unfolding climb
  climb_goes limit c n = simp (ne_eqb _ _ n)

  -- no steps are left
  pub climb_none : (c : ℕ) → climb up 0 c ≡ record { root = c; steps = 0 }
  unfolding climb
  climb_none c = refl

-- one step of a walk is the step
pub one_step : (up : ℕ → ℕ) (c : ℕ) → (climb up 1 c).root ≡ up c
one_step up c = by (ℕ_discrete (up c) c)
  where
    by : Dec (up c ≡ c) → (climb up 1 c).root ≡ up c
    by (yes e) = ap (λ w. w.root) (climb_stays up 1 c e) ∙ sym e
    by (no n) = ap (λ w. w.root) (climb_goes up 0 c n ∙ ap onward (climb_none up (up c)))

-- a walk with `k` steps ahead of it
abbrev ahead : ℕ → graph.Walk → Walk
ahead k w = record { root = w.root; steps = k + w.steps }

-- the loop stands at `at` after these steps
pub record Reached (up : ℕ → ℕ) (limit cell at steps : ℕ) : Type 0 where
  pub within : steps ≤ limit
  pub rest : walked (climb up limit cell) ≡ ahead steps (climb up (limit - steps) at)

module _ (up : ℕ → ℕ) (limit cell : ℕ) where
  pub begins : Reached up limit cell cell 0
  begins = record { within = omega arith; rest = simp (sub-zero, zero-add) }

  -- the walk is over, at a root or with the last step
  over : {at steps : ℕ} → Reached up limit cell at steps → climb up (limit - steps) at ≡ record { root = at; steps = 0 }
      → record { root = at; steps = steps } ≡ walked (climb up limit cell)
  over r e = sym (r.rest ∙ rw (e, add-zero))

  pub stays : {at next steps : ℕ} → Reached up limit cell at steps → next ≡ up at → next ≡ at
      → record { root = at; steps = steps } ≡ walked (climb up limit cell)
  stays r e s = over r (climb_stays up _ _ (sym e ∙ s))

  pub ended : {at steps : ℕ} → Reached up limit cell at steps → limit ≤ steps
      → record { root = at; steps = limit } ≡ walked (climb up limit cell)
  ended {at} {steps} r h =
      let last : steps ≡ limit = omega arith in
      rw last at (over r (rw (let z : limit - steps ≡ 0 = omega arith in z) (climb_none up at)))

  pub goes : {at next steps : ℕ} → Reached up limit cell at steps → next ≡ up at → (next ≡ at → ⊥) → steps < limit
      → Reached up limit cell next (steps + 1)
  goes {at} {next} {steps} r e n h = record { within = omega arith; rest = r.rest ∙ ap (ahead steps) one ∙ ap tail (omega arith) }
    where
      left : ℕ
      left = limit - (steps + 1)

      one : climb up (limit - steps) at ≡ onward (climb up left next)
      one =
          ap (λ k. climb up k at) (omega arith) ∙ climb_goes up left at (λ s. n (e ∙ s))
          ∙ ap (λ x. onward (climb up left x)) (sym e)

      tail : ℕ → Walk
      tail k = record { root = (climb up left next).root; steps = k }
