-- Searches over cells: whether some cell below a bound passes a test, and the smallest that does. Two tests that agree on the cells that
-- are asked find the same.
use Prim.Native.Nat.{ℕ, zero, suc, ◌+◌, ◌-◌, ◌≤◌, ◌<◌}
use mathlib.Core.Path.{◌≡◌, refl, sym, ap, ◌∙◌}
use Rattle.std.proofs.Common.{Option, Some, None, is_some, unwrap_or}
use mathlib.Core.Bool.{Bool, true, false, cond, ◌||◌, or-true, false≢true, true≢false}
use native.Mathlib.Omega.{arith}
use native.Mathlib.Decide.{ℕ_discrete}
use native.Mathlib.Numerals.{add-one}
use Rattle.lamps.specs.Lamps.{some_below, lamp_from}

-- ---- some cell

pub some_true : (n : ℕ) (t : ℕ → Bool) {c : ℕ} → c < n → t c ≡ true → some_below n t ≡ true
unfolding some_below
some_true zero t h e = absurd (omega arith)
some_true (suc n) t {c} h e = elim (ℕ_discrete c n) [
  | yes is ↦ rw (sym (ap t is) ∙ e)
  | no other ↦ rw (some_true n t (omega arith) e) (or-true (t n))
]

pub true_some : (n : ℕ) (t : ℕ → Bool) → some_below n t ≡ true → (c : ℕ) × (c < n) × (t c ≡ true)
unfolding some_below
true_some zero t e = absurd (false≢true e)
true_some (suc n) t e = go (t n) refl e (true_some n t)
  where
    go : (b : Bool) → t n ≡ b → (b || some_below n t) ≡ true → (some_below n t ≡ true → (c : ℕ) × (c < n) × (t c ≡ true)) →
        (c : ℕ) × (c < suc n) × (t c ≡ true)
    go true p e later = (n, omega arith, p)
    go false p e later = let w = later e in (w.0, omega (arith, w.1), w.2)

pub some_agree : (n : ℕ) {t u : ℕ → Bool} → ((c : ℕ) → c < n → t c ≡ u c) → some_below n t ≡ some_below n u
unfolding some_below
some_agree zero e = refl
some_agree (suc n) e = rw (e n (omega arith), some_agree n (λ c h. e c (omega arith)))

-- ---- the smallest

one_more : (n c : ℕ) → c < n → n - c ≡ suc (n - (c + 1))
one_more n c h = omega arith

module _ (t : ℕ → Bool) where
  -- of the cells below n, those below c being past
  module _ (n c : ℕ) (h : c < n) where
    pub lamp_found : t c ≡ true → lamp_from t c (n - c) ≡ Some c
    unfolding lamp_from
    lamp_found e = rw (one_more n c h, e)

    pub lamp_past : t c ≡ false → lamp_from t c (n - c) ≡ lamp_from t (c + 1) (n - (c + 1))
    unfolding lamp_from
    lamp_past e = rw (one_more n c h, e, add-one c)

  -- where none is left that passes
  pub lamp_none : (c count : ℕ) → ((d : ℕ) → c ≤ d → t d ≡ false) → lamp_from t c count ≡ None
  unfolding lamp_from
  lamp_none c zero e = refl
  lamp_none c (suc more) e = rw (e c (omega arith)) (lamp_none (suc c) more (λ d h. e d (omega arith)))

pub lamp_agree : (c count : ℕ) {t u : ℕ → Bool} → ((d : ℕ) → d < c + count → t d ≡ u d) → lamp_from t c count ≡ lamp_from u c count
unfolding lamp_from
lamp_agree c zero e = refl
lamp_agree c (suc more) e = rw (e c (omega arith), lamp_agree (suc c) more (λ d h. e d (omega arith)))

-- ---- what a lamp says

-- the cell passes, and none before it does
abbrev pub SmallestOf : (test : ℕ → Bool) (from cell : ℕ) → Type 0
SmallestOf t from x = (t x ≡ true) × ((d : ℕ) → from ≤ d → t d ≡ true → x ≤ d)

pub lit_by : (t : ℕ → Bool) (c count : ℕ) → is_some (lamp_from t c count) ≡ true → SmallestOf t c (unwrap_or (lamp_from t c count) 0)
unfolding lamp_from
lit_by t c zero e = absurd (false≢true e)
lit_by t c (suc more) e = go (t c) refl e (lit_by t (suc c) more)
  where
    rest : Option ℕ
    rest = lamp_from t (suc c) more

    go : (b : Bool) → t c ≡ b →
        let o : Option ℕ = cond b (Some c) rest in
        is_some o ≡ true → (is_some rest ≡ true → SmallestOf t (suc c) (unwrap_or rest 0)) → SmallestOf t c (unwrap_or o 0)
    go true p e later = (p, λ d h k. h)
    go false p e later =
        let w = later e in (
          w.0,
          λ d h k. elim (ℕ_discrete c d) [
            | yes is ↦ absurd (false≢true (sym p ∙ ap t is ∙ k))
            | no other ↦ w.1 d (omega arith) k
          ],
        )

pub dark_zero : (lamp : Option ℕ) → is_some lamp ≡ false → unwrap_or lamp 0 ≡ 0
dark_zero None e = refl
dark_zero (Some c) e = absurd (true≢false e)

-- a cell that passes lights it
pub lit : (t : ℕ → Bool) (c count : ℕ) {d : ℕ} → c ≤ d → d < c + count → t d ≡ true → is_some (lamp_from t c count) ≡ true
unfolding lamp_from
lit t c zero h k p = absurd (omega arith)
lit t c (suc more) {d} h k p = go (t c) refl (λ above. lit t (suc c) more above (omega arith) p)
  where
    rest : Option ℕ
    rest = lamp_from t (suc c) more

    go : (b : Bool) → t c ≡ b → (suc c ≤ d → is_some rest ≡ true) → is_some (cond b (Some c) rest) ≡ true
    go true q later = refl
    go false q later = elim (ℕ_discrete c d) [
      | yes is ↦ absurd (false≢true (sym q ∙ ap t is ∙ p))
      | no other ↦ later (omega arith)
    ]
