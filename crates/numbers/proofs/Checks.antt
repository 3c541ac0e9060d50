-- The laws of the first check that fails. Where the number is 0 every check is passed, and where it is not the first check
-- that fails says it; so the proof of a call goes down its list of checks, one law a check. A number that no check has is not given, and one
-- that a single check has is given exactly when those before it are passed and it fails. And a list's places, counted.
use Prim.Native.Nat.{ℕ, zero, suc, ◌≤◌, zero-le}
use mathlib.Core.Path.{◌≡◌, refl, sym, ◌∙◌}
use mathlib.Core.Bool.{Bool, true, false, true≢false, false≢true}
use mathlib.Core.Logic.{◌↔◌}
use mathlib.Core.List.{List, [], ◌∷◌, ◌++◌}
use native.Mathlib.Omega.{arith}
use borrow.Author.Tests.{eqb-false}
use lib.Dec.{eqb, leb, leb-zero, leb-suc-zero, leb-suc-suc}
use lib.ListN.{length, get_or, replicate}
use Rattle.numbers.specs.Checks.{first_of, unless, has}

-- ---- the first number that is not 0

pub first_passed : (k : ℕ) (ks : List ℕ) → first_of (k ∷ ks) ≡ 0 → (k ≡ 0) × (first_of ks ≡ 0)
unfolding first_of
first_passed zero ks e = (refl, e)
first_passed (suc k) ks e = absurd (omega arith)

-- every check is passed
pub all_passed : (ks : List ℕ) → first_of ks ≡ 0 → (i : ℕ) → get_or ks i 0 ≡ 0
all_passed [] e i = refl
all_passed (k ∷ ks) e zero = (first_passed k ks e).0
all_passed (k ∷ ks) e (suc i) = all_passed ks (first_passed k ks e).1 i

pub first_found : (k : ℕ) (ks : List ℕ) → (k ≡ 0 → ⊥) → first_of (k ∷ ks) ≡ k
unfolding first_of
first_found zero ks found = absurd (found refl)
first_found (suc k) ks found = refl

pub first_next : (k : ℕ) (ks : List ℕ) → k ≡ 0 → first_of (k ∷ ks) ≡ first_of ks
unfolding first_of
first_next zero ks e = refl
first_next (suc k) ks e = absurd (omega arith)

-- a check that is passed is no number, and one that fails is the number
pub passes : {t : Bool} (k : ℕ) (ks : List ℕ) → t ≡ true → first_of (unless t k ∷ ks) ≡ first_of ks
unfolding first_of
passes k ks e = rw e

pub fails : {t : Bool} (k : ℕ) (ks : List ℕ) → t ≡ false → first_of (unless t (suc k) ∷ ks) ≡ suc k
unfolding first_of
fails k ks e = rw e

pub last_passes : {t : Bool} (k : ℕ) → t ≡ true → first_of (unless t k ∷ []) ≡ 0
unfolding first_of
last_passes k e = rw e

pub unless_passed : (t : Bool) (k : ℕ) → unless t (suc k) ≡ 0 → t ≡ true
unless_passed true k e = refl
unless_passed false k e = absurd (omega arith)

pub first_last : (k : ℕ) → first_of (k ∷ []) ≡ k
unfolding first_of
first_last zero = refl
first_last (suc k) = refl

-- checks that come to one number, wherever those before them are passed
pub first_under : (t : Bool) (k : ℕ) (ks ms : List ℕ) → (t ≡ true → first_of ks ≡ first_of ms)
    → first_of (unless t (suc k) ∷ ks) ≡ first_of (unless t (suc k) ∷ ms)
unfolding first_of
first_under true k ks ms e = e refl
first_under false k ks ms e = refl

-- ---- a number that no check has

module _ (k : ℕ) (some : eqb 0 k ≡ false) where
  pub never_checked : (t : Bool) (j : ℕ) → eqb j k ≡ false → unless t j ≡ k → ⊥
  never_checked true j another = eqb-false 0 k some
  never_checked false j another = eqb-false j k another

  pub never_first : (j : ℕ) (js : List ℕ) → (j ≡ k → ⊥) → (first_of js ≡ k → ⊥) → first_of (j ∷ js) ≡ k → ⊥
  unfolding first_of
  never_first zero js another others = others
  never_first (suc j) js another others = another

  -- a check, and those after it
  pub never_asked : (t : Bool) (j : ℕ) (js : List ℕ) → eqb j k ≡ false → (first_of js ≡ k → ⊥) → first_of (unless t j ∷ js) ≡ k → ⊥
  never_asked t j js another others = never_first (unless t j) js (never_checked t j another) others

  pub never_last : first_of [] ≡ k → ⊥
  unfolding first_of
  never_last = eqb-false 0 k some

  -- ---- a number that a single check has

  pub checked : (t : Bool) → (unless t k ≡ k) ↔ (t ≡ false)
  checked true = (λ e. absurd (eqb-false 0 k some e), λ e. absurd (true≢false e))
  checked false = (λ e. refl, λ e. refl)

  -- that check, and those after it
  pub asked_here : (t : Bool) (js : List ℕ) → (first_of js ≡ k → ⊥) → (first_of (unless t k ∷ js) ≡ k) ↔ (t ≡ false)
  unfolding first_of
  asked_here true js others = (λ e. absurd (others e), λ e. absurd (true≢false e))
  asked_here false js others = (λ e. refl, λ e. first_found k js (λ z. eqb-false 0 k some (sym z)))

  -- a check before it
  pub asked_later : (t : Bool) (j : ℕ) (js : List ℕ) {Q : Type 0} → eqb (suc j) k ≡ false → (first_of js ≡ k) ↔ Q
      → (first_of (unless t (suc j) ∷ js) ≡ k) ↔ ((t ≡ true) × Q)
  unfolding first_of
  asked_later true j js another rest = (λ e. (refl, rest.0 e), λ w. rest.1 w.1)
  asked_later false j js another rest = (λ e. absurd (eqb-false (suc j) k another e), λ w. absurd (false≢true w.0))

-- ---- a list's places

pub has_length : (n : ℕ) (l : List ℕ) → has n l ≡ leb n (length l)
unfolding has
has_length zero l = sym (leb-zero (length l))
has_length (suc n) [] = sym (leb-suc-zero n)
has_length (suc n) (x ∷ l) = has_length n l ∙ sym (leb-suc-suc n (length l))

pub has_places : (n : ℕ) (l : List ℕ) → has n l ≡ true → n ≤ length l
unfolding has
has_places zero l e = zero-le
has_places (suc n) [] e = absurd (false≢true e)
has_places (suc n) (x ∷ l) e = omega (arith, has_places n l e)

pub has_front : (n : ℕ) (l : List ℕ) → has n (replicate n 0 ++ l) ≡ true
unfolding has
has_front zero l = refl
has_front (suc n) l = has_front n l

-- equally long logs
pub has_long : (n : ℕ) (l m : List ℕ) → length l ≡ length m → has n l ≡ has n m
unfolding has
has_long zero l m e = refl
has_long (suc n) [] [] e = refl
has_long (suc n) [] (y ∷ m) e = absurd (omega arith)
has_long (suc n) (x ∷ l) [] e = absurd (omega arith)
has_long (suc n) (x ∷ l) (y ∷ m) e = has_long n l m (omega arith)
