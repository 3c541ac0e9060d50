-- The body mask, byte by byte: a pass over its first bytes tells whether it is one; and what it is not to be one.
use Prim.Native.Nat.{ℕ, zero, suc, ◌+◌, ◌≤◌, ◌<◌, zero-le}
use mathlib.Core.Path.{◌≡◌, refl, ◌∙◌, sym, ap}
use mathlib.Core.Bool.{Bool, true, false, ◌&&◌, and-true, and-false, and_assoc, and-eq-true_iff, false≢true, true≢false}
use mathlib.Core.List.{List, [], ◌∷◌}
use mathlib.Core.Logic.{◌↔◌, ◌⊎◌, inl, inr}
use native.Mathlib.Omega.{arith}
use lib.Dec.{leb}
use lib.ListN.{length, get_or}
use native.Mathlib.Numerals.{add-one}
use borrow.Author.Tests.{leb-false, le-leb, lt-leb}
use Rattle.lamps.specs.Mask.{is_mask_of}

-- no byte yet, and one byte more
pub mask_none : (mask : List ℕ) → is_mask_of 0 mask ≡ true
unfolding is_mask_of
mask_none mask = refl

mask_more : (i : ℕ) (mask : List ℕ) → i < length mask → is_mask_of (suc i) mask ≡ (is_mask_of i mask && leb (get_or mask i 0) 1)
unfolding is_mask_of
mask_more i [] h = absurd (omega arith)
mask_more zero (x ∷ mask) h = and-true (leb x 1)
mask_more (suc i) (x ∷ mask) h = ap (λ t. leb x 1 && t) (mask_more i mask (omega arith)) ∙ sym (and_assoc (leb x 1) _ _)

pub mask_over : (i : ℕ) (mask : List ℕ) → i < length mask → 1 < get_or mask i 0 → is_mask_of (i + 1) mask ≡ false
mask_over i mask h k = rw (add-one i, mask_more i mask h, lt-leb _ _ k) (and-false (is_mask_of i mask))

pub mask_on : (i : ℕ) (mask : List ℕ) → i < length mask → get_or mask i 0 ≤ 1 → is_mask_of (i + 1) mask ≡ is_mask_of i mask
mask_on i mask h k = rw (add-one i, mask_more i mask h, le-leb _ _ k) (and-true (is_mask_of i mask))

pub mask_long : (n : ℕ) (mask : List ℕ) → is_mask_of n mask ≡ true → n ≤ length mask
unfolding is_mask_of
mask_long zero mask e = zero-le
mask_long (suc n) [] e = absurd (false≢true e)
mask_long (suc n) (x ∷ mask) e = omega (arith, mask_long n mask ((and-eq-true_iff (leb x 1) _).0 e).1)

pub mask_short : (n : ℕ) (mask : List ℕ) → length mask < n → is_mask_of n mask ≡ false
unfolding is_mask_of
mask_short zero mask h = absurd (omega arith)
mask_short (suc n) [] h = refl
mask_short (suc n) (x ∷ mask) h = rw (mask_short n mask (omega arith)) (and-false (leb x 1))

-- it is short, or another value than 0 and 1 stands among the first bytes
abbrev pub NoMask : (count : ℕ) (mask : List ℕ) → Type 0
NoMask count mask = (length mask < count) ⊎ ((i : ℕ) × (i < count) × (1 < get_or mask i 0))

pub no_mask : (n : ℕ) (mask : List ℕ) → (is_mask_of n mask ≡ false) ↔ NoMask n mask
unfolding is_mask_of
no_mask n mask = (why n mask, so n mask)
  where
    why : (n : ℕ) (mask : List ℕ) → is_mask_of n mask ≡ false → NoMask n mask
    why zero mask e = absurd (true≢false e)
    why (suc n) [] e = inl (omega arith)
    why (suc n) (x ∷ mask) e = go (leb x 1) refl e (why n mask)
      where
        go : (b : Bool) → leb x 1 ≡ b → (b && is_mask_of n mask) ≡ false → (is_mask_of n mask ≡ false → NoMask n mask) → NoMask (suc n) (x ∷ mask)
        go true p e later = elim (later e) [
          | inl short ↦ inl (omega arith)
          | inr w ↦ inr (suc w.0, omega (arith, w.1), w.2)
        ]
        go false p e later = inr (0, omega arith, leb-false _ _ p)

    so : (n : ℕ) (mask : List ℕ) → NoMask n mask → is_mask_of n mask ≡ false
    so n mask (inl short) = mask_short n mask short
    so zero mask (inr w) = absurd (omega (arith, w.1))
    so (suc n) [] (inr w) = refl
    so (suc n) (x ∷ mask) (inr (zero, h, k)) = rw (lt-leb _ _ k)
    so (suc n) (x ∷ mask) (inr (suc i, h, k)) = rw (so n mask (inr (i, omega arith, k))) (and-false (leb x 1))
