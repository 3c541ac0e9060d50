-- How many groups have no mark yet: what falls from call to call of a crossing. Marks that only grow leave no more of
-- them, and a new mark leaves fewer.
use Prim.Native.Nat.{ℕ, zero, suc, ◌+◌, ◌≤◌, ◌<◌, zero-le}
use mathlib.Core.Path.{◌≡◌}
use mathlib.Core.List.{List, [], ◌∷◌}
use native.Mathlib.Nat.{le_refl, add-le-add}
use native.Mathlib.Omega.{arith}
use lib.ListN.{length, get_or, set}
use Rattle.forest_cross.specs.Marks.{Marked}

-- 1 for a group with no mark
abbrev free : ℕ → ℕ
free zero = 1
free (suc k) = 0

unfoldable pub unmarked : List ℕ → ℕ
unmarked [] = 0
unmarked (m ∷ ms) = free m + unmarked ms

-- marks that only grow leave no more without
pub unmarked_kept : (m m' : List ℕ) → length m' ≡ length m → ((g : ℕ) → Marked m g → Marked m' g) → unmarked m' ≤ unmarked m
unfolding unmarked
unmarked_kept [] [] e k = le_refl 0
unmarked_kept [] (y ∷ m') e k = absurd (omega arith)
unmarked_kept (x ∷ m) [] e k = zero-le
unmarked_kept (x ∷ m) (y ∷ m') e k =
    let rest = unmarked_kept m m' (omega arith) (λ g. k (suc g)) in
    add-le-add (free_kept x y (k 0)) rest
  where
    free_kept : (x y : ℕ) → (1 ≤ x → 1 ≤ y) → free y ≤ free x
    free_kept zero zero k = le_refl 1
    free_kept zero (suc y) k = zero-le
    free_kept (suc x) zero k = absurd (omega (arith, k (omega arith)))
    free_kept (suc x) (suc y) k = zero-le

-- a mark where there was none leaves fewer
pub unmarked_less : (m : List ℕ) (group : ℕ) → group < length m → get_or m group 0 ≡ 0 → unmarked (set m group 1) < unmarked m
unfolding unmarked
unmarked_less [] group h e = absurd (omega arith)
unmarked_less (zero ∷ m) zero h e = omega arith
unmarked_less (suc x ∷ m) zero h e = absurd (omega arith)
unmarked_less (x ∷ m) (suc group) h e =
    let rest = unmarked_less m group (omega arith) e in
    omega arith
