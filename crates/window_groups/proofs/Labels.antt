-- The smallest label of a parent step from one of the cells of a list: at most the label of each, and that of one of them
-- unless there is none.
use Prim.Native.Nat.{ℕ, ◌≤◌, min}
use mathlib.Core.Path.{◌≡◌, refl, sym, ◌∙◌}
use mathlib.Core.Bool.{Bool, true, false, cond}
use mathlib.Core.List.{List, [], ◌∷◌, Memᴰ}
use mathlib.Core.Logic.{◌⊎◌, inl, inr}
use native.Mathlib.Omega.{arith}
use native.Mathlib.Decide.{dec_le}
use borrow.Author.Tests.{ne_eqb, eqb-false}
use lib.Dec.{eqb}
use Rattle.window_groups.specs.Trees.{least_label}

module _ (top : ℕ) (parent label : ℕ → ℕ) where
  pub label_top : (cs : List ℕ) → least_label top parent label cs ≤ top
  unfolding least_label
  label_top [] = omega arith
  label_top (c ∷ cs) = go (eqb (parent c) c) (label_top cs)
    where
      go : (t : Bool) → least_label top parent label cs ≤ top
          → cond t (least_label top parent label cs) (min (label c) (least_label top parent label cs)) ≤ top
      go true on = on
      go false on = omega arith

  -- it is at most the label of each step
  pub label_least : {c : ℕ} {cs : List ℕ} → Memᴰ c cs → ¬ (parent c ≡ c) → least_label top parent label cs ≤ label c
  unfolding least_label
  label_least {c} (Memᴰ.head {x} {xs} e) n = rw (← e, ne_eqb (parent c) c n) (omega arith)
  label_least {c} (Memᴰ.tail {x} {xs} m) n = go (eqb (parent x) x) (label_least m n)
    where
      go : (t : Bool) → least_label top parent label xs ≤ label c
          → cond t (least_label top parent label xs) (min (label x) (least_label top parent label xs)) ≤ label c
      go true on = on
      go false on = omega arith

  -- and it is that of a step, if it is not the top
  abbrev pub Found : List ℕ → ℕ → Type 0
  Found cs least = (least ≡ top) ⊎ ((c : ℕ) × Memᴰ c cs × ¬ (parent c ≡ c) × (label c ≡ least))

  pub label_found : (cs : List ℕ) → Found cs (least_label top parent label cs)
  unfolding least_label
  label_found [] = inl refl
  label_found (c ∷ cs) = go (eqb (parent c) c) refl (dec_le (label c) (least_label top parent label cs)) (label_found cs)
    where
      further : {l : ℕ} → l ≡ least_label top parent label cs → Found cs (least_label top parent label cs) → Found (c ∷ cs) l
      further e (inl k) = inl (e ∙ k)
      further e (inr (d, m, n, k)) = inr (d, Memᴰ.tail m, n, k ∙ sym e)

      go : (t : Bool) → eqb (parent c) c ≡ t → Dec (label c ≤ least_label top parent label cs) → Found cs (least_label top parent label cs)
          → Found (c ∷ cs) (cond t (least_label top parent label cs) (min (label c) (least_label top parent label cs)))
      go true p d on = further refl on
      go false p (yes h) on = inr (c, Memᴰ.head refl, eqb-false (parent c) c p, omega arith)
      go false p (no h) on = further (omega arith) on
