-- The least over the pairs of a list: bounded from both sides by what is known of single pairs.
use Prim.Native.Nat.{ℕ, ◌≤◌}
use mathlib.Core.Path.{◌≡◌, refl, sym, ◌∙◌}
use mathlib.Core.List.{List, [], ◌∷◌, Memᴰ}
use native.Mathlib.Omega.{arith}
use Rattle.window_groups.specs.Groups.{least_with, least_over}

module _ (n : ℕ) (hold : ℕ → ℕ → ℕ) (k : ℕ) where
  with_least : (c : ℕ) (ds : List ℕ) → k ≤ n → ((d : ℕ) → Memᴰ d ds → k ≤ hold c d) → k ≤ least_with n hold c ds
  unfolding least_with
  with_least c [] h each = h
  with_least c (d ∷ ds) h each = omega (arith, each d (Memᴰ.head refl), with_least c ds h (λ e m. each e (Memᴰ.tail m)))

  pub hold_least : (cs : List ℕ) → k ≤ n → ((c d : ℕ) → Memᴰ c cs → Memᴰ d cs → k ≤ hold c d) → k ≤ least_over n hold cs
  unfolding least_over
  hold_least [] h each = h
  hold_least (c ∷ cs) h each =
      let first = with_least c cs h (λ d m. each c d (Memᴰ.head refl) (Memᴰ.tail m)) in
      let others = hold_least cs h (λ a b p q. each a b (Memᴰ.tail p) (Memᴰ.tail q)) in
      omega arith

  with_most : (c : ℕ) {d : ℕ} {ds : List ℕ} → Memᴰ d ds → hold c d ≤ k → least_with n hold c ds ≤ k
  unfolding least_with
  with_most c (Memᴰ.head e) h = omega (arith, rw e at h)
  with_most c (Memᴰ.tail m) h = omega (arith, with_most c m h)

  pub hold_most : {c d : ℕ} {cs : List ℕ} → Memᴰ c cs → Memᴰ d cs → ¬ (c ≡ d)
      → hold c d ≤ k → hold d c ≤ k → least_over n hold cs ≤ k
  unfolding least_over
  hold_most (Memᴰ.head e) (Memᴰ.head f) apart h g = absurd (apart (e ∙ sym f))
  hold_most (Memᴰ.head {x} e) (Memᴰ.tail q) apart h g = omega (arith, with_most x q (rw e at h))
  hold_most (Memᴰ.tail p) (Memᴰ.head {x} f) apart h g = omega (arith, with_most x p (rw f at g))
  hold_most (Memᴰ.tail p) (Memᴰ.tail q) apart h g = omega (arith, hold_most p q apart h g)

-- cells without a pair hold for n closings, and any cells for n at most
pub hold_n : (n : ℕ) (hold : ℕ → ℕ → ℕ) (cs : List ℕ) → least_over n hold cs ≤ n
unfolding least_over
hold_n n hold [] = omega arith
hold_n n hold (c ∷ cs) = omega (arith, hold_n n hold cs)
