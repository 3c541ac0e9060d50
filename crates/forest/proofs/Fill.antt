-- Arrays that a loop fills from the front, entry c with f c; and the list 0, 1, .., n - 1.
use Prim.Native.Nat.{ℕ, zero, suc, ◌+◌, ◌≤◌, ◌<◌}
use mathlib.Core.Path.{◌≡◌, refl, sym, ap, ◌∙◌}
use mathlib.Core.List.{List, map}
use native.Mathlib.Omega.{arith}
use native.Mathlib.Nat.{zero-add}
use lib.ListN.{length, get_or, length-map, get_or-map}
use lib.Seq.{ext_get_or}
use Rattle.std.proofs.lemmas.List.{get_or_default}
use Rattle.forest.specs.Arrays.{count_from}

-- within a list the default does not matter
pub get_d_within : (l : List ℕ) (i d e : ℕ) → i < length l → get_or l i d ≡ get_or l i e
get_d_within = get_or_default

pub length_count_from : (i n : ℕ) → length (count_from i n) ≡ n
unfolding count_from
length_count_from i zero = refl
length_count_from i (suc n) = ap suc (length_count_from (suc i) n)

pub get_d_count_from : (i n c d : ℕ) → c < n → get_or (count_from i n) c d ≡ i + c
unfolding count_from
get_d_count_from i zero c d h = omega arith
get_d_count_from i (suc n) zero d h = omega arith
get_d_count_from i (suc n) (suc c) d h = get_d_count_from (suc i) n c d (omega arith) ∙ omega arith

-- the first i of the n entries are filled
pub record Filled (f : ℕ → ℕ) (n : ℕ) (l : List ℕ) (i : ℕ) : Type 0 where
  pub within : i ≤ n
  pub long : length l ≡ n
  pub filled : (k : ℕ) → k < i → get_or l k 0 ≡ f k

-- f of each of the numbers 0 to n - 1
module _ (f : ℕ → ℕ) (n : ℕ) where
  pub length_each : length (map f (count_from 0 n)) ≡ n
  length_each = length-map (count_from 0 n) f ∙ length_count_from 0 n

  pub get_d_each : (c d : ℕ) → c < n → get_or (map f (count_from 0 n)) c d ≡ f c
  get_d_each c d h =
      get_or_default (map f (count_from 0 n)) c d (f d) (rw length_each h) ∙ get_or-map f (count_from 0 n) c d
      ∙ ap f (get_d_count_from 0 n c d h ∙ zero-add c)

  -- is the list with these entries
  pub entries_each : {l : List ℕ} → length l ≡ n → ((k : ℕ) → k < n → get_or l k 0 ≡ f k) → l ≡ map f (count_from 0 n)
  entries_each {l} e g =
      ext_get_or 0 l _ (e ∙ sym length_each) (λ k k<l. let k<n : k < n = omega arith in g k k<n ∙ sym (get_d_each k 0 k<n))

  -- and what a loop fills in
  pub fill_each : {l : List ℕ} {i : ℕ} → Filled f n l i → n ≤ i → l ≡ map f (count_from 0 n)
  fill_each r h = entries_each r.long (λ k k<n. r.filled k (omega arith))
