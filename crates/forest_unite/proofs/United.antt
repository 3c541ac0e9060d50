-- After `unite` the lists hold what the crate graph's `unite` makes of the forest that they held before.
--
-- A store within a list is `put`, whatever the default; so the three cases of a link (one root; the one under the other; the
-- other under the one) agree one by one.
use Rattle.std.proofs.Common.{◌≡◌, ℕ, ◌+◌, ◌%◌, ◌^◌, ◌<◌, ◌≤◌, Bool, true, false, cond, eqb, List, Option, Some, None, length, get_or, set, refl, lt_of_lt_of_le, mod-eq_of_lt, arith, length-set, get_or-set_other, get_or-set_same, eq-eqb, ne_eqb}
use mathlib.Core.Path.{fun_ext}
use native.Mathlib.Decide.{ℕ_discrete}
use Rattle.graph.specs.Forest.{Forest, climb, put, merged, goes_under_of, join_roots, unite}
use Rattle.graph.specs.Link.{Link}
use Rattle.forest.specs.Arrays.{parent_in, size_in, held}
use Rattle.forest.proofs.Held.{root_below}
use Rattle.forest.proofs.Ranged.{Ranged}
use Rattle.forest_unite.specs.declared.Merge.{Merge}
use Rattle.forest_unite.specs.United.{under, merge_of_roots_of, merge_of_lem, merged_parents, merged_sizes, merged_labels}

-- ---- stores
store_put : (l : List ℕ) (i v : ℕ) (d : ℕ → ℕ) → i < length l → (λ x. get_or (set l i v) x (d x)) ≡ put i v (λ x. get_or l x (d x))
store_put l i v d h = fun_ext (λ x. at x (ℕ_discrete x i))
  where
    at : (x : ℕ) → Dec (x ≡ i) → get_or (set l i v) x (d x) ≡ put i v (λ x. get_or l x (d x)) x
    at x (yes e) = rw (eq-eqb x i e, e) (get_or-set_same l i v (d i) h)
    at x (no k) = rw (ne_eqb x i k) (get_or-set_other l i x v (d x) k)

-- the forest that the lists hold after a link
abbrev pub after : List ℕ → List ℕ → List ℕ → ℕ → Option Merge → Forest
after ps ss ls label h = held (merged_parents ps h) (merged_sizes ss h) (merged_labels ls h label)

module _ {n : ℕ} (ps ss ls : List ℕ) (label : ℕ) (r : Ranged n ps ss) (narrow : n < 2 ^ 15) (labels : n ≤ length ls) where
  after_under : (child top : ℕ) → child < n → top < n → after ps ss ls label (Some (under ss child top)) ≡ merged (held ps ss ls) label child top
  after_under child top hc ht =
      λ i.
      record {
        parent = store_put ps child top (λ c. c) (lt_of_lt_of_le hc r.parents_long) i;
        size = size i;
        label = store_put ls child label (λ c. 0) (lt_of_lt_of_le hc labels) i;
      }
    where
      sum : (size_in ss top + size_in ss child) % 2 ^ 16 ≡ size_in ss top + size_in ss child
      sum = mod-eq_of_lt (omega (arith, r.size_to child hc, r.size_to top ht))

      size : size_in (set ss top ((size_in ss top + size_in ss child) % 2 ^ 16)) ≡ put top (size_in ss top + size_in ss child) (size_in ss)
      size = rw sum (store_put ss top _ (λ c. 1) (lt_of_lt_of_le ht r.sizes_long))

  after_roots : (a b : ℕ) → a < n → b < n → after ps ss ls label (merge_of_roots_of ss a b) ≡ join_roots (held ps ss ls) label a b
  after_roots a b ha hb = picked (eqb a b) (goes_under_of (size_in ss) a b)
    where
      picked : (t u : Bool) → after ps ss ls label (cond t None (cond u (Some (under ss a b)) (Some (under ss b a))))
          ≡ cond t (held ps ss ls) (cond u (merged (held ps ss ls) label a b) (merged (held ps ss ls) label b a))
      picked true u = refl
      picked false true = after_under a b ha hb
      picked false false = after_under b a hb ha

-- no array changes its length
pub merged_parents_length : (ps : List ℕ) (h : Option Merge) → length (merged_parents ps h) ≡ length ps
merged_parents_length ps None = refl
merged_parents_length ps (Some h) = length-set ps h.child h.top

pub merged_sizes_length : (ss : List ℕ) (h : Option Merge) → length (merged_sizes ss h) ≡ length ss
merged_sizes_length ss None = refl
merged_sizes_length ss (Some h) = length-set ss h.top h.size

pub merged_labels_length : (ls : List ℕ) (h : Option Merge) (label : ℕ) → length (merged_labels ls h label) ≡ length ls
merged_labels_length ls None label = refl
merged_labels_length ls (Some h) label = length-set ls h.child label

-- ---- one link more
module _ {n : ℕ} (ps ss ls : List ℕ) (label : ℕ) (r : Ranged n ps ss) (narrow : n < 2 ^ 15) (labels : n ≤ length ls)
    (limit : ℕ) (x : Link) (one : x.one < n) (other : x.other < n) where
  root : (c : ℕ) → c < n → (climb (parent_in ps) limit c).root < n
  root = root_below (parent_in ps) n r.parent_below limit

  pub held_unite : after ps ss ls label (merge_of_lem ps ss limit x.one x.other) ≡ unite limit (held ps ss ls) (record { label = label; link = x })
  unfolding unite
  held_unite = after_roots ps ss ls label r narrow labels _ _ (root x.one one) (root x.other other)
