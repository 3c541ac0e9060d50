-- The lists hold a forest of the crate graph: fresh lists hold `fresh`, and the walks are its walks.
use Prim.Native.Nat.{ℕ, zero, suc, ◌<◌, zero-le}
use mathlib.Core.Path.{◌≡◌, refl, ◌∙◌, fun_ext}
use mathlib.Core.Bool.{Bool, true, false, cond}
use mathlib.Core.List.{List}
use native.Mathlib.Omega.{arith}
use native.Mathlib.Nat.{zero-add}
use native.Mathlib.Decide.{dec_le}
use borrow.Author.Tests.{le-ltb}
use lib.Dec.{eqb}
use lib.ListN.{get_or, replicate, get_or-eq_default}
use Rattle.graph.specs.Forest as graph
use Rattle.graph.specs.Forest.{climb, fresh, walk, walk_at_of}
use Rattle.forest.specs.Arrays.{parent_in, label_in, parent_at_in, held, fresh_parents_of, fresh_sizes_of, fresh_labels_of, walked, walk_of, walk_at_of_lem, roots_of, roots_at_of}
use Rattle.forest.proofs.Fill.{get_d_count_from, length_count_from, get_d_each}

-- ---- fresh lists
pub fresh_parent : (n c : ℕ) → parent_in (fresh_parents_of n) c ≡ c
fresh_parent n c = elim (dec_le n c) [ yes h ↦ get_or-eq_default (fresh_parents_of n) c (rw length_count_from h) | no h ↦ get_d_count_from 0 n c c (omega arith) ∙ zero-add c ]

-- an entry of a list of one value, which is also the default
same_everywhere : (n c d : ℕ) → get_or (replicate n d) c d ≡ d
same_everywhere zero c d = refl
same_everywhere (suc n) zero d = refl
same_everywhere (suc n) (suc c) d = same_everywhere n c d

pub held_fresh : (n : ℕ) → held (fresh_parents_of n) (fresh_sizes_of n) (fresh_labels_of n) ≡ fresh
held_fresh n =
    λ i.
    record {
      parent = fun_ext (fresh_parent n) i;
      size = fun_ext (λ c. same_everywhere n c 1) i;
      label = fun_ext (λ c. same_everywhere n c 0) i;
    }

-- ---- walks
module _ (ps ss ls : List ℕ) (limit : ℕ) where
  pub held_walk : (c : ℕ) → walk_of ps limit c ≡ walked (walk limit (held ps ss ls) c)
  unfolding walk
  held_walk c = refl

  pub held_walk_at : (cut c : ℕ) → walk_at_of_lem ps ls limit cut c ≡ walked (walk_at_of limit (held ps ss ls) cut c)
  unfolding walk_at_of
  held_walk_at cut c = refl

-- entry c of the roots is the root of c
pub roots_entry : (ps : List ℕ) (limit n c d : ℕ) → c < n → get_or (roots_of ps limit n) c d ≡ (walk_of ps limit c).root
roots_entry ps limit n = get_d_each (λ c. (climb (parent_in ps) limit c).root) n

pub roots_at_entry : (ps ls : List ℕ) (limit cut n c d : ℕ) → c < n → get_or (roots_at_of ps ls limit cut n) c d ≡ (walk_at_of_lem ps ls limit cut c).root
roots_at_entry ps ls limit cut n = get_d_each (λ c. (climb (parent_at_in ps ls cut) limit c).root) n

-- at cut 0 every step is taken
pub uncut : (ps ls : List ℕ) → parent_at_in ps ls 0 ≡ parent_in ps
uncut ps ls = fun_ext (λ c. rw (le-ltb (label_in ls c) 0 zero-le))

-- a walk stays among the cells
cond_root : {n : ℕ} (t : Bool) (v w : graph.Walk) → v.root < n → w.root < n → (cond t v w).root < n
cond_root true v w h k = h
cond_root false v w h k = k

pub root_below : (up : ℕ → ℕ) (n : ℕ) → ((c : ℕ) → c < n → up c < n) → (limit c : ℕ) → c < n → (climb up limit c).root < n
unfolding climb
root_below up n inside zero c h = h
root_below up n inside (suc limit) c h = cond_root (eqb (up c) c) _ _ h (root_below up n inside limit (up c) (inside c h))
