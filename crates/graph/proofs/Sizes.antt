-- The sizes of a forest, and that making a root the child of one whose tree is as large or larger keeps them right (`merged_grown`).
--
-- The sizes of the roots below 2 ^ k add up to 2 ^ k, since a child's size goes to its top. So no size is above 2 ^ k.
-- A tree that becomes a child has at most half of what its top has then, so each step doubles the size.
use Prim.Native.Nat.{ℕ, zero, suc, ◌+◌, ◌*◌, ◌^◌, ◌≤◌, ◌<◌}
use mathlib.Core.Path.{◌≡◌, refl, sym, ◌∙◌, ap}
use mathlib.Core.Bool.{cond}
use native.Mathlib.Omega.{arith}
use native.Mathlib.Decide.{ℕ_discrete}
use native.Mathlib.Nat.{le_refl, le_trans, one-le-pow}
use lib.Dec.{eqb}
use borrow.Author.Tests.{eq-eqb, ne_eqb}
use Rattle.graph.specs.Forest.{Forest, fresh, put, merged}
use Rattle.graph.proofs.Walks.{Doubles, put_here, put_other, put_cases}

-- the sum of g below n
unfoldable pub total : (ℕ → ℕ) → ℕ → ℕ
total g zero = 0
total g (suc n) = total g n + g n

total_same : (g h : ℕ → ℕ) (n : ℕ) → ((c : ℕ) → c < n → g c ≡ h c) → total g n ≡ total h n
unfolding total
total_same g h zero e = refl
total_same g h (suc n) e = rw (total_same g h n (λ c l. e c (omega arith)), e n (le_refl (suc n)))

pub total_put : (g : ℕ → ℕ) (c v n : ℕ) → c < n → total (put c v g) n + g c ≡ total g n + v
unfolding total
total_put g c v zero l = absurd (omega arith)
total_put g c v (suc n) l = go (ℕ_discrete n c) (λ l. total_put g c v n l)
  where
    go : Dec (n ≡ c) → (c < n → total (put c v g) n + g c ≡ total g n + v) →
        total (put c v g) (suc n) + g c ≡ total g (suc n) + v
    go (yes e) below =
        omega
        (arith, put_here c v g n e, ap g e, total_same (put c v g) g n (λ x l. put_other c v g x (λ q. omega arith)))
    go (no h) below = omega (arith, put_other c v g n h, below (omega arith))

part_of_total : (g : ℕ → ℕ) (c n : ℕ) → c < n → g c ≤ total g n
part_of_total g c n l = omega (arith, total_put g c 0 n l)

-- a root's size, and 0 for every other cell
abbrev pub root_size : Forest → ℕ → ℕ
root_size f c = cond (eqb (f.parent c) c) (f.size c) 0

root_size_lem : (f : Forest) (c : ℕ) → f.parent c ≡ c → root_size f c ≡ f.size c
root_size_lem f c e = rw (eq-eqb (f.parent c) c e)

-- what every forest of links with ends below 2 ^ k is like
pub record Grown (k : ℕ) (f : Forest) : Type 0 where
  pub doubles : Doubles k f.parent f.size
  pub inside : (c : ℕ) → c < 2 ^ k → f.parent c < 2 ^ k
  pub whole : total (root_size f) (2 ^ k) ≡ 2 ^ k

total_fresh : (n : ℕ) → total (root_size fresh) n ≡ n
unfolding total
total_fresh zero = refl
total_fresh (suc n) = omega (arith, total_fresh n, root_size_lem fresh n refl)

pub fresh_grown : (k : ℕ) → Grown k fresh
fresh_grown k =
    record {
      doubles =
          record {
            doubling = λ c n. absurd (n refl);
            positive = λ c. le_refl 1;
            bounded = λ c. one-le-pow k 2 (omega arith);
          };
      inside = λ c l. l;
      whole = total_fresh (2 ^ k);
    }

-- c is a root, and below 2 ^ k
pub record Root (k : ℕ) (f : Forest) (c : ℕ) : Type 0 where
  pub stays : f.parent c ≡ c
  pub below : c < 2 ^ k

-- of two roots, `child` may become a child of `top`
pub record Merges (k : ℕ) (f : Forest) (child top : ℕ) : Type 0 where
  pub under : Root k f child
  pub over : Root k f top
  pub apart : ¬ (child ≡ top)
  pub lighter : f.size child ≤ f.size top

module _ {k : ℕ} {f : Forest} {child top : ℕ} (g : Grown k f) (h : Merges k f child top) (label : ℕ) where
  abbrev both : ℕ
  both = f.size top + f.size child

  abbrev new : Forest
  new = merged f label child top

  size_top : (c : ℕ) → c ≡ top → new.size c ≡ both
  size_top = put_here top both f.size

  size_other : (c : ℕ) → ¬ (c ≡ top) → new.size c ≡ f.size c
  size_other = put_other top both f.size

  size_grows : (c : ℕ) → f.size c ≤ new.size c
  size_grows c = put_cases (λ s. f.size c ≤ s) top both f.size c (λ e. omega (arith, ap f.size e)) (λ _. le_refl _)

  merged_doubling : (c : ℕ) → ¬ (new.parent c ≡ c) → 2 * new.size c ≤ new.size (new.parent c)
  merged_doubling c moves = go (ℕ_discrete c child)
    where
      go : Dec (c ≡ child) → 2 * new.size c ≤ new.size (new.parent c)
      go (yes e) =
          rw (put_here child top f.parent c e, e)
          (omega (arith, size_top top refl, size_other child h.apart, h.lighter))
      go (no n) =
          let same : new.parent c ≡ f.parent c = put_other child top f.parent c n in
          let moved : ¬ (f.parent c ≡ c) = λ q. moves (same ∙ q) in
          let not_top : ¬ (c ≡ top) = λ q. moved (rw q h.over.stays) in
          rw same (omega (arith, size_other c not_top, g.doubles.doubling c moved, size_grows (f.parent c)))

  -- the child is no root any more, and the top has its size too
  abbrev moved : ℕ → ℕ
  moved = put child 0 (put top both (root_size f))

  root_sizes : (c : ℕ) → root_size new c ≡ moved c
  root_sizes c = go (ℕ_discrete c child) (ℕ_discrete c top)
    where
      go : Dec (c ≡ child) → Dec (c ≡ top) → root_size new c ≡ moved c
      go (yes e) _ = simp (eq-eqb c child e, ne_eqb top c (λ q. h.apart (sym (q ∙ e))))
      go (no n) (yes e) = simp (ne_eqb c child n, eq-eqb c top e, eq-eqb (f.parent c) c (rw e h.over.stays))
      go (no n) (no m) = simp (ne_eqb c child n, ne_eqb c top m)

  merged_whole : total (root_size new) (2 ^ k) ≡ 2 ^ k
  merged_whole =
      omega (
        arith,
        g.whole,
        total_same (root_size new) moved (2 ^ k) (λ c _. root_sizes c),
        total_put (put top both (root_size f)) child 0 (2 ^ k) h.under.below,
        total_put (root_size f) top both (2 ^ k) h.over.below,
        put_other top both (root_size f) child h.apart,
        root_size_lem f child h.under.stays,
        root_size_lem f top h.over.stays,
      )

  both_bounded : both ≤ 2 ^ k
  both_bounded =
      omega (
        arith,
        merged_whole,
        part_of_total (root_size new) top (2 ^ k) h.over.below,
        root_sizes top,
        put_other child 0 (put top both (root_size f)) top (λ q. h.apart (sym q)),
        put_here top both (root_size f) top refl,
      )

  pub merged_grown : Grown k new
  merged_grown =
      record {
        doubles =
            record {
              doubling = merged_doubling;
              positive = λ c. le_trans (g.doubles.positive c) (size_grows c);
              bounded = λ c. put_cases (λ s. s ≤ 2 ^ k) top both f.size c (λ _. both_bounded) (λ _. g.doubles.bounded c);
            };
        inside = λ c l. put_cases (λ p. p < 2 ^ k) child top f.parent c (λ _. h.over.below) (λ _. g.inside c l);
        whole = merged_whole;
      }
