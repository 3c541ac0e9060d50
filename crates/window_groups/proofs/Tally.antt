-- A pass over the cells, from the last to the first, that stores at each cell's root: when it is done, the array holds of each
-- root what one function gives of its tree. The number of cells, the smallest cell and the smallest label are three such
-- functions.
use Prim.Native.Nat.{ℕ, suc, ◌-◌, ◌≤◌, ◌<◌}
use mathlib.Core.Path.{◌≡◌, sym, ap, ◌∙◌}
use mathlib.Core.List.{List, [], ◌∷◌}
use native.Mathlib.Omega.{arith}
use native.Mathlib.Decide.{ℕ_discrete}
use borrow.Author.Tests.{eq-eqb, ne_eqb}
use lib.Dec.{eqb}
use lib.ListN.{length, get_or, set, replicate, length-set, length-replicate, get_or-replicate}
use lib.Seq.{get_or-set_same, get_or-set_other, ext_get_or}
use Rattle.forest.specs.Arrays.{count_from}
use Rattle.forest.proofs.Fill.{length_each, get_d_each, length_count_from}
use Rattle.book_state.specs.Arrays.{cells}
use Rattle.window_groups.specs.Groups.{filter}
use Rattle.window_groups.specs.Trees.{tree_of, of_trees}
use Rattle.window_groups.proofs.Cells.{filter_short}

-- the cells from c on whose root is r
abbrev pub tree_from : (ℕ → ℕ) → ℕ → ℕ → List ℕ
tree_from root r c = filter (λ d. eqb (root d) r) (count_from c (cells - c))

pub tree_short : (root : ℕ → ℕ) (r c : ℕ) → length (tree_from root r c) ≤ cells
tree_short root r c = omega (arith, filter_short (λ d. eqb (root d) r) (count_from c (cells - c)), length_count_from c (cells - c))

-- the cells from c on are stored
pub record Tallied (f : List ℕ → ℕ) (root : ℕ → ℕ) (a : List ℕ) (c : ℕ) : Type 0 where
  pub within : c ≤ cells
  pub long : length a ≡ cells
  pub stored : (r : ℕ) → r < cells → get_or a r 0 ≡ f (tree_from root r c)

module _ (root : ℕ → ℕ) (c r : ℕ) (h : c < cells) where
  left : cells - c ≡ suc (cells - suc c)
  left = omega arith

  -- a cell belongs to its root's tree and to no other
  tree_one : root c ≡ r → tree_from root r c ≡ c ∷ tree_from root r (suc c)
  unfolding filter count_from
  tree_one e = rw (left, eq-eqb (root c) r e)

  tree_other : ¬ (root c ≡ r) → tree_from root r c ≡ tree_from root r (suc c)
  unfolding filter count_from
  tree_other e = rw (left, ne_eqb (root c) r e)

module _ {f : List ℕ → ℕ} {root : ℕ → ℕ} where
  -- a fresh array, of what the function gives of no cells
  pub tallied_none : (x : ℕ) → x ≡ f [] → Tallied f root (replicate cells x) cells
  unfolding filter count_from
  tallied_none x e =
      record { within = omega arith; long = length-replicate cells x; stored = λ r h. get_or-replicate cells r x 0 h ∙ e }

  pub tallied_one : {a : List ℕ} {c r v : ℕ} → Tallied f root a c → 0 < c → root (c - 1) ≡ r → r < cells
      → v ≡ f ((c - 1) ∷ tree_from root r c) → Tallied f root (set a r v) (c - 1)
  tallied_one {a} {c} {r} {v} t h e below is =
      record { within = omega (arith, t.within); long = length-set a r v ∙ t.long; stored = at }
    where
      cell : c - 1 < cells
      cell = omega (arith, t.within)

      next : suc (c - 1) ≡ c
      next = omega arith

      at : (s : ℕ) → s < cells → get_or (set a r v) s 0 ≡ f (tree_from root s (c - 1))
      at s k = elim (ℕ_discrete s r) [
        | yes q ↦ rw q (get_or-set_same a r v 0 (rw t.long below) ∙ is ∙ ap f (sym (rw next at (tree_one root (c - 1) r cell e))))
        | no q ↦
            let other = tree_other root (c - 1) s cell (λ w. q (sym w ∙ e)) in
            get_or-set_other a r s v 0 q ∙ t.stored s k ∙ ap f (sym (rw next at other))
      ]

  pub tallied_all : {a : List ℕ} {c : ℕ} → Tallied f root a c → c ≤ 0 → a ≡ of_trees f root
  tallied_all {a} {c} t h =
      ext_get_or 0 a _ (t.long ∙ sym (length_each _ cells))
      (λ r k. rw none at (t.stored r (rw t.long at k)) ∙ sym (get_d_each (λ s. f (tree_of root s)) cells r 0 (rw t.long at k)))
    where
      none : c ≡ 0
      none = omega arith
