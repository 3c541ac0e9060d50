-- Each cell takes its parent's parent for its own, from cell 0 on. That only shortens its way (forest_scratch, `halved`); and its parent, which
-- is not above it, is a root itself or has its root for its parent already. So from then on the cell's parent is a root.
use Prim.Native.Nat.{ℕ, ◌+◌, ◌≤◌, ◌<◌}
use mathlib.Core.Path.{ap, ◌∙◌, subst⁻¹}
use mathlib.Core.List.{List}
use native.Mathlib.Omega.{arith}
use native.Mathlib.Decide.{ℕ_discrete}
use lib.ListN.{get_or, set}
use Rattle.forest.specs.Arrays.{places, parent_in}
use Rattle.forest_scratch.specs.Scratch.{Root}
use Rattle.forest_scratch.proofs.Shorter.{Shortened, stored, shorter_trans, halved, Going, going_begin, next_is, above_inside}
use Rattle.forest_scratch.proofs.Standing.{stands_shorter}
use Rattle.window_ends.specs.Joins.{ToRoots}

-- the cells below i have roots for their parents
pub record Rooting (ps : List ℕ) (i : ℕ) (ps' : List ℕ) : Type 0 where
  pub within : i ≤ places
  pub shorter : Shortened ps ps'
  pub roots : (c : ℕ) → c < i → Root ps' (parent_in ps' c)

module _ {ps : List ℕ} {i : ℕ} {ps' : List ℕ} (r : Rooting ps i ps') where
  pub rooting_all : places ≤ i → ToRoots ps ps'
  rooting_all h = record { stands = λ key s. stands_shorter s r.shorter; roots = λ c k. r.roots c (omega arith) }

  module _ (inside : i < places) where
    -- the code reads the parent, and the parent's parent, as a find does
    pub read : Going ps' i ps' i
    read = going_begin r.shorter.falls inside

    pub above_below : get_or ps' i 0 < places
    above_below = above_inside read

    abbrev up : ℕ
    up = parent_in ps' (parent_in ps' i)

    up_root : Root ps' up
    up_root = elim (ℕ_discrete (parent_in ps' i) i) [
      | yes e ↦ subst⁻¹ (Root ps') (ap (parent_in ps') e ∙ e) e
      | no n ↦ r.roots (parent_in ps' i) (omega (arith, n, r.shorter.falls.low i))
    ]

    shorter : Shortened ps' (set ps' i up)
    shorter = halved ps' i inside r.shorter.falls

    rooting_up : Rooting ps (i + 1) (set ps' i up)
    rooting_up =
        record {
          within = omega arith;
          shorter = shorter_trans r.shorter shorter;
          roots =
              λ c h. stored (Root (set ps' i up)) ps' i up c (rw r.shorter.falls.long inside) (λ e. (shorter.roots up).0 up_root)
              (λ n. (shorter.roots (parent_in ps' c)).0 (r.roots c (omega arith)));
        }

    pub rooting_one : Rooting ps (i + 1) (set ps' i (get_or ps' (get_or ps' i 0) 0))
    rooting_one = rw (next_is read) rooting_up
