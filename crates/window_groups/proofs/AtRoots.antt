-- What the arrays of the passes tell at a cell: they are asked at its root, and give what the cell's tree gives.
use Prim.Native.Nat.{ℕ, ◌+◌, ◌≤◌, ◌<◌}
use mathlib.Core.Path.{◌≡◌, ap, ◌∙◌}
use mathlib.Core.List.{List}
use mathlib.Core.Logic.{inl, inr}
use native.Mathlib.Omega.{arith}
use native.Mathlib.Decide.{dec_lt}
use lib.Dec.{eqb}
use lib.ListN.{length, get_or-eq_default}
use Rattle.graph.specs.Forest.{climb}
use Rattle.forest.specs.Arrays.{parent_in, label_in, roots_of}
use Rattle.forest.proofs.Fill.{length_each, get_d_each}
use Rattle.forest.proofs.Held.{root_below}
use Rattle.book_state.specs.Arrays.{cells, step_limit}
use Rattle.window_groups.specs.declared.trees.Tallies.{Tallies}
use Rattle.window_groups.specs.Groups.{smallest}
use Rattle.window_groups.specs.Trees.{root_in, Roots, tree_of, of_trees, least_label, tallies_of, at_root}
use Rattle.window_groups.proofs.Cells.{filter_agree}
use Rattle.window_groups.proofs.Labels.{Found, label_found}

-- a forest of links with labels from 1 on, as far as the passes need it
pub record Grown (ps ls : List ℕ) : Type 0 where
  pub long : length ps ≡ cells
  pub inside : (c : ℕ) → c < cells → parent_in ps c < cells
  pub from_one : (c : ℕ) → ¬ (parent_in ps c ≡ c) → 1 ≤ label_in ls c

-- what the passes gave
pub record AtRoots (n : ℕ) (ps ls roots : List ℕ) (t : Tallies) : Type 0 where
  pub grown : Grown ps ls
  pub roots_are : roots ≡ roots_of ps step_limit cells
  pub tallies_are : t ≡ tallies_of roots ps ls (n + 1)

-- a cell's root
module _ {ps ls : List ℕ} (g : Grown ps ls) where
  abbrev root : ℕ → ℕ
  root c = (climb (parent_in ps) step_limit c).root

  root_is : {roots : List ℕ} → roots ≡ roots_of ps step_limit cells → (c : ℕ) → c < cells → root_in roots c ≡ root c
  root_is e c h = rw e (get_d_each root cells c 0 h)

  pub roots_below : {roots : List ℕ} → roots ≡ roots_of ps step_limit cells → Roots roots
  roots_below {roots} e c = elim (dec_lt c cells) [
    | yes h ↦ rw (root_is e c h) (root_below (parent_in ps) cells g.inside step_limit c h)
    | no h ↦ rw (get_or-eq_default roots 0 {n = c} (omega (arith, ap length e, length_each root cells))) (omega arith)
  ]

module _ {n : ℕ} {ps ls roots : List ℕ} {t : Tallies} (told : AtRoots n ps ls roots t) {c : ℕ} (h : c < cells) where
  abbrev root_of : ℕ → ℕ
  root_of d = (climb (parent_in ps) step_limit d).root

  abbrev tree : List ℕ
  tree = tree_of root_of (root_of c)

  -- at the cell's root stands what its tree gives
  at_root_lem : (f : List ℕ → ℕ) → at_root roots (of_trees f (root_in roots)) c ≡ f tree
  at_root_lem f =
      get_d_each (λ r. f (tree_of (root_in roots) r)) cells (root_in roots c) 0 (roots_below told.grown told.roots_are c)
      ∙ ap f (filter_agree _ _ 0 cells (λ d _ k. same d (omega arith)))
    where
      same : (d : ℕ) → d < cells → eqb (root_in roots d) (root_in roots c) ≡ eqb (root_of d) (root_of c)
      same d k = rw (root_is told.grown told.roots_are d k, root_is told.grown told.roots_are c h)

  pub first_at : at_root roots t.first c ≡ smallest tree
  unfolding tallies_of
  first_at = ap (λ a. at_root roots a.first c) told.tallies_are ∙ at_root_lem smallest

  pub count_at : at_root roots t.count c ≡ length tree
  unfolding tallies_of
  count_at = ap (λ a. at_root roots a.count c) told.tallies_are ∙ at_root_lem length

  pub least_at : at_root roots t.least c ≡ least_label (n + 1) (parent_in ps) (label_in ls) tree
  unfolding tallies_of
  least_at = ap (λ a. at_root roots a.least c) told.tallies_are ∙ at_root_lem (least_label (n + 1) (parent_in ps) (label_in ls))

  -- a label of a step, or n + 1
  pub least_positive : 1 ≤ at_root roots t.least c
  least_positive = rw least_at (from_one (label_found (n + 1) (parent_in ps) (label_in ls) tree))
    where
      from_one : {m : ℕ} → Found (n + 1) (parent_in ps) (label_in ls) tree m → 1 ≤ m
      from_one (inl e) = omega arith
      from_one (inr (d, _, step, e)) = omega (arith, told.grown.from_one d step)
