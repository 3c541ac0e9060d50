-- The groups of the window's links are the trees of their forest.
--
-- A group is a tree: two cells have one root exactly when links chain them. Let m be the smallest label of a step in the
-- tree. At cut m no step of the tree is cut, so any two of its cells are chained by links from label m on. And the step of
-- label m, from c to its parent p, is cut at every higher cut j: there c is its own root, and p's walk, along which sizes
-- grow, never comes to c. So the pair c, p holds for m - 1 closings and no other pair for fewer.
use Prim.Native.Nat.{ℕ, zero, suc, ◌+◌, ◌-◌, ◌≤◌, ◌<◌}
use mathlib.Core.Path.{◌≡◌, refl, sym, ap, ◌∙◌}
use mathlib.Core.Bool.{Bool, true, false, cond}
use mathlib.Core.List.{List, Memᴰ}
use mathlib.Core.Logic.{◌↔◌, inl, inr}
use native.Mathlib.Omega.{arith}
use native.Mathlib.Decide.{ℕ_discrete}
use native.Mathlib.Nat.{le_refl}
use borrow.Author.Tests.{eq-eqb, ne_eqb, eqb-true, lt-ltb, le-ltb}
use lib.Dec.{eqb, ltb}
use Rattle.graph.specs.Link.{Chained, chains}
use Rattle.graph.specs.Forest.{Forest, Walk, Labelled, Each, EndsBelow, NeverRise, climb, walk, walk_at_of, parent_at, forest_of, at_least}
use Rattle.graph.proofs.Chains.{true_chains, false_chains, chained_sym}
use Rattle.graph.proofs.Forests.{same_root, walk_agree, doubling, size_positive, parent_below}
use Rattle.graph.proofs.Cut.{each_map, all_at_least, same_root_at}
use Rattle.forest.specs.Arrays.{count_from}
use Rattle.book_state.specs.Arrays.{cells, step_limit}
use Rattle.window.specs.Window.{links_from_label}
use Rattle.window.proofs.Highest.{chained_highest, highest_below}
use Rattle.window_groups.specs.Groups.{group_of, hold_of, least_hold}
use Rattle.window_groups.specs.Trees.{tree_of, least_label}
use Rattle.window_groups.proofs.Cells.{in_count, count_in, in_filter, filter_in, filter_agree}
use Rattle.window_groups.proofs.Labels.{Found, label_top, label_least, label_found}
use Rattle.window_groups.proofs.LeastHold.{hold_least, hold_most, hold_n}

-- ---- walks by two parent functions that agree, and what a walk keeps

climb_agree : (up up' : ℕ → ℕ) (Q : ℕ → Type 0) → ((x : ℕ) → Q x → up x ≡ up' x) → ((x : ℕ) → Q x → Q (up x))
    → (step_limit c : ℕ) → Q c → climb up step_limit c ≡ climb up' step_limit c
unfolding climb
climb_agree up up' Q agree keeps zero c q = refl
climb_agree up up' Q agree keeps (suc step_limit) c q = rw (climb_agree up up' Q agree keeps step_limit (up c) (keeps c q), agree c q)

climb_keeps : (up : ℕ → ℕ) (Q : ℕ → Type 0) → ((x : ℕ) → Q x → Q (up x)) → (step_limit c : ℕ) → Q c → Q (climb up step_limit c).root
unfolding climb
climb_keeps up Q keeps zero c q = q
climb_keeps up Q keeps (suc step_limit) c q = go (eqb (up c) c) _ _ q (climb_keeps up Q keeps step_limit (up c) (keeps c q))
  where
    go : (t : Bool) (v w : Walk) → Q v.root → Q w.root → Q (cond t v w).root
    go true v w p r = p
    go false v w p r = r

climb_stays : (up : ℕ → ℕ) (step_limit c : ℕ) → up c ≡ c → (climb up step_limit c).root ≡ c
unfolding climb
climb_stays up zero c e = refl
climb_stays up (suc step_limit) c e = rw (eq-eqb (up c) c e)

climb_step : (up : ℕ → ℕ) (step_limit c : ℕ) → ¬ (up c ≡ c) → (climb up (suc step_limit) c).root ≡ (climb up step_limit (up c)).root
unfolding climb
climb_step up step_limit c e = rw (ne_eqb (up c) c e)

-- ---- trees

module _ (root : ℕ → ℕ) {r c : ℕ} where
  in_tree : c < cells → root c ≡ r → Memᴰ c (tree_of root r)
  in_tree h e = in_filter (λ d. eqb (root d) r) (in_count 0 cells (omega arith) (omega arith)) (eq-eqb (root c) r e)

  tree_in : Memᴰ c (tree_of root r) → (c < cells) × (root c ≡ r)
  tree_in m =
      let is = filter_in (λ d. eqb (root d) r) (count_from 0 cells) m in
      (omega (arith, (count_in 0 cells is.1).1), eqb-true (root c) r is.0)

-- ---- the forest of the window's links

-- links in the order in which they were united, the last at the front, that chain what the window's links chain
pub record Ordered (n : ℕ) (xs ys : List Labelled) : Type 0 where
  pub ends : EndsBelow cells ys
  pub falls : NeverRise ys
  pub labels : Each (λ y. (1 ≤ y.label) × (y.label ≤ n)) ys
  pub chain : (j a b : ℕ) → Chained (links_from_label j xs) a b ↔ Chained (links_from_label j ys) a b

module _ {n : ℕ} {xs ys : List Labelled} (w : Ordered n xs ys) where
  abbrev f : Forest
  f = forest_of step_limit ys

  abbrev root : ℕ → ℕ
  root c = (climb f.parent step_limit c).root

  abbrev root_at : ℕ → ℕ → ℕ
  root_at j c = (climb (parent_at f j) step_limit c).root

  -- two cells have one root exactly when the window's links chain them
  one_root : (a b : ℕ) → (root a ≡ root b) ↔ Chained (links_from_label 1 xs) a b
  unfolding walk
  one_root a b =
      let same = same_root (le_refl 10) w.ends a b in
      let chain = w.chain 1 a b in
      (λ e. chain.1 (rw all (same.0 e)), λ k. same.1 (rw all at (chain.0 k)))
    where
      all : at_least 1 ys ≡ ys
      all = all_at_least 1 (each_map (λ y p. p.0) w.labels)

  one_root_at : (j a b : ℕ) → (root_at j a ≡ root_at j b) ↔ Chained (links_from_label j xs) a b
  unfolding walk_at_of
  one_root_at j a b =
      let same = same_root_at (le_refl 10) w.ends w.falls j a b in
      let chain = w.chain j a b in
      (λ e. chain.1 (same.0 e), λ k. same.1 (chain.0 k))

  pub group_is_tree : (c : ℕ) → group_of xs c ≡ tree_of root (root c)
  group_is_tree c = filter_agree _ _ 0 cells (λ d h k. same d (ℕ_discrete (root d) (root c)))
    where
      same : (d : ℕ) → Dec (root d ≡ root c) → chains (links_from_label 1 xs) c d ≡ eqb (root d) (root c)
      same d (yes e) = true_chains ((one_root c d).0 (sym e)) ∙ sym (eq-eqb (root d) (root c) e)
      same d (no e) = false_chains _ c d (λ k. e (sym ((one_root c d).1 k))) ∙ sym (ne_eqb (root d) (root c) e)

  -- a step leads on in the tree
  enough_steps : (m c : ℕ) → 10 ≤ m → (climb f.parent m c).root ≡ root c
  unfolding walk
  enough_steps m c h = ap (λ v. v.root) (walk_agree (le_refl 10) w.ends m 10 c h (le_refl 10))

  root_up : (c : ℕ) → root (f.parent c) ≡ root c
  root_up c = elim (ℕ_discrete (f.parent c) c) [
    | yes e ↦ ap root e
    | no e ↦ sym (climb_step f.parent step_limit c e) ∙ enough_steps 11 c (omega arith)
  ]

  -- a step to the parent leads to a larger size
  grows : (c : ℕ) → f.size c ≤ f.size (f.parent c)
  grows c = elim (ℕ_discrete (f.parent c) c) [
    | yes e ↦ rw e (le_refl _)
    | no e ↦ omega (arith, doubling (le_refl 10) w.ends c e)
  ]

  -- ---- the two ends of a step above whose label the cut is

  module _ (c : ℕ) (step : ¬ (f.parent c ≡ c)) (j : ℕ) (above : f.label c < j) where
    own_root : root_at j c ≡ c
    own_root = climb_stays (parent_at f j) step_limit c (rw (lt-ltb (f.label c) j above))

    never_back : f.size (f.parent c) ≤ f.size (root_at j (f.parent c))
    never_back = climb_keeps (parent_at f j) (λ x. f.size (f.parent c) ≤ f.size x) keeps step_limit (f.parent c) (le_refl _)
      where
        keeps : (x : ℕ) → f.size (f.parent c) ≤ f.size x → f.size (f.parent c) ≤ f.size (parent_at f j x)
        keeps x h = go (ltb (f.label x) j)
          where
            go : (t : Bool) → f.size (f.parent c) ≤ f.size (cond t x (f.parent x))
            go true = h
            go false = omega (arith, grows x)

    apart : root_at j c ≡ root_at j (f.parent c) → ⊥
    apart e =
        let back = ap f.size (sym own_root ∙ e) in
        omega (arith, never_back, doubling (le_refl 10) w.ends c step, size_positive (le_refl 10) w.ends c)

  -- ---- the least hold of a tree

  module _ (r : ℕ) where
    abbrev tree : List ℕ
    tree = tree_of root r

    abbrev least : ℕ
    least = least_label (n + 1) f.parent f.label tree

    -- at the cut of the smallest label no step of the tree is cut
    uncut : (c : ℕ) → c < cells → root c ≡ r → root_at least c ≡ r
    uncut c h e =
        sym (ap (λ v. v.root) (climb_agree f.parent (parent_at f least) InTree agree keeps step_limit c (h, e))) ∙ e
      where
        InTree : ℕ → Type 0
        InTree x = (x < cells) × (root x ≡ r)

        stays : (x : ℕ) (t : Bool) → f.parent x ≡ x → f.parent x ≡ cond t x (f.parent x)
        stays x true k = k
        stays x false k = refl

        agree : (x : ℕ) → (x < cells) × (root x ≡ r) → f.parent x ≡ parent_at f least x
        agree x q = elim (ℕ_discrete (f.parent x) x) [
          | yes k ↦ stays x (ltb (f.label x) least) k
          | no k ↦ rw (le-ltb (f.label x) least (label_least (n + 1) f.parent f.label (in_tree root q.0 q.1) k))
        ]

        keeps : (x : ℕ) → (x < cells) × (root x ≡ r) → (f.parent x < cells) × (root (f.parent x) ≡ r)
        keeps x q = (parent_below (le_refl 10) w.ends x q.0, root_up x ∙ q.1)

    no_merge : (a b : ℕ) → Memᴰ a tree → Memᴰ b tree → least - 1 ≤ hold_of n xs a b
    no_merge a b p q =
        let one = tree_in root p in
        let other = tree_in root q in
        let top : least ≤ n + 1 = label_top (n + 1) f.parent f.label tree in
        let joined = (one_root_at least a b).0 (uncut a one.0 one.1 ∙ sym (uncut b other.0 other.1)) in
        omega (arith, chained_highest xs a b (suc n) least (omega arith) joined)

    pub tree_hold : least_hold n xs tree ≡ least - 1
    tree_hold = omega (arith, low, high (label_found (n + 1) f.parent f.label tree))
      where
        low : least - 1 ≤ least_hold n xs tree
        low = hold_least n (hold_of n xs) (least - 1) tree (omega (arith, label_top (n + 1) f.parent f.label tree)) no_merge

        high : Found (n + 1) f.parent f.label tree least → least_hold n xs tree ≤ least - 1
        high (inl e) = omega (arith, hold_n n (hold_of n xs) tree)
        high (inr (c, m, step, e)) =
            let p : ℕ = f.parent c in
            let is = tree_in root m in
            let over = in_tree root (parent_below (le_refl 10) w.ends c is.0) (root_up c ∙ is.1) in
            hold_most n (hold_of n xs) (least - 1) m over (λ k. step (sym k))
            (omega (arith, highest_below xs c p (suc n) least (λ j above k. apart c step j (omega arith) ((one_root_at j c p).1 k))))
            (omega (arith, highest_below xs p c (suc n) least (λ j above k. apart c step j (omega arith) ((one_root_at j c p).1 (chained_sym k)))))
