-- The forest of a list of links: its walks end at roots, and two cells have one root exactly when links chain them.
--
-- Where all ends are below 2 ^ k and walks may take k steps, a link either finds its ends under one root and changes
-- nothing, or puts the root of one under that of the other, which is as large or larger (`United`). Over that each law
-- is an induction: the forest is `Grown`, each cell is chained with its root, and the ends of each link have one root.
use Prim.Native.Nat.{ℕ, ◌*◌, ◌^◌, ◌≤◌, ◌<◌, zero-le}
use mathlib.Core.Path.{◌≡◌, refl, sym, ◌∙◌, ap}
use mathlib.Core.Bool.{Bool, true, false, cond, true≢false, false≢true}
use mathlib.Core.List.{List, [], ◌∷◌, map}
use mathlib.Core.Logic.{◌↔◌}
use native.Mathlib.Omega.{arith}
use native.Mathlib.Decide.{ℕ_discrete, dec_le}
use native.Mathlib.Nat.{le_trans}
use borrow.Author.Tests.{eq-eqb, ne_eqb, lt-ltb, le-ltb}
use Rattle.graph.specs.Link.{Link, Between, along, against, Linked, here, there, Chained, same}
use Rattle.graph.specs.Forest.{Forest, walk, put, goes_under_of, merged, join_roots, Labelled, unite, forest_of}
use Rattle.graph.specs.Forest.{empty, also, EndsBelow}
use Rattle.graph.proofs.Chains.{chained_sym, chained_trans, chained_agree, chained_there, chained_one}
use Rattle.graph.proofs.Walks.{Way, arrived, way_ends, way_keeps, way_climb, way_size, way_short, way_put, climb_way}
use Rattle.graph.proofs.Walks.{put_here, put_other, put_cases}
use Rattle.graph.proofs.Sizes.{Grown, fresh_grown, Root, Merges, merged_grown}

-- a link of the roots of the ends
abbrev pub roots_of : ℕ → Forest → Labelled → Link
roots_of limit f x = record { one = (walk limit f x.link.one).root; other = (walk limit f x.link.other).root }

-- what one link more makes of a forest
pub data United (k limit : ℕ) (f : Forest) (x : Labelled) : Forest → Type 0 where
  kept : (roots_of limit f x).one ≡ (roots_of limit f x).other → United k limit f x f
  merges : {child top : ℕ} → Between child top (roots_of limit f x) → Merges k f child top →
      United k limit f x (merged f x.label child top)

-- of two roots, the one that goes under the other has a tree that is smaller, or as large
under_le : (size : ℕ → ℕ) (a b : ℕ) → goes_under_of size a b ≡ true → size a ≤ size b
under_le size a b e = go (dec_le (size a) (size b))
  where
    go : Dec (size a ≤ size b) → size a ≤ size b
    go (yes h) = h
    go (no h) =
        absurd (false≢true (rw (le-ltb (size a) (size b) (omega arith), ne_eqb (size a) (size b) (omega arith)) at e))

over_le : (size : ℕ → ℕ) (a b : ℕ) → goes_under_of size a b ≡ false → size b ≤ size a
over_le size a b e = go (dec_le (size b) (size a))
  where
    go : Dec (size b ≤ size a) → size b ≤ size a
    go (yes h) = h
    go (no h) = absurd (true≢false (rw (lt-ltb (size a) (size b) (omega arith)) at e))

pub nothing_linked : {a b : ℕ} → Linked a b [] → ⊥
nothing_linked = elim [ ]

between_chained : {ls : List Link} {a b : ℕ} {l : Link} → Between a b l → Chained ls l.one l.other → Chained ls a b
between_chained (along p q) h = rw (p, q) at h
between_chained (against p q) h = chained_sym (rw (p, q) at h)

-- with the child's cells given to the top, the two roots are one
between_meet : {child top : ℕ} {l : Link} → ¬ (child ≡ top) → Between child top l →
    put child top (λ r. r) l.one ≡ put child top (λ r. r) l.other
between_meet {child} {top} n (along p q) =
    put_here child top (λ r. r) _ p ∙ sym (put_other child top (λ r. r) _ (λ e. n (sym e ∙ q)) ∙ q)
between_meet {child} {top} n (against p q) =
    put_other child top (λ r. r) _ (λ e. n (sym e ∙ p)) ∙ p ∙ sym (put_here child top (λ r. r) _ q)

module _ {k limit : ℕ} (enough : k ≤ limit) where
  walk_way : {f : Forest} → Grown k f → (c : ℕ) → Way f.parent c (walk limit f c)
  unfolding walk
  walk_way g c = climb_way g.doubles limit c enough

  pub united : {f : Forest} → Grown k f → (x : Labelled) → (x.link.one < 2 ^ k) × (x.link.other < 2 ^ k) →
      United k limit f x (unite limit f x)
  unfolding unite
  united {f} g x ends = go (ℕ_discrete a b)
    where
      root : (c : ℕ) → c < 2 ^ k → Root k f (walk limit f c).root
      root c l =
          record {
            stays = way_ends (walk_way g c);
            below = way_keeps (λ x. x < 2 ^ k) g.inside (walk_way g c) l;
          }

      a : ℕ
      a = (roots_of limit f x).one

      b : ℕ
      b = (roots_of limit f x).other

      apart : (t : Bool) → ¬ (a ≡ b) → goes_under_of f.size a b ≡ t →
          United k limit f x (cond t (merged f x.label a b) (merged f x.label b a))
      apart true n e =
          merges (along refl refl)
          (record {
            under = root _ ends.0;
            over = root _ ends.1;
            apart = n;
            lighter = under_le f.size a b e;
          })
      apart false n e =
          merges (against refl refl)
          (record {
            under = root _ ends.1;
            over = root _ ends.0;
            apart = λ s. n (sym s);
            lighter = over_le f.size a b e;
          })

      go : Dec (a ≡ b) → United k limit f x (join_roots f x.label a b)
      go (yes e) = rw (eq-eqb a b e) (kept e)
      go (no n) = rw (ne_eqb a b n) (apart (goes_under_of f.size a b) n refl)

  -- one link more keeps any forest grown, whatever made it
  pub united_grown : {f : Forest} {x : Labelled} {f' : Forest} → Grown k f → United k limit f x f' → Grown k f'
  united_grown g (kept _) = g
  united_grown {x} g (merges _ h) = merged_grown g h x.label

  pub grown : {xs : List Labelled} → EndsBelow (2 ^ k) xs → Grown k (forest_of limit xs)
  unfolding forest_of
  grown empty = fresh_grown k
  grown (also p ends) = united_grown (grown ends) (united (grown ends) _ p)

  -- a cell under the child has the top for its root from then on, and every other keeps its root
  merged_root : {f : Forest} {child top : ℕ} → Grown k f → Merges k f child top → (label c : ℕ) →
      (walk limit (merged f label child top) c).root ≡ put child top (λ r. r) (walk limit f c).root
  unfolding walk
  merged_root {f} g h label c =
      let (w, way, root) = way_put f.parent h.under.stays h.over.stays h.apart (walk_way g c) in
      ap (λ w. w.root) (way_climb way limit (le_trans (way_short (merged_grown g h label).doubles way) enough)) ∙ root

  -- a cell that was chained with its root is chained with its new one
  united_chained : {f : Forest} {x : Labelled} {f' : Forest} {ls : List Link} → Grown k f → United k limit f x f' →
      ((c : ℕ) → Chained ls c (walk limit f c).root) → (c : ℕ) → Chained (x.link ∷ ls) c (walk limit f' c).root
  united_chained g (kept _) on c = chained_there _ (on c)
  united_chained {f} {x} {ls} g (merges {child} {top} b h) on c =
      rw (merged_root g h x.label c)
      (put_cases (Chained (x.link ∷ ls) c) child top (λ r. r) _
      (λ e. chained_trans (rw e at before) (between_chained b roots)) (λ _. before))
    where
      before : Chained (x.link ∷ ls) c (walk limit f c).root
      before = chained_there _ (on c)

      roots : Chained (x.link ∷ ls) (roots_of limit f x).one (roots_of limit f x).other
      roots =
          chained_trans (chained_sym (chained_there _ (on _)))
          (chained_trans (chained_one (here (along refl refl))) (chained_there _ (on _)))

  -- two cells that had one root still have, and the link's ends have one now
  united_same : {f : Forest} {x : Labelled} {f' : Forest} → Grown k f → United k limit f x f' → (a b : ℕ) →
      (walk limit f a).root ≡ (walk limit f b).root → (walk limit f' a).root ≡ (walk limit f' b).root
  united_same g (kept _) a b e = e
  united_same {x} g (merges {child} {top} _ h) a b e =
      merged_root g h x.label a ∙ ap (put child top (λ r. r)) e ∙ sym (merged_root g h x.label b)

  united_ends : {f : Forest} {x : Labelled} {f' : Forest} → Grown k f → United k limit f x f' →
      (roots_of limit f' x).one ≡ (roots_of limit f' x).other
  united_ends g (kept e) = e
  united_ends {x} g (merges b h) =
      merged_root g h x.label _ ∙ between_meet h.apart b ∙ sym (merged_root g h x.label _)

  united_linked : {f f' : Forest} {x : Labelled} {ls : List Link} → Grown k f → United k limit f x f' →
      ((a b : ℕ) → Linked a b ls → (walk limit f a).root ≡ (walk limit f b).root) →
      (a b : ℕ) → Linked a b (x.link ∷ ls) → (walk limit f' a).root ≡ (walk limit f' b).root
  united_linked g u on a b (here (along p q)) = rw (← p, ← q) (united_ends g u)
  united_linked g u on a b (here (against p q)) = rw (← p, ← q) (sym (united_ends g u))
  united_linked g u on a b (there l) = united_same g u a b (on a b l)

  root_chained : {xs : List Labelled} → EndsBelow (2 ^ k) xs →
      (c : ℕ) → Chained (map (λ x. x.link) xs) c (walk limit (forest_of limit xs) c).root
  unfolding forest_of walk
  root_chained empty c = same (sym (ap (λ w. w.root) (way_climb (arrived refl) limit zero-le)))
  root_chained (also p ends) c = united_chained (grown ends) (united (grown ends) _ p) (root_chained ends) c

  linked_root : {xs : List Labelled} → EndsBelow (2 ^ k) xs → (a b : ℕ) → Linked a b (map (λ x. x.link) xs) →
      (walk limit (forest_of limit xs) a).root ≡ (walk limit (forest_of limit xs) b).root
  unfolding forest_of
  linked_root empty a b l = absurd (nothing_linked l)
  linked_root (also p ends) a b l = united_linked (grown ends) (united (grown ends) _ p) (linked_root ends) a b l

  module _ {xs : List Labelled} (ends : EndsBelow (2 ^ k) xs) where
    -- two cells have one root exactly when links chain them
    pub same_root : (a b : ℕ) →
        ((walk limit (forest_of limit xs) a).root ≡ (walk limit (forest_of limit xs) b).root) ↔ Chained (map (λ x. x.link) xs) a b
    same_root a b = (
      λ e. chained_trans (rw e at (root_chained ends a)) (chained_sym (root_chained ends b)),
      chained_agree (λ c. (walk limit (forest_of limit xs) c).root) (linked_root ends),
    )

    -- a walk ends at a root
    pub walk_ends : (c : ℕ) →
        (forest_of limit xs).parent (walk limit (forest_of limit xs) c).root ≡ (walk limit (forest_of limit xs) c).root
    walk_ends c = way_ends (walk_way (grown ends) c)

    -- it takes at most k steps
    pub walk_short : (c : ℕ) → (walk limit (forest_of limit xs) c).steps ≤ k
    walk_short c = way_short (grown ends).doubles (walk_way (grown ends) c)

    -- the tree is as large as its steps ask
    pub walk_size : (c : ℕ) →
        2 ^ (walk limit (forest_of limit xs) c).steps ≤ (forest_of limit xs).size (walk limit (forest_of limit xs) c).root
    walk_size c = way_size (grown ends).doubles (walk_way (grown ends) c)

    -- it makes no difference how many steps a walk may take, if k are among them
    pub walk_agree : (m n c : ℕ) → k ≤ m → k ≤ n → walk m (forest_of limit xs) c ≡ walk n (forest_of limit xs) c
    unfolding walk
    walk_agree m n c km kn = found m km ∙ sym (found n kn)
      where
        found : (m : ℕ) → k ≤ m → walk m (forest_of limit xs) c ≡ walk limit (forest_of limit xs) c
        found m km = way_climb (walk_way (grown ends) c) m (le_trans (walk_short c) km)

    -- each step doubles the size
    pub doubling : (c : ℕ) → ¬ ((forest_of limit xs).parent c ≡ c) →
        2 * (forest_of limit xs).size c ≤ (forest_of limit xs).size ((forest_of limit xs).parent c)
    doubling = (grown ends).doubles.doubling

    -- the size of every cell, a root or not, is from 1 to 2 ^ k
    pub size_positive : (c : ℕ) → 1 ≤ (forest_of limit xs).size c
    size_positive = (grown ends).doubles.positive

    pub size_bounded : (c : ℕ) → (forest_of limit xs).size c ≤ 2 ^ k
    size_bounded = (grown ends).doubles.bounded

    pub parent_below : (c : ℕ) → c < 2 ^ k → (forest_of limit xs).parent c < 2 ^ k
    parent_below = (grown ends).inside

-- a link whose ends have one root changes nothing, so one of a cell with itself does not
pub unite_one_root : (limit : ℕ) (f : Forest) (x : Labelled) →
    (roots_of limit f x).one ≡ (roots_of limit f x).other → unite limit f x ≡ f
unfolding unite
unite_one_root limit f x e = rw (eq-eqb _ _ e)

pub unite_self : (limit : ℕ) (f : Forest) (x : Labelled) → x.link.one ≡ x.link.other → unite limit f x ≡ f
unite_self limit f x e = unite_one_root limit f x (ap (λ c. (walk limit f c).root) e)

-- it makes no difference to the forest how many steps walks may take, if k are among them
unite_agree : (m n : ℕ) (f : Forest) (x : Labelled) → ((c : ℕ) → walk m f c ≡ walk n f c) → unite m f x ≡ unite n f x
unfolding unite
unite_agree m n f x e = rw (e x.link.one, e x.link.other)

pub forest_agree : {k m n : ℕ} {xs : List Labelled} → k ≤ m → k ≤ n → EndsBelow (2 ^ k) xs → forest_of m xs ≡ forest_of n xs
unfolding forest_of
forest_agree km kn empty = refl
forest_agree {m} {n} km kn (also {x} {xs} p ends) =
    unite_agree m n (forest_of m xs) x (λ c. walk_agree km ends m n c km kn) ∙ ap (λ f. unite n f x) (forest_agree km kn ends)
