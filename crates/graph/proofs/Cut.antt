-- A walk at a cut (the paper's Lemma 5.6): where labels never rise from link to link, the forest of all links, with the
-- steps below the cut taken away, is the forest of the links that are not below the cut.
--
-- Links below the cut come last. Each puts a root under another, if anything, and the cut takes that step away again. Of the links
-- before them none is below the cut, and so no step is, since a step has the label of a link.
use Prim.Native.Nat.{ℕ, ◌^◌, ◌≤◌, ◌<◌, zero-le}
use mathlib.Core.Path.{◌≡◌, refl, sym, ◌∙◌, ap, fun_ext}
use mathlib.Core.Bool.{Bool, true, false, cond}
use mathlib.Core.List.{List, ◌∷◌, map}
use mathlib.Core.Logic.{◌↔◌}
use native.Mathlib.Decide.{ℕ_discrete, dec_le}
use native.Mathlib.Nat.{le_trans, lt_of_not-le}
use lib.Dec.{ltb}
use borrow.Author.Tests.{eq-eqb, ne_eqb, lt-ltb, le-ltb}
use Rattle.graph.specs.Link.{Chained}
use Rattle.graph.specs.Forest.{Forest, fresh, climb, walk, parent_at, walk_at_of, merged, Labelled, forest_of, at_least}
use Rattle.graph.specs.Forest.{Each, empty, also, EndsBelow, NeverRise, start, lowest}
use Rattle.graph.proofs.Walks.{put_here, put_other}
use Rattle.graph.proofs.Sizes.{Merges}
use Rattle.graph.proofs.Forests.{United, kept, merges, united, grown, same_root, walk_ends, walk_short}

pub each_map : {P Q : Labelled → Type 0} {xs : List Labelled} → ((x : Labelled) → P x → Q x) → Each P xs → Each Q xs
each_map f empty = empty
each_map f (also p ps) = also (f _ p) (each_map f ps)

pub each_at_least : (cut : ℕ) {P : Labelled → Type 0} {xs : List Labelled} → Each P xs → Each P (at_least cut xs)
unfolding at_least
each_at_least cut empty = empty
each_at_least cut {P} (also {x} {xs} p ps) = go (ltb x.label cut) (each_at_least cut ps)
  where
    go : (t : Bool) → Each P (at_least cut xs) → Each P (cond t (at_least cut xs) (x ∷ at_least cut xs))
    go true on = on
    go false on = also p on

pub all_at_least : (cut : ℕ) {xs : List Labelled} → Each (λ x. cut ≤ x.label) xs → at_least cut xs ≡ xs
unfolding at_least
all_at_least cut empty = refl
all_at_least cut (also {x} p ps) = rw (le-ltb x.label cut p, all_at_least cut ps)

-- c is a root, with label 0, or P holds of the label of its step
pub data Step (P : ℕ → Type 0) (f : Forest) (c : ℕ) : Type 0 where
  stays : f.parent c ≡ c → f.label c ≡ 0 → Step P f c
  goes : ¬ (f.parent c ≡ c) → P (f.label c) → Step P f c

merged_step : {P : ℕ → Type 0} {k : ℕ} {f : Forest} {child top : ℕ} (label : ℕ) → Merges k f child top → P label →
    (c : ℕ) → Step P f c → Step P (merged f label child top) c
merged_step {P} {f} {child} {top} label h p c s = go (ℕ_discrete c child) s
  where
    go : Dec (c ≡ child) → Step P f c → Step P (merged f label child top) c
    go (yes e) _ =
        goes (λ q. h.apart (sym e ∙ sym q ∙ put_here child top f.parent c e))
        (rw (put_here child label f.label c e) p)
    go (no n) (stays r z) = stays (put_other child top f.parent c n ∙ r) (put_other child label f.label c n ∙ z)
    go (no n) (goes r q) =
        goes (rw (put_other child top f.parent c n) r) (rw (put_other child label f.label c n) q)

united_step : {P : ℕ → Type 0} {k limit : ℕ} {f : Forest} {x : Labelled} {f' : Forest} → United k limit f x f' → P x.label →
    ((c : ℕ) → Step P f c) → (c : ℕ) → Step P f' c
united_step (kept _) p on c = on c
united_step {x} (merges _ h) p on c = merged_step x.label h p c (on c)

pub cond_same : (t : Bool) (c : ℕ) → cond t c c ≡ c
cond_same true c = refl
cond_same false c = refl

-- a root stays one at a cut
root_at_lem : (f : Forest) (cut c : ℕ) → f.parent c ≡ c → parent_at f cut c ≡ c
root_at_lem f cut c e = simp (e, cond_same)

-- a cut below all labels takes nothing away, and one above a link's label takes away what the link made
uncut : (f : Forest) (cut c : ℕ) → Step (λ l. cut ≤ l) f c → parent_at f cut c ≡ f.parent c
uncut f cut c (stays e _) = root_at_lem f cut c e ∙ sym e
uncut f cut c (goes _ p) = rw (le-ltb (f.label c) cut p)

united_cut : {k limit : ℕ} {f : Forest} {x : Labelled} {f' : Forest} → United k limit f x f' → (cut : ℕ) → x.label < cut →
    (c : ℕ) → parent_at f' cut c ≡ parent_at f cut c
united_cut (kept _) cut l c = refl
united_cut {f} {x} (merges {child} {top} _ h) cut l c = go (ℕ_discrete c child)
  where
    go : Dec (c ≡ child) → parent_at (merged f x.label child top) cut c ≡ parent_at f cut c
    go (yes e) = simp (eq-eqb c child e, lt-ltb x.label cut l) (sym (root_at_lem f cut c (rw e h.under.stays)))
    go (no n) = simp (ne_eqb c child n)

module _ {k limit : ℕ} (enough : k ≤ limit) where
  pub forest_step : (P : ℕ → Type 0) {xs : List Labelled} → EndsBelow (2 ^ k) xs → Each (λ x. P x.label) xs →
      (c : ℕ) → Step P (forest_of limit xs) c
  unfolding forest_of
  forest_step P empty empty c = stays refl refl
  forest_step P (also b ends) (also p ps) c =
      united_step (united enough (grown enough ends) _ b) p (forest_step P ends ps) c

  cut_parent : (cut : ℕ) {xs : List Labelled} → EndsBelow (2 ^ k) xs → NeverRise xs →
      (c : ℕ) → parent_at (forest_of limit xs) cut c ≡ (forest_of limit (at_least cut xs)).parent c
  unfolding forest_of at_least
  cut_parent cut empty start c = root_at_lem fresh cut c refl
  cut_parent cut (also {x} {xs} b ends) (lowest low falls) c = go (dec_le cut x.label) (cut_parent cut ends falls c)
    where
      go : Dec (cut ≤ x.label) → parent_at (forest_of limit xs) cut c ≡ (forest_of limit (at_least cut xs)).parent c →
          parent_at (forest_of limit (x ∷ xs)) cut c ≡ (forest_of limit (at_least cut (x ∷ xs))).parent c
      go (yes l) _ =
          let above : Each (λ y. cut ≤ y.label) (x ∷ xs) = also l (each_map (λ y. le_trans l) low) in
          rw (all_at_least cut above) (uncut (forest_of limit (x ∷ xs)) cut c (forest_step _ (also b ends) above c))
      go (no n) on =
          let l : x.label < cut = lt_of_not-le n in
          rw (lt-ltb x.label cut l) (united_cut (united enough (grown enough ends) x b) cut l c ∙ on)

  module _ {xs : List Labelled} (ends : EndsBelow (2 ^ k) xs) where
    -- the label of a step is that of a link: P holds of it, if of all those
    pub label_of_step : (P : ℕ → Type 0) → Each (λ x. P x.label) xs →
        (c : ℕ) → ¬ ((forest_of limit xs).parent c ≡ c) → P ((forest_of limit xs).label c)
    label_of_step P ps c n = go (forest_step P ends ps c)
      where
        go : Step P (forest_of limit xs) c → P ((forest_of limit xs).label c)
        go (stays e _) = absurd (n e)
        go (goes _ p) = p

    pub label_bounded : (m : ℕ) → Each (λ x. x.label ≤ m) xs → (c : ℕ) → (forest_of limit xs).label c ≤ m
    label_bounded m ps c = go (forest_step (λ l. l ≤ m) ends ps c)
      where
        go : Step (λ l. l ≤ m) (forest_of limit xs) c → (forest_of limit xs).label c ≤ m
        go (stays _ z) = rw z zero-le
        go (goes _ p) = p

    module _ (falls : NeverRise xs) (cut : ℕ) where
      pub cut_is_forest : parent_at (forest_of limit xs) cut ≡ (forest_of limit (at_least cut xs)).parent
      cut_is_forest = fun_ext (cut_parent cut ends falls)

      pub walk_at_is_walk : (c : ℕ) → walk_at_of limit (forest_of limit xs) cut c ≡ walk limit (forest_of limit (at_least cut xs)) c
      unfolding walk walk_at_of
      walk_at_is_walk c = ap (λ up. climb up limit c) cut_is_forest

      pub same_root_at : (a b : ℕ) →
          ((walk_at_of limit (forest_of limit xs) cut a).root ≡ (walk_at_of limit (forest_of limit xs) cut b).root) ↔
          Chained (map (λ x. x.link) (at_least cut xs)) a b
      same_root_at a b = rw (walk_at_is_walk a, walk_at_is_walk b) (same_root enough (each_at_least cut ends) a b)

      pub walk_at_short : (c : ℕ) → (walk_at_of limit (forest_of limit xs) cut c).steps ≤ k
      walk_at_short c = rw (walk_at_is_walk c) (walk_short enough (each_at_least cut ends) c)

      pub walk_at_ends : (c : ℕ) →
          parent_at (forest_of limit xs) cut (walk_at_of limit (forest_of limit xs) cut c).root ≡
          (walk_at_of limit (forest_of limit xs) cut c).root
      walk_at_ends c = rw (walk_at_is_walk c) (cut_parent cut ends falls _ ∙ walk_ends enough (each_at_least cut ends) c)
