-- One link more in a forest with scratch parents beside it.
--
-- The forest's roots tell what is chained (graph, same-root), and so does the key of the scratch parents. So the top of a scratch root is the
-- forest's root of each cell under it, before the link and after it.
use Prim.Native.Nat.{ℕ, ◌<◌, min, max}
use mathlib.Core.Path.{◌≡◌, refl, sym, ap, ◌∙◌}
use mathlib.Core.Bool.{Bool, true, false}
use Rattle.std.specs.Prelude.{Option, Some}
use mathlib.Core.List.{List, [], ◌∷◌}
use mathlib.Core.Logic.{◌⊎◌, inl, inr, ⊎_elim}
use native.Mathlib.Omega.{arith}
use native.Mathlib.Decide.{ℕ_discrete}
use native.Mathlib.Nat.{le_refl, zero-add}
use borrow.Author.Tests.{eq-eqb, ne_eqb}
use lib.ListN.{length, get_or, set, length-set}
use lib.Seq.{get_or-set_same, get_or-set_other}
use Rattle.graph.specs.Link.{Link, Between, along, against, here, Chained, group}
use Rattle.graph.specs.Forest.{Labelled, walk, forest_of, goes_under_of, EndsBelow, empty, also}
use Rattle.graph.proofs.Chains.{chained_group, group_chained, chained_there, chained_trans, chained_sym, chained_one}
use Rattle.graph.proofs.Forests.{same_root, walk_ends}
use Rattle.forest.specs.Arrays.{places, parent_in, size_in, fresh_parents_of}
use Rattle.forest.proofs.Climb.{climb_stays}
use Rattle.forest.proofs.Fill.{length_count_from, get_d_count_from}
use Rattle.forest_unite.specs.United.{under, merge_of_roots_of, merged_parents}
use Rattle.forest_unite.specs.declared.Merge.{Merge}
use Rattle.book_state.specs.Arrays.{cells, step_limit, Arrays, fresh_arrays, merged_arrays, united, united_all}
use Rattle.book_state.specs.Log.{labelled}
use Rattle.book_state.proofs.Built.{Holds, holds_all}
use Rattle.forest_scratch.specs.declared.Roots.{Roots}
use Rattle.forest_scratch.specs.Scratch.{Descends, both_of, roots_of, join_of, Root, Stands, RootOf}
use Rattle.forest_scratch.proofs.Standing.{stands_fresh, sides}
use Rattle.forest_scratch.proofs.Joined as scratch
use Rattle.forest_beside.specs.declared.Scratch.{Scratch}
use Rattle.forest_beside.specs.Beside.{root_in, links_of, Beside, topped, tops_of}

-- ---- what the forest's roots say

module _ {xs : List Labelled} {a : Arrays} (ends : EndsBelow cells xs) (built : a ≡ united_all fresh_arrays xs) where
  pub holds : Holds xs a
  holds = rw built (holds_all ends)

  walk_root : (c : ℕ) → root_in a c ≡ (walk step_limit (forest_of step_limit xs) c).root
  unfolding walk
  walk_root c = ap (λ f. (walk step_limit f c).root) holds.holds

  -- one root exactly where links chain the two
  pub one_root : (c d : ℕ) → Chained (links_of xs) c d → root_in a c ≡ root_in a d
  one_root c d x = walk_root c ∙ (same_root (le_refl 10) ends c d).1 x ∙ sym (walk_root d)

  pub root_one : (c d : ℕ) → root_in a c ≡ root_in a d → Chained (links_of xs) c d
  root_one c d e = (same_root (le_refl 10) ends c d).0 (sym (walk_root c) ∙ e ∙ walk_root d)

  -- a root stays
  pub root_stays : (c : ℕ) → parent_in a.parents (root_in a c) ≡ root_in a c
  root_stays c =
      ap (λ f. f.parent (root_in a c)) holds.holds ∙ ap (forest_of step_limit xs).parent (walk_root c) ∙ walk_ends (le_refl 10) ends c ∙ sym (walk_root c)

  pub root_of_root : (c : ℕ) → root_in a (root_in a c) ≡ root_in a c
  root_of_root c = ap (λ w. w.root) (climb_stays (parent_in a.parents) step_limit _ (root_stays c))

  pub chained_root : (c : ℕ) → Chained (links_of xs) c (root_in a c)
  chained_root c = root_one c (root_in a c) (sym (root_of_root c))

-- ---- who merges under whom

-- two different roots are merged: the top is a root still, and so is every root that is neither of the two
record Merges (ps ss : List ℕ) (r s : ℕ) : Type 0 where
  pub merge : Merge
  pub is : merge_of_roots_of ss r s ≡ Some merge
  pub which : merge.top ≡ r ⊎ merge.top ≡ s
  pub top_stays : parent_in (merged_parents ps (Some merge)) merge.top ≡ merge.top
  pub others : (c : ℕ) → (c ≡ r → ⊥) → (c ≡ s → ⊥) → parent_in ps c ≡ c → parent_in (merged_parents ps (Some merge)) c ≡ c

merges : (ps ss : List ℕ) (r s : ℕ) → (r ≡ s → ⊥) → parent_in ps r ≡ r → parent_in ps s ≡ s → Merges ps ss r s
merges ps ss r s n p q = go (goes_under_of (size_in ss) r s) refl
  where
    go : (t : Bool) → goes_under_of (size_in ss) r s ≡ t → Merges ps ss r s
    go true e =
        record {
          merge = under ss r s;
          is = simp (ne_eqb r s n, e);
          which = inr refl;
          top_stays = get_or-set_other ps r s s s (λ e. n (sym e)) ∙ q;
          others = λ c x y z. get_or-set_other ps r c s c x ∙ z;
        }
    go false e =
        record {
          merge = under ss s r;
          is = simp (ne_eqb r s n, e);
          which = inl refl;
          top_stays = get_or-set_other ps s r r r n ∙ p;
          others = λ c x y z. get_or-set_other ps s c r c y ∙ z;
        }

-- ---- one link more

-- fresh arrays, and copies of their parents
pub beside_fresh : {a : Arrays} → a ≡ fresh_arrays → Beside a (record { parents = a.parents; tops = a.parents })
unfolding united_all group
beside_fresh {a} e =
    record {
      done = [];
      ends = empty;
      built = e;
      stands = rw e stands_fresh;
      long = rw e (length_count_from 0 places);
      tops =
          rw e
          (λ c h r.
          get_d_count_from 0 places c 0 h ∙ zero-add c ∙ sym (ap (λ w. w.root) (climb_stays (parent_in (fresh_parents_of places)) step_limit c r)));
    }

module _ {a : Arrays} {w : Scratch} (s : Beside a w) {one other : ℕ} (cell : (one < cells) × (other < cells)) (label : ℕ) where
  abbrev qs : List ℕ
  qs = w.parents

  abbrev ts : List ℕ
  ts = w.tops

  abbrev link : Link
  link = record { one = one; other = other }

  abbrev x : Labelled
  x = labelled label link

  abbrev key : ℕ → ℕ
  key = group (links_of s.done)

  down : Descends qs
  down = s.stands.falls

  -- the scratch roots of the two ends, and the parents when they are found
  abbrev u : ℕ
  u = (roots_of qs one other).one

  abbrev v : ℕ
  v = (roots_of qs one other).other

  abbrev ps : List ℕ
  ps = (both_of qs one other).parents

  at_both : Stands key ps
  at_both = scratch.at_both down cell s.stands

  left_root : RootOf key ps one u
  left_root = scratch.left_root down cell s.stands

  right_root : RootOf key ps other v
  right_root = scratch.right_root down cell s.stands

  pub u_inside : u < places
  u_inside = scratch.left_inside down cell

  pub v_inside : v < places
  v_inside = scratch.right_inside down cell

  tops_both : (c : ℕ) → c < cells → Root ps c → get_or ts c 0 ≡ root_in a c
  tops_both c h r = s.tops c h (scratch.was_root down cell c r)

  -- one key, one root of the forest
  keyed : (c d : ℕ) → key c ≡ key d → root_in a c ≡ root_in a d
  keyed c d e = one_root s.ends s.built c d (group_chained (links_of s.done) e)

  unkeyed : (c d : ℕ) → root_in a c ≡ root_in a d → key c ≡ key d
  unkeyed c d e = chained_group (root_one s.ends s.built c d e)

  -- so the tops are the forest's roots of the two ends
  top_one : get_or ts u 0 ≡ root_in a one
  top_one = tops_both u u_inside left_root.root ∙ keyed u one left_root.one_key

  top_other : get_or ts v 0 ≡ root_in a other
  top_other = tops_both v v_inside right_root.root ∙ keyed v other right_root.one_key

  built_more : united a x ≡ united_all fresh_arrays (x ∷ s.done)
  unfolding united_all
  built_more = ap (λ b. united b x) s.built

  ends_more : EndsBelow cells (x ∷ s.done)
  ends_more = also cell s.ends

  -- the key of the links with this one is that of the joined trees
  stands_more : Stands (group (links_of (x ∷ s.done))) (join_of qs one other)
  unfolding group
  stands_more = scratch.stands_joined down cell s.stands

  -- the two have one root: nothing changes
  stays : u ≡ v → a ≡ united a x
  unfolding united
  stays e = rw (eq-eqb (root_in a one) (root_in a other) (keyed one other (scratch.keys_one down cell s.stands e)))

  -- they have different roots, and one goes under the other
  module _ (differ : u ≡ v → ⊥) where
    apart : root_in a one ≡ root_in a other → ⊥
    apart e = differ (scratch.roots_one down cell s.stands (unkeyed one other e))

    abbrev made : Merges a.parents a.sizes (root_in a one) (root_in a other)
    made =
        merges a.parents a.sizes (root_in a one) (root_in a other) apart (root_stays s.ends s.built one)
        (root_stays s.ends s.built other)

    abbrev h : Merge
    h = made.merge

    parents_more : (united a x).parents ≡ merged_parents a.parents (Some h)
    unfolding united
    parents_more = ap (merged_parents a.parents) made.is

    -- a root of the forest after the link is where the walks of its cells end
    ends_at : (c r : ℕ) → parent_in (united a x).parents r ≡ r → Chained (links_of (x ∷ s.done)) c r → r ≡ root_in (united a x) c
    ends_at c r stays on =
        sym (ap (λ w. w.root) (climb_stays (parent_in (united a x).parents) step_limit r stays)) ∙ sym (one_root ends_more built_more c r on)

    -- the top is chained with both
    top_chained : Chained (links_of (x ∷ s.done)) one h.top
    top_chained = ⊎_elim (λ e. rw e (at one)) (λ e. rw e (chained_trans (chained_one (here (along refl refl))) (at other))) made.which
      where
        at : (c : ℕ) → Chained (links_of (x ∷ s.done)) c (root_in a c)
        at c = chained_there link (chained_root s.ends s.built c)

    old : {c d : ℕ} → key c ≡ key d → Chained (links_of (x ∷ s.done)) c d
    old e = chained_there link (group_chained (links_of s.done) e)

    min_chained : Chained (links_of (x ∷ s.done)) (min u v) one
    min_chained = by (sides u v)
      where
        by : Between (max u v) (min u v) (record { one = u; other = v }) → Chained (links_of (x ∷ s.done)) (min u v) one
        by (along p q) = rw (← q) (chained_trans (old right_root.one_key) (chained_sym (chained_one (here (along refl refl)))))
        by (against p q) = rw (← p) (old left_root.one_key)

    tops_more : (c : ℕ) → c < cells → Root (set ps (max u v) (min u v)) c → get_or (set ts (min u v) h.top) c 0 ≡ root_in (united a x) c
    tops_more c below r = go (ℕ_discrete c (min u v)) (ℕ_discrete c (max u v))
      where
        go : Dec (c ≡ min u v) → Dec (c ≡ max u v) → get_or (set ts (min u v) h.top) c 0 ≡ root_in (united a x) c
        go (yes e) d =
            rw (e, get_or-set_same ts (min u v) h.top 0 (rw s.long (omega (arith, u_inside, v_inside))))
            (ends_at (min u v) h.top (rw parents_more made.top_stays) (chained_trans min_chained top_chained))
        go (no n) (yes e) =
            absurd (n (e ∙ sym (rw e at r) ∙ get_or-set_same ps (max u v) (min u v) (max u v) (rw at_both.falls.long (omega (arith, u_inside, v_inside)))))
        go (no n) (no m) =
            let root : Root ps c = rw (get_or-set_other ps (max u v) c (min u v) c m) at r in
            let not_u : (c ≡ u → ⊥) = λ e. by (sides u v) (inl e) in
            let not_v : (c ≡ v → ⊥) = λ e. by (sides u v) (inr e) in
            get_or-set_other ts (min u v) c h.top 0 n ∙ tops_both c below root
            ∙ ends_at c (root_in a c)
            (rw parents_more (made.others (root_in a c) (λ e. not_u (at_both.apart c u root left_root.root (unkeyed c one e ∙ sym left_root.one_key)))
            (λ e. not_v (at_both.apart c v root right_root.root (unkeyed c other e ∙ sym right_root.one_key))) (root_stays s.ends s.built c)))
            (chained_there link (chained_root s.ends s.built c))
          where
            by : Between (max u v) (min u v) (record { one = u; other = v }) → c ≡ u ⊎ c ≡ v → ⊥
            by (along p q) (inl e) = m (e ∙ p)
            by (along p q) (inr e) = n (e ∙ q)
            by (against p q) (inl e) = n (e ∙ p)
            by (against p q) (inr e) = m (e ∙ q)

  pub beside_united : {a' : Arrays} {w' : Scratch} → a' ≡ united a x → w'.parents ≡ join_of qs one other → w'.tops ≡ tops_of a w one other
      → Beside a' w'
  beside_united e p t =
      record {
        done = x ∷ s.done;
        ends = ends_more;
        built = rw e built_more;
        stands = rw p stands_more;
        long = rw t go.0;
        tops = rw (e, p, t) go.1;
      }
    where
      go : (length (tops_of a w one other) ≡ cells)
          × ((c : ℕ) → c < cells → Root (join_of qs one other) c → get_or (tops_of a w one other) c 0 ≡ root_in (united a x) c)
      go = by (ℕ_discrete u v)
        where
          by : Dec (u ≡ v) → (length (tops_of a w one other) ≡ cells)
              × ((c : ℕ) → c < cells → Root (join_of qs one other) c → get_or (tops_of a w one other) c 0 ≡ root_in (united a x) c)
          by (yes e) = rw (eq-eqb u v e) (s.long, λ c below r. tops_both c below r ∙ ap (λ b. root_in b c) (stays e))
          by (no n) = rw (ne_eqb u v n, (made n).is) (length-set ts (min u v) (h n).top ∙ s.long, tops_more n)

  -- ---- as the code leaves it

  module _ {r : Roots} (is : r ≡ roots_of qs one other) where
    pub roots_inside : (r.one < places) × (r.other < places)
    roots_inside = rw is (u_inside, v_inside)

    pub same_made : r.one ≡ r.other → (a ≡ united a x) × (ts ≡ tops_of a w one other)
    same_made e = let same : u ≡ v = rw is at e in (stays same, rw (eq-eqb u v same))

    pub apart_made : (r.one ≡ r.other → ⊥) → {merge : Option Merge} → merge ≡ merge_of_roots_of a.sizes (get_or ts r.one 0) (get_or ts r.other 0)
        → (merged_arrays a label merge ≡ united a x) × (topped ts (min r.one r.other) merge ≡ tops_of a w one other)
    unfolding united
    apart_made n m =
        let differ : (u ≡ v → ⊥) = rw is at n in
        rw (m, is, top_one, top_other, ne_eqb u v differ) (refl, refl)
