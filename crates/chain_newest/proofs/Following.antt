-- Two cells followed while links are joined: one link more, no link, and some links after others.
--
-- A link that is joined stands at the front of `group`'s list, and at the end of ours; what parents stand for depends on what the links
-- chain, and not on their order (`tracks_relinked`).
use Prim.Native.Nat.{ℕ, zero, suc, ◌+◌, ◌≤◌, ◌<◌, min, max}
use mathlib.Core.Path.{◌≡◌, refl, sym, ap, ◌∙◌}
use mathlib.Core.Bool.{true, false}
use mathlib.Core.List.{List, [], ◌∷◌, ◌++◌, append-nil, append_assoc}
use mathlib.Core.Logic.{⊎_elim}
use native.Mathlib.Omega.{arith}
use Rattle.std.proofs.lemmas.List.{take_all}
use lib.ListN.{length, get_or, take}
use Rattle.graph.specs.Link.{Link, Linked, here, there, Chained, group}
use Rattle.graph.specs.Forest.{put}
use Rattle.graph.proofs.Chains.{chained_group, group_chained, chained_relink, chained_left, linked_left, linked_right, linked_append_cases}
use Rattle.forest.specs.Arrays.{places, fresh_parents_of}
use Rattle.book_state.specs.Arrays.{cells}
use Rattle.book_state.specs.Log.{keep, pair_at, links_at}
use Rattle.book_state.specs.Numbers.{are_cells_of}
use Rattle.book_state.proofs.Checks.{two_cells}
use Rattle.book_state.proofs.LogLinks.{keep_append}
use Rattle.forest_scratch.specs.declared.Roots.{Roots}
use Rattle.forest_scratch.specs.Scratch.{Descends, roots_of, join_of, RootOf}
use Rattle.forest_scratch.proofs.Standing.{stands_fresh}
use Rattle.forest_scratch.proofs.Joined.{joined_descends, follow, stays, stands_joined, root_joined}
use Rattle.window.specs.Pairs.{pair_link, links_of_pairs}
use Rattle.window.proofs.Pairs.{pairs_more, pairs_rest}
use Rattle.chain_newest.specs.Tracks.{Tracks, Follows}

-- ---- the two cells

tracks_met : {links : List Link} {one other : ℕ} {ps : List ℕ} {r : Roots} → Tracks links one other ps r → r.one ≡ r.other → Chained links one other
tracks_met {links} t e = group_chained links (sym t.one_root.one_key ∙ ap (group links) e ∙ t.other_root.one_key)

pub tracks_apart : {links : List Link} {one other : ℕ} {ps : List ℕ} {r : Roots} → Tracks links one other ps r
    → (r.one ≡ r.other → ⊥) → Chained links one other → ⊥
tracks_apart {links} t n c =
    n (t.stands.apart _ _ t.one_root.root t.other_root.root (t.one_root.one_key ∙ chained_group c ∙ sym t.other_root.one_key))

pub tracks_fresh : (one other : ℕ) → Tracks [] one other (fresh_parents_of places) (record { one = one; other = other })
unfolding group
tracks_fresh one other =
    record {
      stands = stands_fresh;
      one_root = record { root = stands_fresh.kept one; one_key = refl };
      other_root = record { root = stands_fresh.kept other; one_key = refl };
    }

-- links that chain the same
module _ {ls ms : List Link} (on : (x y : ℕ) → Linked x y ls → Linked x y ms) (back : (x y : ℕ) → Linked x y ms → Linked x y ls) where
  key_on : (a b : ℕ) → group ls a ≡ group ls b → group ms a ≡ group ms b
  key_on a b e = chained_group (chained_relink on (group_chained ls e))

  key_back : (a b : ℕ) → group ms a ≡ group ms b → group ls a ≡ group ls b
  key_back a b e = chained_group (chained_relink back (group_chained ms e))

  root_relinked : {ps : List ℕ} {c r : ℕ} → RootOf (group ls) ps c r → RootOf (group ms) ps c r
  root_relinked x = record { root = x.root; one_key = key_on _ _ x.one_key }

  tracks_relinked : {one other : ℕ} {ps : List ℕ} {r : Roots} → Tracks ls one other ps r → Tracks ms one other ps r
  tracks_relinked t =
      record {
        stands = record { falls = t.stands.falls; kept = λ c. key_on _ _ (t.stands.kept c); apart = λ a b p q e. t.stands.apart a b p q (key_back a b e) };
        one_root = root_relinked t.one_root;
        other_root = root_relinked t.other_root;
      }

-- a link in front, or at the end
to_end : (l : Link) (ls : List Link) (x y : ℕ) → Linked x y (l ∷ ls) → Linked x y (ls ++ (l ∷ []))
to_end l ls x y (here e) = linked_right ls (here e)
to_end l ls x y (there h) = linked_left (l ∷ []) h

to_front : (l : Link) (ls : List Link) (x y : ℕ) → Linked x y (ls ++ (l ∷ [])) → Linked x y (l ∷ ls)
to_front l ls x y h = ⊎_elim there last (linked_append_cases ls h)
  where
    last : Linked x y (l ∷ []) → Linked x y (l ∷ ls)
    last (here e) = here e
    last (there k) = elim k [ ]

-- ---- links joined

-- the two are followed through all of them
follows_all : {more : List Link} {ps ps' : List ℕ} {from to : Roots} → Descends ps'
    → ((links : List Link) (one other : ℕ) → Tracks links one other ps from → Tracks (links ++ more) one other ps' to) → Follows more ps from ps' to
follows_all falls on =
    record { falls = falls; met = λ links one other t. tracks_met (on links one other t); apart = λ links one other t n. on links one other t }

pub follows_none : {ps : List ℕ} {from : Roots} → Descends ps → Follows [] ps from ps from
follows_none falls = follows_all falls (λ links one other t. rw (append-nil links) t)

-- a pair with an entry that is no cell is no link
pub follows_no_link : {ps : List ℕ} {from : Roots} (l : Link) → Descends ps → are_cells_of l.one l.other ≡ false → Follows (keep l []) ps from ps from
follows_no_link l down e = rw e (follows_none down)

-- and one of cells is one
module _ {ps : List ℕ} (l : Link) (down : Descends ps) (are : are_cells_of l.one l.other ≡ true) where
  inside : (l.one < cells) × (l.other < cells)
  inside = two_cells are

  abbrev after : Roots → Roots
  after r = record { one = follow down inside r.one; other = follow down inside r.other }

  tracks_more : {links : List Link} {one other : ℕ} {from : Roots} → Tracks links one other ps from
      → Tracks (l ∷ links) one other (join_of ps l.one l.other) (after from)
  unfolding group
  tracks_more t =
      record {
        stands = stands_joined down inside t.stands;
        one_root = root_joined down inside t.stands t.one_root;
        other_root = root_joined down inside t.stands t.other_root;
      }

  follows_link : {from to : Roots} {ps' : List ℕ} → ps' ≡ join_of ps l.one l.other → to ≡ after from → Follows (keep l []) ps from ps' to
  follows_link {from} made same =
      rw (are, made, same)
      (follows_all (joined_descends down inside) (λ links one other t. tracks_relinked (to_end l links) (to_front l links) (tracks_more t)))

  -- as the code finds it: the roots of the link's ends are one, or one goes under the other
  module _ {from r : Roots} {ps' : List ℕ} (is : r ≡ roots_of ps l.one l.other) (made : ps' ≡ join_of ps l.one l.other) where
    pub follows_same : r.one ≡ r.other → Follows (keep l []) ps from ps' from
    follows_same e =
        let q : (roots_of ps l.one l.other).one ≡ (roots_of ps l.one l.other).other = rw is at e in
        follows_link made (λ i. record { one = sym (stays down inside q from.one) i; other = sym (stays down inside q from.other) i })

    pub follows_moved : {child top : ℕ} {to : Roots} → child ≡ max r.one r.other → top ≡ min r.one r.other
        → (to.one ≡ put child top (λ c. c) from.one) × (to.other ≡ put child top (λ c. c) from.other) → Follows (keep l []) ps from ps' to
    follows_moved c t m = follows_link made (λ i. record { one = (rw (c, t, is) at m.0) i; other = (rw (c, t, is) at m.1) i })

-- some links after others: up to where the two meet
module _ {xs : List Link} {ps ps' : List ℕ} {from via : Roots} (f : Follows xs ps from ps' via) where
  follows_met : (ys : List Link) → via.one ≡ via.other → Follows (xs ++ ys) ps from ps' via
  follows_met ys e =
      record {
        falls = f.falls;
        met = λ links one other t _. rw (← append_assoc links xs ys) (chained_left ys (f.met links one other t e));
        apart = λ links one other t n. absurd (n e);
      }

  follows_then : {ys : List Link} {ps'' : List ℕ} {to : Roots} → (via.one ≡ via.other → ⊥) → Follows ys ps' via ps'' to → Follows (xs ++ ys) ps from ps'' to
  follows_then {ys} n g =
      record {
        falls = g.falls;
        met = λ links one other t e. rw (← append_assoc links xs ys) (g.met (links ++ xs) one other (f.apart links one other t n) e);
        apart = λ links one other t m. rw (← append_assoc links xs ys) (g.apart (links ++ xs) one other (f.apart links one other t n) m);
      }

-- ---- the pairs of a log place

-- the links of so many pairs of the log begin with those of the first i pairs
pub links_rest : (log : List ℕ) (start i count : ℕ) → i ≤ count → (ys : List Link) × (links_at log start count ≡ links_at log start i ++ ys)
unfolding links_at
links_rest log start zero count h = (links_at log start count, refl)
links_rest log start (suc i) zero h = absurd (omega arith)
links_rest log start (suc i) (suc count) h =
    let rest = links_rest log (start + 2) i count (omega arith) in
    (rest.0, ap (keep (pair_at log start)) rest.1 ∙ keep_append (pair_at log start) (links_at log (start + 2) i) rest.0)

-- ---- the pairs of a slide

-- the pairs before i are joined, and the two have not met
pub record Joining (pairs : List (List ℕ)) (ps : List ℕ) (from : Roots) (i : ℕ) (ps' : List ℕ) (roots : Roots) : Type 0 where
  pub follows : Follows (links_of_pairs (take i pairs)) ps from ps' roots
  pub apart : roots.one ≡ roots.other → ⊥

module _ (pairs : List (List ℕ)) {ps : List ℕ} {from : Roots} where
  pub joining_none : Descends ps → (from.one ≡ from.other → ⊥) → Joining pairs ps from 0 ps from
  unfolding links_of_pairs
  joining_none down n = record { follows = follows_none down; apart = n }

  module _ {i : ℕ} {ps' : List ℕ} {via : Roots} (j : Joining pairs ps from i ps' via) where
    pub joining_all : length pairs ≤ i → Follows (links_of_pairs pairs) ps from ps' via
    joining_all h = rw (take_all i pairs h) at j.follows

    module _ (more : i < length pairs) {ps'' : List ℕ} {to : Roots} (f : Follows (keep (pair_link (get_or pairs i [])) []) ps' via ps'' to) where
      on : Follows (links_of_pairs (take (i + 1) pairs)) ps from ps'' to
      on = rw (pairs_more pairs i more) (follows_then j.follows j.apart f)

      pub joining_met : to.one ≡ to.other → Follows (links_of_pairs pairs) ps from ps'' to
      joining_met e = rw (pairs_rest pairs (i + 1)) (follows_met on _ e)

      pub joining_more : (to.one ≡ to.other → ⊥) → Joining pairs ps from (i + 1) ps'' to
      joining_more n = record { follows = on; apart = n }
