-- Parents by which two cells have one root exactly when they have one key: shortened they still are, and when the larger of two roots
-- goes under the smaller they are for the key in which the two roots' keys are one.
use Prim.Native.Nat.{ℕ, ◌≤◌, ◌<◌, min, max}
use mathlib.Core.Path.{◌≡◌, refl, sym, ap, ◌∙◌, subst, fun_ext}
use mathlib.Core.Bool.{Bool, true, false, cond}
use mathlib.Core.List.{List}
use mathlib.Core.Logic.{◌⊎◌, inl, inr, ⊎_elim}
use native.Mathlib.Omega.{arith}
use native.Mathlib.Decide.{ℕ_discrete, dec_le}
use native.Mathlib.Nat.{le_refl}
use borrow.Author.Tests.{eq-eqb, ne_eqb, eqb-true}
use lib.Dec.{eqb}
use lib.ListN.{length, set}
use lib.Seq.{get_or-set_same, get_or-set_other}
use Rattle.graph.specs.Link.{Between, along, against}
use Rattle.graph.specs.Forest.{put}
use Rattle.graph.proofs.Chains.{taken, taken_ends, taken_met}
use Rattle.forest.specs.Arrays.{places, fresh_parents_of}
use Rattle.forest.proofs.Fill.{length_count_from}
use Rattle.forest.proofs.Held.{fresh_parent}
use Rattle.forest_scratch.specs.Scratch.{Root, Stands, RootOf}
use Rattle.forest_scratch.proofs.Shorter.{Shortened, Found, stored, descends_stored}

-- each cell its own root, and its own key
pub stands_fresh : Stands (λ c. c) (fresh_parents_of places)
stands_fresh =
    record {
      falls = record { long = length_count_from 0 places; low = λ c. rw (fresh_parent places c) (le_refl c) };
      kept = fresh_parent places;
      apart = λ a b p q e. e;
    }

module _ {key : ℕ → ℕ} {ps qs : List ℕ} (s : Stands key ps) (t : Shortened ps qs) where
  pub stands_shorter : Stands key qs
  stands_shorter =
      record {
        falls = t.falls;
        kept = t.keeps key s.kept;
        apart = λ a b p q. s.apart a b ((t.roots a).1 p) ((t.roots b).1 q);
      }

  pub root_shorter : {c r : ℕ} → RootOf key ps c r → RootOf key qs c r
  root_shorter {c} {r} x = record { root = (t.roots r).0 x.root; one_key = x.one_key }

pub found_root : {key : ℕ → ℕ} {ps qs : List ℕ} {c r : ℕ} → Stands key ps → Found ps c r qs → RootOf key qs c r
found_root {key} {r} s f = record { root = (f.shorter.roots r).0 f.root; one_key = f.one_key key s.kept }

-- the two have one key exactly when they have one root
module _ {key : ℕ → ℕ} {ps : List ℕ} (s : Stands key ps) {a b u v : ℕ} (p : RootOf key ps a u) (q : RootOf key ps b v) where
  pub one_root : key a ≡ key b → u ≡ v
  one_root e = s.apart u v p.root q.root (p.one_key ∙ e ∙ sym q.one_key)

  pub one_key : u ≡ v → key a ≡ key b
  one_key e = sym p.one_key ∙ ap key e ∙ q.one_key

-- the two have one key already: to make their keys one changes nothing
module _ {key : ℕ → ℕ} {ps : List ℕ} (s : Stands key ps) {one other : ℕ} (e : key one ≡ key other) where
  same_key : taken (key one) (key other) ≡ λ m. m
  same_key = rw e (fun_ext (λ m. go m (eqb m (key other)) refl))
    where
      go : (m : ℕ) (t : Bool) → eqb m (key other) ≡ t → cond t (key other) m ≡ m
      go m true q = sym (eqb-true m (key other) q)
      go m false q = refl

  pub stands_same : Stands (λ c. taken (key one) (key other) (key c)) ps
  stands_same = subst (λ (t : ℕ → ℕ). Stands (λ c. t (key c)) ps) (sym same_key) s

-- the larger and the smaller are the two
pub sides : (u v : ℕ) → Between (max u v) (min u v) (record { one = u; other = v })
sides u v = go (dec_le u v)
  where
    go : Dec (u ≤ v) → Between (max u v) (min u v) (record { one = u; other = v })
    go (yes h) = against (omega arith) (omega arith)
    go (no h) = along (omega arith) (omega arith)

-- the roots u and v of two cells, of which one becomes the child of the other, which is no larger
module _ {key : ℕ → ℕ} {ps : List ℕ} (s : Stands key ps) {one other u v : ℕ} (p : RootOf key ps one u) (q : RootOf key ps other v)
    {child top : ℕ} (b : Between child top (record { one = u; other = v })) (low : top ≤ child) (inside : child < places) where
  abbrev after : ℕ → ℕ
  after c = taken (key one) (key other) (key c)

  h : child < length ps
  h = rw s.falls.long inside

  -- the two have one key now
  met : after one ≡ after other
  met = taken_ends (key one) (key other)

  met_roots : after u ≡ after v
  met_roots = ap (taken (key one) (key other)) p.one_key ∙ met ∙ sym (ap (taken (key one) (key other)) q.one_key)

  meet : after top ≡ after child
  meet = by b
    where
      by : Between child top (record { one = u; other = v }) → after top ≡ after child
      by (along x y) = rw (← x, ← y) (sym met_roots)
      by (against x y) = rw (← x, ← y) met_roots

  child_root : Root ps child
  child_root = by b
    where
      by : Between child top (record { one = u; other = v }) → Root ps child
      by (along x y) = rw (← x) p.root
      by (against x y) = rw (← y) q.root

  -- a root of the new parents was one, and is the child only if that is the top
  was_root : (c : ℕ) → Root (set ps child top) c → Root ps c × (c ≡ child → child ≡ top)
  was_root c r = go (ℕ_discrete c child)
    where
      go : Dec (c ≡ child) → Root ps c × (c ≡ child → child ≡ top)
      go (yes e) = (rw e child_root, λ _. sym (rw e at r) ∙ get_or-set_same ps child top child h)
      go (no n) = (rw (get_or-set_other ps child c top c n) at r, λ e. absurd (n e))

  -- one root only where the two were one
  u_v : u ≡ child ⊎ v ≡ child → child ≡ top → u ≡ v
  u_v w e = by b
    where
      by : Between child top (record { one = u; other = v }) → u ≡ v
      by (along x y) = x ∙ e ∙ sym y
      by (against x y) = x ∙ sym e ∙ sym y

  child_is : u ≡ child ⊎ v ≡ child
  child_is = by b
    where
      by : Between child top (record { one = u; other = v }) → u ≡ child ⊎ v ≡ child
      by (along x y) = inl x
      by (against x y) = inr y

  apart_met : (m n : ℕ) → Root ps m → Root ps n → (m ≡ child → child ≡ top) → (n ≡ child → child ≡ top)
      → m ≡ u → n ≡ v → m ≡ n
  apart_met m n r t i j x y =
      let e : child ≡ top = ⊎_elim (λ z. i (x ∙ z)) (λ z. j (y ∙ z)) child_is in
      x ∙ u_v child_is e ∙ sym y

  pub stands_merged : Stands after (set ps child top)
  stands_merged =
      record {
        falls = descends_stored s.falls inside low;
        kept =
            λ c. stored (λ m. after m ≡ after c) ps child top c h (λ e. rw e meet) (λ n. ap (taken (key one) (key other)) (s.kept c));
        apart = apart;
      }
    where
      apart : (m n : ℕ) → Root (set ps child top) m → Root (set ps child top) n → after m ≡ after n → m ≡ n
      apart m n r t e =
          let (rm, im) = was_root m r in
          let (rn, in') = was_root n t in
          ⊎_elim (λ x. s.apart m n rm rn x)
          (⊎_elim
          (λ x. apart_met m n rm rn im in' (s.apart m u rm p.root (x.0 ∙ sym p.one_key)) (s.apart n v rn q.root (sym x.1 ∙ sym q.one_key)))
          (λ x. sym (apart_met n m rn rm in' im (s.apart n u rn p.root (sym x.1 ∙ sym p.one_key)) (s.apart m v rm q.root (x.0 ∙ sym q.one_key)))))
          (taken_met e)

  -- any cell's root, moved with its tree
  pub root_merged : {c r : ℕ} → RootOf key ps c r → RootOf after (set ps child top) c (put child top (λ x. x) r)
  root_merged {c} {r} x = go (ℕ_discrete r child)
    where
      ahead : after r ≡ after c
      ahead = ap (taken (key one) (key other)) x.one_key

      top_root : Root ps top
      top_root = by b
        where
          by : Between child top (record { one = u; other = v }) → Root ps top
          by (along x y) = rw (← y) q.root
          by (against x y) = rw (← x) p.root

      go : Dec (r ≡ child) → RootOf after (set ps child top) c (put child top (λ x. x) r)
      go (yes e) =
          rw (eq-eqb r child e)
          (record {
            root = stored (λ m. m ≡ top) ps child top top h (λ z. refl) (λ z. top_root);
            one_key = meet ∙ (rw e at ahead);
          })
      go (no n) = rw (ne_eqb r child n) (record { root = rw (get_or-set_other ps child r top r n) x.root; one_key = ahead })
