-- The finder is right: `trail_of` gives the best trail where there is a trail, and the empty list where there is none.
--
-- From a cell that is suc k links away from b, a shortest trail goes on to a cell that is k links away (`nearer`).
-- `next_cell_of` is the smallest of those that a link joins with the cell (`next_within`, `next_is`). So a step to it, and
-- then the best trail from there, is the best trail (`best_onward`).
use Prim.Native.Nat.{ℕ, zero, suc, ◌≤◌}
use native.Mathlib.Nat.{le_antisymm, le_refl, le_trans, not-suc-le-zero, suc_inj}
use native.Mathlib.Omega.{arith}
use mathlib.Core.Path.{◌≡◌, refl, sym, ◌∙◌, ap}
use mathlib.Core.Bool.{Bool, true, false, cond, false≢true}
use mathlib.Core.List.{List, [], ◌∷◌}
use mathlib.Core.Logic.{⊎_elim}
use mathlib.Core.Option.{Option, none, some}
use lib.Dec.{eqb}
use lib.ListN.{length}
use borrow.Author.Tests.{eqb-true, eq-eqb}
use Rattle.graph.specs.Link.{Link, along, against, Linked, here, there, Chained}
use Rattle.graph.specs.Trail.{Trail, arrive, step, Best, smaller, fewest_links}
use Rattle.graph.specs.Trail.{is_some, offered, next_cell_of, descend, trail_of_links, trail_of}
use Rattle.graph.proofs.Chains.{Relinks, chained_relink, chained?}
use Rattle.graph.proofs.Fewest.{Within, within, within_is, is_within, within_least}
use Rattle.graph.proofs.Fewest.{smaller_left, smaller_right, smaller_cases}
use Rattle.graph.proofs.Fewest.{fewest_least, fewest_trail, trail_fewest}
use Rattle.graph.proofs.Trails.{trail_chained, chained_trail, trail_one, trail_single}
use Rattle.graph.proofs.Trails.{best_same, best_step, best_unique, best_relink}

-- a shortest trail goes on over cells that are one link nearer
nearer :
    {ls : List Link} {a b d k : ℕ} {ds : List ℕ} →
    fewest_links ls a b ≡ some (suc k) →
    Linked a d ls → Trail ls b d ds → length ds ≡ suc k → fewest_links ls d b ≡ some k
nearer {ls} {k = k} e h t long =
    let (m, f) = trail_fewest t in
    let (cs, u, p) = fewest_trail ls f in
    let q : m ≡ k = omega (arith, fewest_least f t, fewest_least e (step h u)) in
    rw (← q) f

goes_on :
    {ls : List Link} {a b k : ℕ} {cs : List ℕ} →
    fewest_links ls a b ≡ some (suc k) →
    Trail ls b a cs → length cs ≡ suc (suc k) → (d : ℕ) × Linked a d ls × (fewest_links ls d b ≡ some k)
goes_on e (arrive f) long = absurd (omega arith)
goes_on e (step {c = d} h t) long = (d, h, nearer e h t (suc_inj long))

-- The smallest cell that is nearer

is_some_lem : {x : Option ℕ} {k : ℕ} → x ≡ some k → is_some x k ≡ true
unfolding is_some
is_some_lem {k = k} e = rw e (eq-eqb k k refl)

some_is : (x : Option ℕ) {k : ℕ} → is_some x k ≡ true → x ≡ some k
unfolding is_some
some_is none p = absurd (false≢true p)
some_is (some m) {k} p = ap some (eqb-true m k p)

module _ (all : List Link) (b k a : ℕ) where
  -- k links of all lead on from c
  abbrev Left : ℕ → Type 0
  Left c = fewest_links all c b ≡ some k

  offered_within : {t : Bool} {c d : ℕ} → t ≡ true → d ≡ c → Left c → Within c (offered all b k t d)
  unfolding offered
  offered_within {c = c} p q e = rw (p, q, is_some_lem e) (within (le_refl c))

  offered_is : {n : ℕ} (t : Bool) (c : ℕ) → Within n (offered all b k t c) → (t ≡ true) × (c ≤ n) × Left c
  unfolding offered
  offered_is false c w = elim w [ ]
  offered_is {n} true c w = go (is_some (fewest_links all c b) k) refl w
    where
      go :
          (t : Bool) → is_some (fewest_links all c b) k ≡ t →
          Within n (cond t (some c) none) → (true ≡ true) × (c ≤ n) × Left c
      go true e (within h) = (refl, h, some_is (fewest_links all c b) e)
      go false e w = elim w [ ]

  -- what a link offers from its one end to its other, and back
  abbrev forth : Link → Option ℕ
  forth l = offered all b k (eqb l.one a) l.other

  abbrev back : Link → Option ℕ
  back l = offered all b k (eqb l.other a) l.one

  -- the next cell is at most any cell that a link joins with a and from which k links lead on
  next_within : {c : ℕ} {ls : List Link} → Linked a c ls → Left c → Within c (next_cell_of all b k a ls)
  unfolding next_cell_of
  next_within (here {l} {ls} (along p q)) e =
      smaller_left (smaller (back l) (next_cell_of all b k a ls)) (offered_within (eq-eqb l.one a p) q e)
  next_within (here {l} {ls} (against p q)) e =
      smaller_right (forth l) (smaller_left (next_cell_of all b k a ls) (offered_within (eq-eqb l.other a q) p e))
  next_within (there {l} h) e = smaller_right (forth l) (smaller_right (back l) (next_within h e))

  -- a cell, at most n, that a link of ls joins with a and from which k links lead on
  abbrev Next : List Link → ℕ → Type 0
  Next ls n = (c : ℕ) × (c ≤ n) × Linked a c ls × Left c

  next_forth : (l : Link) (ls : List Link) {n : ℕ} → Within n (forth l) → Next (l ∷ ls) n
  next_forth l ls w =
      let (t, h, e) = offered_is (eqb l.one a) l.other w in
      (l.other, h, here (along (eqb-true l.one a t) refl), e)

  next_back : (l : Link) (ls : List Link) {n : ℕ} → Within n (back l) → Next (l ∷ ls) n
  next_back l ls w =
      let (t, h, e) = offered_is (eqb l.other a) l.one w in
      (l.one, h, here (against refl (eqb-true l.other a t)), e)

  next_there : (l : Link) {ls : List Link} {n : ℕ} → Next ls n → Next (l ∷ ls) n
  next_there l (c, h, x, e) = (c, h, there x, e)

  -- and it is such a cell
  next_is : {n : ℕ} (ls : List Link) → Within n (next_cell_of all b k a ls) → Next ls n
  unfolding next_cell_of
  next_is [] w = elim w [ ]
  next_is (l ∷ ls) w =
      ⊎_elim (next_forth l ls)
      (λ v.
      ⊎_elim (next_back l ls) (λ u. next_there l (next_is ls u)) (smaller_cases (back l) (next_cell_of all b k a ls) v))
      (smaller_cases (forth l) (smaller (back l) (next_cell_of all b k a ls)) w)

-- c is the smallest cell that a link joins with a and that is one link nearer
record Smallest (ls : List Link) (a b k c : ℕ) : Type 0 where
  is : next_cell_of ls b k a ls ≡ some c
  linked : Linked a c ls
  count : fewest_links ls c b ≡ some k
  low : (d : ℕ) → Linked a d ls → fewest_links ls d b ≡ some k → c ≤ d

smallest :
    {ls : List Link} {a b k d : ℕ} → Linked a d ls → fewest_links ls d b ≡ some k → (c : ℕ) × Smallest ls a b k c
smallest {ls} {a} {b} {k} h e =
    let (n, is, x) = within_is (next_within ls b k a h e) in
    let (c, y, linked, count) = next_is ls b k a ls (is_within is) in
    let z : n ≤ c = within_least is (next_within ls b k a linked count) in
    let s : Smallest ls a b k c =
    record {
      is = is ∙ ap some (le_antisymm z y);
      linked = linked;
      count = count;
      low = λ d g f. le_trans y (within_least is (next_within ls b k a g f));
    } in
    (c, s)

-- The best trail

best_length :
    {ls : List Link} {a b k : ℕ} {cs : List ℕ} → fewest_links ls a b ≡ some k → Best ls a b cs → length cs ≡ suc k
best_length {ls} e p =
    let (ds, t, long) = fewest_trail ls e in
    le_antisymm (rw long at (p.fewest ds t)) (fewest_least e p.trail)

-- a step to the smallest cell that is nearer, and then the best trail from there
best_onward :
    {ls : List Link} {a b c k : ℕ} {cs : List ℕ} →
    fewest_links ls a b ≡ some (suc k) → Smallest ls a b k c → Best ls c b cs → Best ls a b (a ∷ cs)
best_onward e s p =
    let long = best_length s.count p in
    best_step s.linked p
    (λ ds t. rw long (fewest_least e t))
    (λ d ds h t same. s.low d h (nearer e h t (same ∙ long)))

descend_best : (ls : List Link) (b k : ℕ) {a : ℕ} → fewest_links ls a b ≡ some k → Best ls a b (descend ls b k (some a))
unfolding descend
descend_best ls b zero e =
    let (cs, t, long) = fewest_trail ls e in
    best_same (trail_single t long)
descend_best ls b (suc k) e =
    let (cs, t, long) = fewest_trail ls e in
    let (d, h, f) = goes_on e t long in
    let (c, s) = smallest h f in
    rw s.is (best_onward e s (descend_best ls b k s.count))

trail_by : (ls : List Link) (a b : ℕ) {x : Option ℕ} → fewest_links ls a b ≡ x → trail_of ls a b ≡ trail_of_links ls a b x
unfolding trail_of
trail_by ls a b e = ap (trail_of_links ls a b) e

-- the finder finds the best trail
pub trail_of_best : {ls : List Link} {a b : ℕ} → Chained ls a b → Best ls a b (trail_of ls a b)
unfolding trail_of_links
trail_of_best {ls} {a} {b} x =
    let (k, e) = trail_fewest (chained_trail x).1 in
    rw (trail_by ls a b e) (descend_best ls b k e)

-- where there is none, it gives the empty list
pub trail_of_none : (ls : List Link) (a b : ℕ) → (Chained ls a b → ⊥) → trail_of ls a b ≡ []
unfolding trail_of_links
trail_of_none ls a b apart = go (fewest_links ls a b) refl
  where
    go : (x : Option ℕ) → fewest_links ls a b ≡ x → trail_of ls a b ≡ []
    go none e = trail_by ls a b e
    go (some k) e = absurd (apart (trail_chained (fewest_trail ls e).1))

-- and nowhere else
pub none_trail_of : {ls : List Link} {a b : ℕ} → trail_of ls a b ≡ [] → Chained ls a b → ⊥
none_trail_of e x = not-suc-le-zero (rw e at (trail_one (trail_of_best x).trail))

-- whatever is best is what the finder gives
pub best_trail_of : {ls : List Link} {a b : ℕ} {cs : List ℕ} → Best ls a b cs → trail_of ls a b ≡ cs
best_trail_of p = best_unique (trail_of_best (trail_chained p.trail)) p

-- so from a cell to itself it gives the cell
pub trail_of_same : (ls : List Link) (a : ℕ) → trail_of ls a a ≡ a ∷ []
trail_of_same ls a = best_trail_of (best_same refl)

-- and what it gives depends on which pairs are linked, and on nothing else of the list
pub trail_of_relink : {ls ms : List Link} (a b : ℕ) → Relinks ls ms → Relinks ms ls → trail_of ls a b ≡ trail_of ms a b
trail_of_relink {ls} {ms} a b f g =
    elim (chained? ls a b) [
      | yes x ↦ best_trail_of (best_relink g f (trail_of_best (chained_relink f x)))
      | no x ↦ trail_of_none ls a b x ∙ sym (trail_of_none ms a b (λ y. x (chained_relink g y)))
    ]
