-- `fewest_links` is right: the number of links of a shortest trail, and missing where there is no trail.
--
-- The count is 0 from a cell to itself, and across any link it rises by at most one (`near_step`: by the list of links,
-- in the three ways that a further link leaves). So no trail has fewer links than the count says. And a trail with as
-- many is made by joining trails, in the same three ways (`near_trail`).
use Prim.Native.Nat.{ℕ, suc, ◌+◌, ◌≤◌, suc-le-suc, zero-le}
use native.Mathlib.Nat.{le_antisymm, le_refl, le-suc, le_trans, min-le_left, min-le_right}
use native.Mathlib.Decide.{dec_le}
use native.Mathlib.Omega.{arith}
use mathlib.Core.Path.{◌≡◌, refl, sym, ◌∙◌, ap}
use mathlib.Core.Bool.{Bool, true, false, cond}
use mathlib.Core.List.{List, [], ◌∷◌, ◌++◌}
use mathlib.Core.Logic.{◌⊎◌, inl, inr, ⊎_elim}
use mathlib.Core.Option.{Option, none, some, none-ne-some, some-injective}
use lib.Dec.{eqb}
use lib.ListN.{length, length-append}
use borrow.Author.Tests.{eqb-true, eq-eqb}
use Rattle.graph.specs.Link.{Link, along, against, Linked, here, there}
use Rattle.graph.specs.Trail.{Trail, arrive, step, smaller, through, fewest_links}
use Rattle.graph.proofs.Trails.{trail_join, trail_relink}

-- Numbers that may be missing

-- the number is there and is at most n
pub data Within (n : ℕ) : Option ℕ → Type 0 where
  within : {m : ℕ} → m ≤ n → Within n (some m)

pub within_is : {n : ℕ} {x : Option ℕ} → Within n x → (m : ℕ) × (x ≡ some m) × (m ≤ n)
within_is (within {m} h) = (m, refl, h)

pub is_within : {k : ℕ} {x : Option ℕ} → x ≡ some k → Within k x
is_within {k} e = rw e (within (le_refl k))

pub within_least : {n k : ℕ} {x : Option ℕ} → x ≡ some k → Within n x → k ≤ n
within_least {k = k} e (within {m} h) = rw (some-injective m k e) at h

within_more : {m n : ℕ} {x : Option ℕ} → m ≤ n → Within m x → Within n x
within_more h (within k) = within (le_trans k h)

pub smaller_left : {n : ℕ} {x : Option ℕ} (y : Option ℕ) → Within n x → Within n (smaller x y)
unfolding smaller
smaller_left none (within h) = within h
smaller_left (some k) (within {m} h) = within (le_trans (min-le_left m k) h)

pub smaller_right : {n : ℕ} (x : Option ℕ) {y : Option ℕ} → Within n y → Within n (smaller x y)
unfolding smaller
smaller_right none w = w
smaller_right (some k) (within {m} h) = within (le_trans (min-le_right k m) h)

pub smaller_cases : {n : ℕ} (x y : Option ℕ) → Within n (smaller x y) → Within n x ⊎ Within n y
unfolding smaller
smaller_cases none y w = inr w
smaller_cases (some k) none w = inl w
smaller_cases {n} (some k) (some m) (within h) =
    elim (dec_le k n) [
      | yes p ↦ inl (within p)
      | no p ↦ inr (within {m = m} (omega arith))
    ]

-- a number through a link, in its two parts
record Parts (n : ℕ) (x y : Option ℕ) : Type 0 where
  before : ℕ
  after : ℕ
  reached : Within before x
  onward : Within after y
  sum : before + 1 + after ≤ n

through_parts : {n : ℕ} (x y : Option ℕ) → Within n (through x y) → Parts n x y
unfolding through
through_parts none y w = elim w [ ]
through_parts (some i) none w = elim w [ ]
through_parts (some i) (some j) (within h) =
    record { before = i; after = j; reached = within (le_refl i); onward = within (le_refl j); sum = h }

parts_through : {n : ℕ} {x y : Option ℕ} → Parts n x y → Within n (through x y)
unfolding through
parts_through w = join w.reached w.onward w.sum
  where
    join : {i j n : ℕ} {x y : Option ℕ} → Within i x → Within j y → i + 1 + j ≤ n → Within n (through x y)
    join (within {m = i} h) (within {m = j} k) s = within {m = i + 1 + j} (omega arith)

parts_onward : {n : ℕ} {x y : Option ℕ} → Parts n x y → Within n y
parts_onward w = within_more {m = w.after} (omega arith) w.onward

parts_step : {n : ℕ} {x x' y : Option ℕ} (w : Parts n x y) → Within (suc w.before) x' → Parts (suc n) x' y
parts_step w v =
    record { before = suc w.before; after = w.after; reached = v; onward = w.onward; sum = omega arith }

-- The count, link by link

-- by the count, at most n links lead from a to b
abbrev Near : List Link → ℕ → ℕ → ℕ → Type 0
Near ls n a b = Within n (fewest_links ls a b)

-- the three ways with one link more: without it, or over it in one of its two directions
data Ways (l : Link) (ls : List Link) (n a b : ℕ) : Type 0 where
  without : Near ls n a b → Ways l ls n a b
  forth : Parts n (fewest_links ls a l.one) (fewest_links ls l.other b) → Ways l ls n a b
  back : Parts n (fewest_links ls a l.other) (fewest_links ls l.one b) → Ways l ls n a b

abbrev forth_links : Link → List Link → ℕ → ℕ → Option ℕ
forth_links l ls a b = through (fewest_links ls a l.one) (fewest_links ls l.other b)

abbrev back_links : Link → List Link → ℕ → ℕ → Option ℕ
back_links l ls a b = through (fewest_links ls a l.other) (fewest_links ls l.one b)

ways_near : {l : Link} {ls : List Link} {n a b : ℕ} → Ways l ls n a b → Near (l ∷ ls) n a b
unfolding fewest_links
ways_near {l} {ls} {n} {a} {b} (without w) = smaller_left (smaller (forth_links l ls a b) (back_links l ls a b)) w
ways_near {l} {ls} {n} {a} {b} (forth w) =
    smaller_right (fewest_links ls a b) (smaller_left (back_links l ls a b) (parts_through w))
ways_near {l} {ls} {n} {a} {b} (back w) =
    smaller_right (fewest_links ls a b) (smaller_right (forth_links l ls a b) (parts_through w))

near_ways : {l : Link} {ls : List Link} {n a b : ℕ} → Near (l ∷ ls) n a b → Ways l ls n a b
unfolding fewest_links
near_ways {l} {ls} {n} {a} {b} w =
    ⊎_elim without
    (λ v.
    ⊎_elim (λ u. forth (through_parts _ _ u)) (λ u. back (through_parts _ _ u))
    (smaller_cases (forth_links l ls a b) (back_links l ls a b) v))
    (smaller_cases (fewest_links ls a b) (smaller (forth_links l ls a b) (back_links l ls a b)) w)

-- from a cell to itself the count is 0
near_same : (ls : List Link) {a b : ℕ} → a ≡ b → Near ls 0 a b
near_same [] {a} {b} e = unfold fewest_links in rw (eq-eqb a b e) (within (le_refl 0))
near_same (l ∷ ls) e = ways_near (without (near_same ls e))

-- from a over a link at a, and then at most n links
crossing : (ls : List Link) {n a c : ℕ} {y : Option ℕ} → c ≡ a → Within n y → Parts (suc n) (fewest_links ls a c) y
crossing ls {n} e w =
    record { before = 0; after = n; reached = near_same ls (sym e); onward = w; sum = omega arith }

-- across a link the count rises by at most one
near_step : {a c : ℕ} {ls : List Link} {n : ℕ} (b : ℕ) → Linked a c ls → Near ls n c b → Near ls (suc n) a b
near_step b (there {l} h) w =
    ways_near (elim (near_ways w) [
      | without v ↦ without (near_step b h v)
      | forth v ↦ forth (parts_step v (near_step l.one h v.reached))
      | back v ↦ back (parts_step v (near_step l.other h v.reached))
    ])
near_step {n = n} b (here (along p q)) w =
    ways_near (elim (near_ways w) [
      | without v ↦ forth (crossing _ p (rw q v))
      | forth v ↦ forth (crossing _ p (parts_onward v))
      | back v ↦ without (within_more (le-suc n) (rw (← p) (parts_onward v)))
    ])
near_step {n = n} b (here (against p q)) w =
    ways_near (elim (near_ways w) [
      | without v ↦ back (crossing _ q (rw p v))
      | forth v ↦ without (within_more (le-suc n) (rw (← q) (parts_onward v)))
      | back v ↦ back (crossing _ q (parts_onward v))
    ])

-- so the count is at most the links of any trail
trail_near : {ls : List Link} {b a : ℕ} {cs : List ℕ} → Trail ls b a cs → (n : ℕ) × (length cs ≡ suc n) × Near ls n a b
trail_near {ls} (arrive e) = (0, refl, near_same ls e)
trail_near {b = b} (step h t) =
    let (n, long, w) = trail_near t in
    (suc n, ap suc long, near_step b h w)

-- A trail with as many links as the count says

-- a trail from a to b with at most n links
abbrev Short : List Link → ℕ → ℕ → ℕ → Type 0
Short ls n a b = (cs : List ℕ) × Trail ls b a cs × (length cs ≤ suc n)

short_without : {l : Link} {ls : List Link} {n a b : ℕ} → Short ls n a b → Short (l ∷ ls) n a b
short_without (cs, t, h) = (cs, trail_relink (λ x y. there) t, h)

short_over :
    {l : Link} {ls : List Link} {i j n a b c d : ℕ} →
    Short ls i a c → Linked c d (l ∷ ls) → Short ls j d b → i + 1 + j ≤ n → Short (l ∷ ls) n a b
short_over (cs, s, p) h (ds, t, q) sum =
    let u = trail_join (trail_relink (λ x y. there) s) h (trail_relink (λ x y. there) t) in
    (cs ++ ds, u, rw length-append (omega arith))

near_none : {n a b : ℕ} → Near [] n a b → a ≡ b
unfolding fewest_links
near_none {n} {a} {b} = go (eqb a b) refl
  where
    go : (t : Bool) → eqb a b ≡ t → Within n (cond t (some 0) none) → a ≡ b
    go true e w = eqb-true a b e
    go false e w = elim w [ ]

near_trail : (ls : List Link) {n a b : ℕ} → Near ls n a b → Short ls n a b
near_trail [] {a = a} w = (a ∷ [], arrive (near_none w), suc-le-suc zero-le)
near_trail (l ∷ ls) w =
    elim (near_ways w) [
      | without v ↦ short_without (near_trail ls v)
      | forth v ↦ short_over (near_trail ls v.reached) (here (along refl refl)) (near_trail ls v.onward) v.sum
      | back v ↦ short_over (near_trail ls v.reached) (here (against refl refl)) (near_trail ls v.onward) v.sum
    ]

-- What the count says

-- no trail has fewer links than the count
pub fewest_least :
    {ls : List Link} {a b k : ℕ} {cs : List ℕ} → fewest_links ls a b ≡ some k → Trail ls b a cs → suc k ≤ length cs
fewest_least e t =
    let (n, long, w) = trail_near t in
    rw long (suc-le-suc (within_least e w))

-- some trail has as many
pub fewest_trail :
    (ls : List Link) {a b k : ℕ} →
    fewest_links ls a b ≡ some k → (cs : List ℕ) × Trail ls b a cs × (length cs ≡ suc k)
fewest_trail ls e =
    let (cs, t, h) = near_trail ls (is_within e) in
    (cs, t, le_antisymm h (fewest_least e t))

-- where there is a trail, the count is there
pub trail_fewest :
    {ls : List Link} {a b : ℕ} {cs : List ℕ} → Trail ls b a cs → (k : ℕ) × (fewest_links ls a b ≡ some k)
trail_fewest t =
    let (n, long, w) = trail_near t in
    let (k, e, h) = within_is w in
    (k, e)

-- so where it is missing there is no trail
pub fewest_none : {ls : List Link} {a b : ℕ} {cs : List ℕ} → fewest_links ls a b ≡ none → Trail ls b a cs → ⊥
fewest_none e t =
    let (k, f) = trail_fewest t in
    none-ne-some k (sym e ∙ f)
