-- Trails: a trail leads from a to b exactly when the links chain them, and at most one of them is best.
--
-- Everything goes by the trail's steps. Two best trails are equally long and each comes first before the other, and
-- `First` is antisymmetric.
use Prim.Native.Nat.{ℕ, suc, ◌≤◌, ◌<◌, suc-le-suc}
use native.Mathlib.Nat.{le_antisymm, le_of_suc-le-suc, suc_inj, eq-or-lt_of_le}
use native.Mathlib.Omega.{arith}
use mathlib.Core.Path.{◌≡◌, refl, sym, ap, ap₂}
use mathlib.Core.List.{List, [], ◌∷◌, ◌++◌, Memᴰ}
use mathlib.Core.Logic.{◌⊎◌, inl, inr}
use lib.ListN.{length}
use Rattle.graph.specs.Link.{Link, Linked, Chained, same, more}
use Rattle.graph.specs.Trail.{Trail, arrive, step, First, even, lower, later, Best}
use Rattle.graph.proofs.Chains.{Relinks, linked_sym, chained_one, chained_trans}

-- Trails

pub trail_chained : {ls : List Link} {b a : ℕ} {cs : List ℕ} → Trail ls b a cs → Chained ls a b
trail_chained (arrive e) = same e
trail_chained (step h t) = chained_trans (chained_one h) (trail_chained t)

-- two trails with a link between them are one trail
pub trail_join :
    {ls : List Link} {c a b d : ℕ} {cs ds : List ℕ} →
    Trail ls c a cs → Linked c d ls → Trail ls b d ds → Trail ls b a (cs ++ ds)
trail_join (arrive e) h u = step (rw (← e) at h) u
trail_join (step k t) h u = step k (trail_join t h u)

pub chained_trail : {ls : List Link} {a b : ℕ} → Chained ls a b → (cs : List ℕ) × Trail ls b a cs
chained_trail {a = a} (same e) = (a ∷ [], arrive e)
chained_trail (more {c = c} x h) =
    let t = chained_trail x in
    (t.0 ++ (c ∷ []), trail_join t.1 h (arrive refl))

-- trails depend on which pairs are linked, and on nothing else of the list
pub trail_relink : {ls ms : List Link} {b a : ℕ} {cs : List ℕ} → Relinks ls ms → Trail ls b a cs → Trail ms b a cs
trail_relink f (arrive e) = arrive e
trail_relink f (step h t) = step (f _ _ h) (trail_relink f t)

pub trail_one : {ls : List Link} {a b : ℕ} {cs : List ℕ} → Trail ls b a cs → 1 ≤ length cs
trail_one (arrive e) = omega arith
trail_one (step h t) = omega arith

-- between different cells a trail has at least two cells
pub trail_two : {ls : List Link} {a b : ℕ} {cs : List ℕ} → (a ≡ b → ⊥) → Trail ls b a cs → 2 ≤ length cs
trail_two apart (arrive e) = absurd (apart e)
trail_two apart (step h t) = suc-le-suc (trail_one t)

-- a trail of one cell leads nowhere else
pub trail_single : {ls : List Link} {a b : ℕ} {cs : List ℕ} → Trail ls b a cs → length cs ≡ 1 → a ≡ b
trail_single (arrive e) long = e
trail_single (step h t) long = absurd (omega (arith, trail_one t))

-- each cell of a trail that a link leads to is an end of a link
linked_after :
    {ls : List Link} {b a c x : ℕ} {cs : List ℕ} →
    Linked c a ls → Trail ls b a cs → Memᴰ x cs → (y : ℕ) × Linked x y ls
linked_after {c = c} h (arrive e) (Memᴰ.head p) = (c, rw p (linked_sym h))
linked_after h (arrive e) (Memᴰ.tail m) = elim m [ ]
linked_after {c = c} h (step k t) (Memᴰ.head p) = (c, rw p (linked_sym h))
linked_after h (step k t) (Memᴰ.tail m) = linked_after k t m

-- each cell of a trail of two cells or more is an end of a link
pub trail_linked :
    {ls : List Link} {a b x : ℕ} {cs : List ℕ} →
    Trail ls b a cs → 2 ≤ length cs → Memᴰ x cs → (y : ℕ) × Linked x y ls
trail_linked (arrive e) two m = absurd (omega arith)
trail_linked (step {c = c} h t) two (Memᴰ.head p) = (c, rw p h)
trail_linked (step h t) two (Memᴰ.tail m) = linked_after h t m

-- The first by cell numbers

pub first_antisym : {cs ds : List ℕ} → First cs ds → First ds cs → cs ≡ ds
first_antisym even even = refl
first_antisym (lower p) (lower q) = absurd (omega arith)
first_antisym (lower p) (later e g) = absurd (omega arith)
first_antisym (later e f) (lower q) = absurd (omega arith)
first_antisym (later e f) (later e' g) = ap₂ ◌∷◌ e (first_antisym f g)

pub best_unique : {ls : List Link} {a b : ℕ} {cs ds : List ℕ} → Best ls a b cs → Best ls a b ds → cs ≡ ds
best_unique {cs = cs} {ds} p q = first_antisym (p.first ds q.trail (sym long)) (q.first cs p.trail long)
  where
    long : length cs ≡ length ds
    long = le_antisymm (p.fewest ds q.trail) (q.fewest cs p.trail)

-- what is best depends on which pairs are linked, and on nothing else of the list
pub best_relink :
    {ls ms : List Link} {a b : ℕ} {cs : List ℕ} → Relinks ls ms → Relinks ms ls → Best ls a b cs → Best ms a b cs
best_relink f g p =
    record {
      trail = trail_relink f p.trail;
      fewest = λ ds t. p.fewest ds (trail_relink g t);
      first = λ ds t. p.first ds (trail_relink g t);
    }

-- from a cell to itself the cell alone is best
pub best_same : {ls : List Link} {a b : ℕ} → a ≡ b → Best ls a b (a ∷ [])
best_same {ls} {a} {b} e = record { trail = arrive e; fewest = λ ds t. trail_one t; first = first }
  where
    first : (ds : List ℕ) → Trail ls b a ds → length ds ≡ 1 → First (a ∷ []) ds
    first ds (arrive f) long = later refl even
    first ds (step h t) long = absurd (omega (arith, trail_one t))

-- A best trail and its first step

trail_start : {ls : List Link} {a b c : ℕ} {cs : List ℕ} → Trail ls b a (c ∷ cs) → c ≡ a
trail_start (arrive e) = refl
trail_start (step h t) = refl

trail_next :
    {ls : List Link} {a b c d : ℕ} {cs : List ℕ} →
    Trail ls b a (c ∷ d ∷ cs) → Linked a d ls × Trail ls b d (d ∷ cs)
trail_next (step h (arrive e)) = (h, arrive e)
trail_next (step h (step k t)) = (h, step k t)

first_next : {c d : ℕ} {cs ds : List ℕ} → c ≡ d → First (c ∷ cs) (d ∷ ds) → First cs ds
first_next e (lower p) = absurd (omega arith)
first_next e (later q f) = f

-- after its first step a best trail is the best trail from there
pub best_tail : {ls : List Link} {a b c d : ℕ} {cs : List ℕ} → Best ls a b (c ∷ d ∷ cs) → Best ls d b (d ∷ cs)
best_tail {a = a} p =
    let (h, t) = trail_next p.trail in
    record {
      trail = t;
      fewest = λ ds u. le_of_suc-le-suc (p.fewest (a ∷ ds) (step h u));
      first = λ ds u long. first_next (trail_start p.trail) (p.first (a ∷ ds) (step h u) (ap suc long));
    }

-- of two trails the one that starts with the lower cell comes first
first_start : {ls : List Link} {b c d : ℕ} {cs ds : List ℕ} → c < d → Trail ls b c cs → Trail ls b d ds → First cs ds
first_start lt (arrive e) (arrive f) = lower lt
first_start lt (arrive e) (step k u) = lower lt
first_start lt (step h t) (arrive f) = lower lt
first_start lt (step h t) (step k u) = lower lt

-- a step and then a best trail is a best trail, where no trail is shorter and no step to a lower cell would do
pub best_step :
    {ls : List Link} {a b c : ℕ} {cs : List ℕ} →
    Linked a c ls →
    Best ls c b cs →
    ((ds : List ℕ) → Trail ls b a ds → suc (length cs) ≤ length ds) →
    ((d : ℕ) (ds : List ℕ) → Linked a d ls → Trail ls b d ds → length ds ≡ length cs → c ≤ d) → Best ls a b (a ∷ cs)
best_step {ls} {a} {b} {c} {cs} h p short low = record { trail = step h p.trail; fewest = short; first = first }
  where
    from : {d : ℕ} {ds : List ℕ} → Trail ls b d ds → length ds ≡ length cs → (c ≡ d) ⊎ (c < d) → First cs ds
    from {ds = ds} t long (inl e) = p.first ds (rw e t) long
    from t long (inr lt) = first_start lt p.trail t

    first : (ds : List ℕ) → Trail ls b a ds → length ds ≡ suc (length cs) → First (a ∷ cs) ds
    first ds (arrive e) long = absurd (omega (arith, trail_one p.trail))
    first ds (step {c = d} {cs = es} k t) long =
        let same = suc_inj long in
        later refl (from t same (eq-or-lt_of_le (low d es k t same)))
