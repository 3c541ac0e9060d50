-- The search level by level, from the second cell b.
--
-- One cell more gets its number, one above that of the queue's cell at `head`, and joins the queue (`search_more`): as the
-- numbers rise along the queue and none is higher by more than one, all that holds of the queue holds on. When all cells
-- across the links of the cell at `head` have their numbers, the queue is passed by one (`search_on`). At the end no cell
-- waits, so across each link the number falls by at most one, and by induction no trail has fewer cells than the number
-- says (`least`); and some trail has as many.
use Prim.Native.Nat.{ℕ, zero, suc, ◌+◌, ◌≤◌, ◌<◌, zero-le}
use native.Mathlib.Decide.{ℕ_discrete}
use native.Mathlib.Nat.{le_antisymm, le_refl, le_of_suc-le-suc, eq-or-lt_of_le}
use native.Mathlib.Omega.{arith}
use mathlib.Core.Path.{◌≡◌, sym, ◌∙◌, ap}
use mathlib.Core.List.{List, [], ◌∷◌}
use mathlib.Core.Logic.{◌⊎◌, inl, inr, ⊎_elim, ⊎_map}
use lib.ListN.{length, get_or, set, length-set}
use lib.Seq.{get_or-set_same, get_or-set_other}
use Rattle.graph.specs.Link.{Link, Linked}
use Rattle.graph.specs.Trail.{Trail, arrive, step, trail_of}
use Rattle.graph.proofs.Chains.{Relinks, linked_sym}
use Rattle.graph.proofs.Trails.{trail_relink, trail_chained, chained_trail}
use Rattle.graph.proofs.Finder.{trail_of_best, trail_of_none}
use Rattle.chain_fewest.specs.Levels.{Counted, unknown, Known, Closed, remaining_at, Waits, Waiting, Searching}

last_or_before : {i n : ℕ} → i < n + 1 → (i ≡ n) ⊎ (i < n)
last_or_before {i} {n} lt = let le : i ≤ n = omega arith in eq-or-lt_of_le le

-- The cells whose number is not known

-- there is one fewer once such a cell has its number
pub unknown_set :
    (remaining : List ℕ) (d v : ℕ) →
    d < length remaining → get_or remaining d 0 ≡ 0 → 1 ≤ v → unknown (set remaining d v) + 1 ≡ unknown remaining
unfolding unknown
unknown_set [] d v h e p = elim h [ ]
unknown_set (zero ∷ remaining) zero (suc v) h e p = omega arith
unknown_set (zero ∷ remaining) zero zero h e p = absurd (omega arith)
unknown_set (suc x ∷ remaining) zero v h e p = absurd (omega arith)
unknown_set (zero ∷ remaining) (suc d) v h e p = omega (arith, unknown_set remaining d v (le_of_suc-le-suc h) e p)
unknown_set (suc x ∷ remaining) (suc d) v h e p = unknown_set remaining d v (le_of_suc-le-suc h) e p

-- One cell more

module _
    {ls : List Link} {b : ℕ} {remaining queue : List ℕ} {head tail d : ℕ}
    (s : Searching ls b remaining queue head tail)
    (some : head < tail)
    (h : Linked (get_or queue head 0) d ls)
    (inside : d < length remaining)
    (fresh : get_or remaining d 0 ≡ 0)
  where
    -- the number of the cell at head, and the lists afterwards
    abbrev number : ℕ
    number = remaining_at remaining queue head

    abbrev remaining_more : List ℕ
    remaining_more = set remaining d (number + 1)

    abbrev queue_more : List ℕ
    queue_more = set queue tail d

    at_head : Waits remaining queue head
    at_head = s.waits head (le_refl head) some

    room_more : unknown remaining_more + 1 ≡ unknown remaining
    room_more = unknown_set remaining d (number + 1) inside fresh (omega arith)

    pub has_room : tail < length queue
    has_room = omega (arith, room_more, s.room, s.long)

    pub number_new : get_or remaining_more d 0 ≡ number + 1
    number_new = get_or-set_same remaining d (number + 1) 0 inside

    number_other : {c : ℕ} → (c ≡ d → ⊥) → get_or remaining_more c 0 ≡ get_or remaining c 0
    number_other {c} ne = get_or-set_other remaining d c (number + 1) 0 ne

    pub number_kept : (c : ℕ) → Known remaining c → get_or remaining_more c 0 ≡ get_or remaining c 0
    number_kept c known = number_other (λ e. omega (arith, ap (λ x. get_or remaining x 0) e))

    cell_new : get_or queue_more tail 0 ≡ d
    cell_new = get_or-set_same queue tail d 0 has_room

    pub cell_kept : (i : ℕ) → i < tail → get_or queue_more i 0 ≡ get_or queue i 0
    cell_kept i lt = get_or-set_other queue tail i d 0 (λ e. omega arith)

    -- the cell is the new one, or it was known
    known_cases : (c : ℕ) → Known remaining_more c → (c ≡ d) ⊎ Known remaining c
    known_cases c known =
        elim (ℕ_discrete c d) [
          | yes e ↦ inl e
          | no ne ↦ inr (rw (number_other ne) at known)
        ]

    highest : (c : ℕ) → get_or remaining_more c 0 ≤ number + 1
    highest c =
        elim (ℕ_discrete c d) [
          | yes e ↦ rw (e, number_new) (le_refl (number + 1))
          | no ne ↦ rw (number_other ne) (at_head.top c)
        ]

    -- a place of the queue before the new one
    pub in_queue_kept : (i : ℕ) → head ≤ i → i < tail → remaining_at remaining_more queue_more i ≡ remaining_at remaining queue i
    in_queue_kept i le lt = rw (cell_kept i lt) (number_kept (get_or queue i 0) (s.waits i le lt).known)

    trail_more : (c : ℕ) → Known remaining_more c → (cs : List ℕ) × Trail ls b c cs × (length cs ≡ get_or remaining_more c 0)
    trail_more c known = ⊎_elim new old (known_cases c known)
      where
        new : c ≡ d → (cs : List ℕ) × Trail ls b c cs × (length cs ≡ get_or remaining_more c 0)
        new e =
            let (cs, t, long) = s.trail (get_or queue head 0) at_head.known in
            (c ∷ cs, step (linked_sym (rw (← e) at h)) t, rw (e, number_new) (omega (arith, long)))

        old : Known remaining c → (cs : List ℕ) × Trail ls b c cs × (length cs ≡ get_or remaining_more c 0)
        old k =
            let (cs, t, long) = s.trail c k in
            (cs, t, long ∙ sym (number_kept c k))

    closed_more : (c : ℕ) → Known remaining_more c → Closed ls remaining_more c ⊎ Waiting queue_more head (tail + 1) c
    closed_more c known = ⊎_elim new old (known_cases c known)
      where
        new : c ≡ d → Closed ls remaining_more c ⊎ Waiting queue_more head (tail + 1) c
        new e = inr (tail, s.passed, omega arith, cell_new ∙ sym e)

        still : Known remaining c → Closed ls remaining c → Closed ls remaining_more c
        still k closed x l =
            let (p, q) = closed x l in
            rw (number_kept x p, number_kept c k) (p, q)

        old : Known remaining c → Closed ls remaining_more c ⊎ Waiting queue_more head (tail + 1) c
        old k =
            ⊎_map (still k) (λ w. (w.0, w.1, omega (arith, w.2), cell_kept w.0 w.2 ∙ w.3)) (s.closed c k)

    waits_more : (i : ℕ) → head ≤ i → (i ≡ tail) ⊎ (i < tail) → Waits remaining_more queue_more i
    waits_more i le (inl e) =
        rw e
        record {
          inside = rw (cell_new, length-set) inside;
          known = rw (cell_new, number_new) (omega arith);
          low = rw (cell_new, number_new) (omega (arith, at_head.low));
          top = λ c. rw (cell_new, number_new) (omega (arith, highest c));
        }
    waits_more i le (inr lt) =
        let w = s.waits i le lt in
        record {
          inside = rw (cell_kept i lt, length-set) w.inside;
          known = rw (in_queue_kept i le lt) w.known;
          low = rw (in_queue_kept i le lt) w.low;
          top = λ c. rw (in_queue_kept i le lt) (omega (arith, highest c, s.rises head i (le_refl head) le lt));
        }

    rises_more :
        (i j : ℕ) → head ≤ i → i ≤ j → (j ≡ tail) ⊎ (j < tail) →
        remaining_at remaining_more queue_more i ≤ remaining_at remaining_more queue_more j
    rises_more i j le more (inl e) = rw (e, cell_new, number_new) (highest (get_or queue_more i 0))
    rises_more i j le more (inr lt) =
        rw (in_queue_kept i le (omega arith), in_queue_kept j (omega arith) lt) (s.rises i j le more lt)

    pub search_more : Searching ls b remaining_more queue_more head (tail + 1)
    search_more =
        record {
          long = simp length-set s.long;
          begins = cell_kept 0 (omega arith) ∙ s.begins;
          last = number_kept b (omega (arith, s.last)) ∙ s.last;
          passed = omega (arith, s.passed);
          room = rw length-set (omega (arith, room_more, s.room));
          trail = trail_more;
          closed = closed_more;
          waits = λ i le lt. waits_more i le (last_or_before lt);
          rises = λ i j le more lt. rises_more i j le more (last_or_before lt);
        }

-- The queue's next cell

-- once all cells across the links of the cell at head have their numbers
pub search_on :
    {ls : List Link} {b : ℕ} {remaining queue : List ℕ} {head tail : ℕ} →
    Searching ls b remaining queue head tail →
    head < tail →
    ((d : ℕ) → Linked (get_or queue head 0) d ls → Known remaining d) → Searching ls b remaining queue (head + 1) tail
search_on {ls} {b} {remaining} {queue} {head} {tail} s some all =
    record {
      long = s.long;
      begins = s.begins;
      last = s.last;
      passed = omega arith;
      room = s.room;
      trail = s.trail;
      closed = λ c known. ⊎_elim inl (λ w. passes c w (eq-or-lt_of_le w.1)) (s.closed c known);
      waits = λ i le. s.waits i (omega arith);
      rises = λ i j le. s.rises i j (omega arith);
    }
  where
    passes :
        (c : ℕ) (w : Waiting queue head tail c) → (head ≡ w.0) ⊎ (head < w.0) →
        Closed ls remaining c ⊎ Waiting queue (head + 1) tail c
    passes c (i, le, lt, e) (inl f) =
        inl (rw (← e, ← f) (λ d h. (all d h, (s.waits head (le_refl head) some).top d)))
    passes c (i, le, lt, e) (inr more) = inr (i, omega arith, lt, e)

-- The end of the search

module _ {ls : List Link} {b : ℕ} {remaining queue : List ℕ} {tail : ℕ} (s : Searching ls b remaining queue tail tail) where
  all_closed : (c : ℕ) → Known remaining c → Closed ls remaining c
  all_closed c known = ⊎_elim (λ x. x) (λ w. absurd (omega (arith, w.1, w.2))) (s.closed c known)

  -- no trail has fewer cells than the number of its first cell says
  least : {c : ℕ} {cs : List ℕ} → Trail ls b c cs → Known remaining c × (get_or remaining c 0 ≤ length cs)
  least (arrive e) = rw (e, s.last) (le_refl 1, le_refl 1)
  least (step {c = d} h t) =
      let (known, few) = least t in
      let (p, q) = all_closed d known _ (linked_sym h) in
      (p, omega arith)

  unreached : (c : ℕ) → get_or remaining c 0 ≡ 0 → length (trail_of ls c b) ≡ 0
  unreached c e = ap length (trail_of_none ls c b (λ x. omega (arith, (least (chained_trail x).1).0)))

  reached : (c : ℕ) → Known remaining c → get_or remaining c 0 ≡ length (trail_of ls c b)
  reached c known =
      let (cs, t, long) = s.trail c known in
      let p = trail_of_best (trail_chained t) in
      le_antisymm (least p.trail).1 (rw long at (p.fewest cs t))

  -- so each number is that of the best trail
  pub search_ends : Counted ls b remaining
  search_ends = record { counts = number }
    where
      number : (c : ℕ) → get_or remaining c 0 ≡ length (trail_of ls c b)
      number c =
          ⊎_elim (λ e. sym e ∙ sym (unreached c (sym e))) (reached c) (eq-or-lt_of_le (zero-le {n = get_or remaining c 0}))

-- which links there are counts, and not how they are written
pub search_relink :
    {ls ms : List Link} {b : ℕ} {remaining queue : List ℕ} {head tail : ℕ} →
    Relinks ls ms → Relinks ms ls → Searching ls b remaining queue head tail → Searching ms b remaining queue head tail
search_relink f g s =
    record {
      long = s.long;
      begins = s.begins;
      last = s.last;
      passed = s.passed;
      room = s.room;
      trail = λ c known. let (cs, t, long) = s.trail c known in (cs, trail_relink f t, long);
      closed = λ c known. ⊎_map (λ closed d h. closed d (g c d h)) (λ w. w) (s.closed c known);
      waits = s.waits;
      rises = s.rises;
    }
