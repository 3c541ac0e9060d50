-- What a crossing that begins with no marks says: the groups that are marked after are those of the cells that the first
-- cell leads across to, so the second cell's mark is the answer. And two answers that the contract allows are equal.
use Prim.Native.Nat.{ℕ, zero, suc, ◌<◌, ◌≤◌}
use mathlib.Core.Path.{◌≡◌, refl, sym}
use mathlib.Core.Bool.{Bool, true, false, not}
use mathlib.Core.List.{List}
use mathlib.Core.Logic.{⊎_elim}
use native.Mathlib.Nat.{pos_of_ne-zero}
use native.Mathlib.Omega.{arith}
use borrow.Author.Tests.{eqb-true, eqb-false, not-true, not-false}
use lib.Dec.{eqb}
use lib.ListN.{length, get_or, replicate}
use Rattle.forest.specs.Arrays.{places}
use Rattle.forest_cross.specs.Across.{Across, here, by_backward, by_forward, JoinedAcross}
use Rattle.forest_cross.specs.Marks.{OneSide, Met, Crossed, MayEnter}

-- no group is marked yet
none_marked : (n group : ℕ) → ◌≡◌ {A = ℕ} (get_or (replicate n 0) group 0) 0
none_marked zero group = refl
none_marked (suc n) zero = refl
none_marked (suc n) (suc group) = none_marked n group

-- a cell's group is that of a root, and has a place
pub group_inside : {keys next : List ℕ} {c group : ℕ} → OneSide keys next → c < places → group ≡ get_or keys c 0 → group < places
group_inside {c = c} s h e = rw e (rw s.long at (s.keyed.inside c (rw s.long h)))

-- so a root may be entered
pub enters_unmarked : (n : ℕ) {keys : List ℕ} {group : ℕ} → group < length keys → get_or keys group 0 ≡ group → MayEnter keys (replicate n 0) group
enters_unmarked n {keys} {group} h e = record { inside = h; root = e; unmarked = none_marked n group }

module _ {own other m o : List ℕ} {one group : ℕ} (n : ℕ) (even : length other ≡ length own) (inside : one < length own) (e : group ≡ get_or own one 0) (q : Crossed own other group (replicate n 0) (replicate n 0) m o) where
  -- a cell that has been met on one side has been met on the other
  to_other : (c : ℕ) → c < length own → Met own m c → Met other o c
  to_other c h k = ⊎_elim (λ z. absurd (omega (arith, none_marked n (get_or own c 0)))) (λ y. y) (q.own_grown.closed c h k)

  to_own : (c : ℕ) → c < length own → Met other o c → Met own m c
  to_own c h k = ⊎_elim (λ z. absurd (omega (arith, none_marked n (get_or other c 0)))) (λ y. y) (q.other_grown.closed c (omega arith) k)

  -- so each cell that the first leads across to has been met on both
  all_met : {c : ℕ} → Across own other one c → Met own m c × Met other o c
  all_met (here same) =
      let k : Met own m one = rw (← e) q.met in
      rw (← same) (k, to_other one inside k)
  all_met (by_backward {c = c} r h same) =
      let k : Met own m c = rw (← same) (all_met r).0 in
      (k, to_other c h k)
  all_met (by_forward {c = c} r h same) =
      let k : Met other o c = rw (← same) (all_met r).1 in
      (to_own c h k, k)

  -- the second cell's mark answers
  pub mark_answers : {c asked : ℕ} → c < length own → asked ≡ get_or own c 0 → JoinedAcross own other one c (not (eqb (get_or m asked 0) 0))
  mark_answers {c} {asked} h g =
      record {
        yes = λ t.
            let k : Met own m c = rw (← g) (pos_of_ne-zero (eqb-false _ _ (not-true _ t))) in
            ⊎_elim (λ z. absurd (omega (arith, none_marked n (get_or own c 0)))) (λ r. r one inside (sym e)) (q.own_grown.reached c h k);
        never = λ t r.
            let k : 1 ≤ get_or m asked 0 = rw g (all_met r).0 in
            omega (arith, eqb-true (get_or m asked 0) 0 (not-false _ t));
      }

-- two answers allowed are equal
pub one_answer : {backward forward : List ℕ} {one other : ℕ} (r s : Bool) → JoinedAcross backward forward one other r → JoinedAcross backward forward one other s → r ≡ s
one_answer true true p q = refl
one_answer true false p q = absurd (q.never refl (p.yes refl))
one_answer false true p q = absurd (p.never refl (q.yes refl))
one_answer false false p q = refl
