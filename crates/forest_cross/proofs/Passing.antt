-- A crossing from one group, said of its own side and the other side, for both functions that cross.
--
-- What a call does with the marks, after what was done before it, is one spread again (`grown_on`). In the loop over the
-- cells of the group, those before `cell` in the list have been passed, that is, met on the other side (`Passing`, `Walked`). A turn that calls
-- nothing is a turn like the others: where the shared group has its mark, nothing done is a crossing (`crossed_already`).
-- Where the loop ends, the whole group has been passed, so the group's mark and the loop are the crossing (`passed_all`).
use Prim.Native.Nat.{ℕ, ◌<◌, ◌≤◌, ◌+◌}
use mathlib.Core.Path.{◌≡◌, refl, sym, ◌∙◌}
use mathlib.Core.List.{List}
use mathlib.Core.Logic.{◌⊎◌, inl, inr, ⊎_elim}
use native.Mathlib.Decide.{ℕ_discrete}
use native.Mathlib.Nat.{le_refl, pos_of_ne-zero}
use native.Mathlib.Omega.{arith}
use lib.ListN.{length, get_or, set, length-set}
use lib.Seq.{get_or-set_same, get_or-set_other}
use Rattle.forest.specs.Arrays.{places}
use Rattle.forest_cross.specs.Across.{Across, here, by_backward, by_forward}
use Rattle.forest_cross.specs.Marks.{OneSide, MayEnter, Marked, Met, Reached, MarksGrown, Crossed}
use Rattle.forest_cross.proofs.Walk.{Walked, walk_begins, walk_on, walk_ends, walked_map}
use Rattle.forest_cross.proofs.Unmarked.{unmarked, unmarked_kept, unmarked_less}

-- a crossing that goes on from b, with the sides exchanged
across_on : {own other : List ℕ} {a b c : ℕ} → length other ≡ length own → Across own other a b → Across other own b c → Across own other a c
across_on even r (here e) = rw (← e) r
across_on even r (by_backward s h e) = by_forward (across_on even r s) (rw even at h) e
across_on even r (by_forward s h e) = by_backward (across_on even r s) (rw even at h) e

-- nothing done
grown_none : {R : ℕ → Type 0} {keys others marks others_after : List ℕ} → MarksGrown R keys others marks marks others_after
grown_none = record { long = refl; kept = λ g m. m; reached = λ c h m. inl m; closed = λ c h m. inl m }

-- one spread after another
grown_on : {R S : ℕ → Type 0} {keys others m₀ m₁ m₂ o₁ o₂ : List ℕ} → ((c : ℕ) → S c → R c) → ((g : ℕ) → Marked o₁ g → Marked o₂ g) → MarksGrown R keys others m₀ m₁ o₁ → MarksGrown S keys others m₁ m₂ o₂ → MarksGrown R keys others m₀ m₂ o₂
grown_on on kept p q =
    record {
      long = q.long ∙ p.long;
      kept = λ g m. q.kept g (p.kept g m);
      reached = λ c h m. ⊎_elim (p.reached c h) (λ s. inr (on c s)) (q.reached c h m);
      closed = λ c h m. ⊎_elim (λ m₁. ⊎_elim inl (λ o. inr (kept _ o)) (p.closed c h m₁)) inr (q.closed c h m);
    }

-- where the group has its mark, nothing done is a crossing
pub crossed_already : {own other m o : List ℕ} {group : ℕ} → (get_or m group 0 ≡ 0 → ⊥) → Crossed own other group m o m o
crossed_already ne = record { met = pos_of_ne-zero ne; own_grown = grown_none; other_grown = grown_none }

-- both sides of a crossing, with a mark for each cell
pub record BothSides (own next other other_next m o : List ℕ) : Type 0 where
  pub own_side : OneSide own next
  pub other_side : OneSide other other_next
  pub own_marks : length m ≡ places
  pub other_marks : length o ≡ places

even : {own next other other_next m o : List ℕ} → BothSides own next other other_next m o → length other ≡ length own
even s = s.other_side.long ∙ sym s.own_side.long

-- the sides with other marks, as many
remarked : {own next other other_next m o m₁ o₁ : List ℕ} → BothSides own next other other_next m o → length m₁ ≡ length m → length o₁ ≡ length o → BothSides own next other other_next m₁ o₁
remarked s e f = record { own_side = s.own_side; other_side = s.other_side; own_marks = e ∙ s.own_marks; other_marks = f ∙ s.other_marks }

module _ (marks : List ℕ) (group : ℕ) where
  -- one mark more loses none
  marks_kept : group < length marks → (g : ℕ) → Marked marks g → Dec (g ≡ group) → Marked (set marks group 1) g
  marks_kept h g m (yes e) = rw (e, get_or-set_same marks group 1 0 h) (le_refl 1)
  marks_kept h g m (no ne) = rw (get_or-set_other marks group g 1 0 ne) m

  -- and no other is new
  marks_new : (g : ℕ) → Marked (set marks group 1) g → Dec (g ≡ group) → Marked marks g ⊎ (g ≡ group)
  marks_new g m (yes e) = inr e
  marks_new g m (no ne) = inl (rw (get_or-set_other marks group g 1 0 ne) at m)

-- in the loop over the cells of the group, which began with the marks m₀ and o₀; t groups were unmarked before that
pub record Passing (t : ℕ) (own next other other_next : List ℕ) (group : ℕ) (m₀ o₀ m o : List ℕ) (cell : ℕ) : Type 0 where
  pub sides : BothSides own next other other_next m o
  pub fewer : unmarked m + unmarked o < t
  pub inside : group < length own
  pub root : get_or own group 0 ≡ group
  pub walked : Walked own group (Met other o) cell
  pub own_grown : MarksGrown (Reached own other group) own other m₀ m o
  pub other_grown : MarksGrown (Reached own other group) other own o₀ o m

module _ {t : ℕ} {own next other other_next : List ℕ} {group : ℕ} where
  -- the group is marked, and the loop begins at its root
  pub passing_begins : {m o : List ℕ} {cell : ℕ} → unmarked m + unmarked o ≡ t → BothSides own next other other_next m o → MayEnter own m group → cell ≡ group → Passing t own next other other_next group (set m group 1) o (set m group 1) o cell
  passing_begins {m} {o} {cell} e s b a =
      let less = unmarked_less m group (omega (arith, s.own_marks, s.own_side.long, b.inside)) b.unmarked in
      record {
        sides = remarked s (simp length-set) refl;
        fewer = omega arith;
        inside = b.inside;
        root = b.root;
        walked = walk_begins b.root a;
        own_grown = grown_none;
        other_grown = grown_none;
      }

  module _ {m₀ o₀ m o : List ℕ} {cell : ℕ} (p : Passing t own next other other_next group m₀ o₀ m o cell) where
    module _ (h : cell < places) where
      own_cell : cell < length own
      own_cell = rw p.sides.own_side.long h

      module _ {shared : ℕ} {m₁ o₁ : List ℕ} (e : shared ≡ get_or other cell 0) (q : Crossed other own shared o m o₁ m₁) where
        reached_on : (c : ℕ) → Reached other own shared c → Reached own other group c
        reached_on c r a ha g =
            across_on (even p.sides) (by_backward (here refl) own_cell (g ∙ sym (p.walked.has own_cell))) (r cell (omega (arith, p.sides.other_side.long)) (sym e))

        -- the shared group has been crossed from: on to the next cell
        pub passing_turns : {cell' : ℕ} → cell' ≡ get_or next cell 0 → Passing t own next other other_next group m₀ o₀ m₁ o₁ cell'
        passing_turns a =
            let mine = unmarked_kept m m₁ q.other_grown.long q.other_grown.kept in
            let theirs = unmarked_kept o o₁ q.own_grown.long q.own_grown.kept in
            let met : Met other o₁ cell = rw (← e) q.met in
            record {
              sides = remarked p.sides q.other_grown.long q.own_grown.long;
              fewer = omega (arith, p.fewer);
              inside = p.inside;
              root = p.root;
              walked = walk_on p.sides.own_side.listed p.inside p.root own_cell (p.walked.has own_cell) a (walked_map (λ c. q.own_grown.kept _) p.walked) met;
              own_grown = grown_on reached_on q.own_grown.kept p.own_grown q.other_grown;
              other_grown = grown_on reached_on q.other_grown.kept p.other_grown q.own_grown;
            }

  -- the loop ends
  pub passed_all : {marks o₀ m o : List ℕ} {cell : ℕ} → Passing t own next other other_next group (set marks group 1) o₀ m o cell → places ≤ cell → Crossed own other group marks o₀ m o
  passed_all {marks} {o₀} {m} {o} {cell} p end =
      let s = p.own_grown in
      let long : length m ≡ length marks = s.long ∙ simp length-set in
      let h : group < length marks = omega (arith, p.sides.own_marks, p.sides.own_side.long, p.inside) in
      let new : (c : ℕ) → Met own (set marks group 1) c → Met own marks c ⊎ (get_or own c 0 ≡ group) = λ c k. marks_new marks group _ k (ℕ_discrete (get_or own c 0) group) in
      record {
        met = s.kept group (rw (get_or-set_same marks group 1 0 h) (le_refl 1));
        own_grown =
            record {
              long = long;
              kept = λ g k. s.kept g (marks_kept marks group h g k (ℕ_discrete g group));
              reached = λ c hc k. ⊎_elim (λ b. ⊎_elim inl (λ e. inr (λ a ha g. by_backward (here refl) hc (g ∙ sym e))) (new c b)) inr (s.reached c hc k);
              closed = λ c hc k. ⊎_elim (λ b. ⊎_elim inl (λ e. inr (walk_ends p.walked p.inside (omega (arith, p.sides.own_side.long)) c hc e)) (new c b)) inr (s.closed c hc k);
            };
        other_grown = p.other_grown;
      }
