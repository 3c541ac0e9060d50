-- The demand on the time: what a tick means, by the ticks that were accepted since the opening.
--
-- A clock adds the difference of each tick that it takes, from where the counter stands. Where the counter stands is the latest tick that
-- was accepted, but for whole turns (`Timed`): so the clock's total is the sum of the differences from tick to tick. Number 4 is the
-- definition's, of that total and that tick. Ticks that never fall have their plain differences, and these add up to the latest less T0.
-- A total to come is reached tick by tick (`reach`): each is 1 ahead of the one before.
use Prim.Native.Nat.{ℕ, zero, suc, ◌+◌, ◌-◌, ◌*◌, ◌/◌, ◌%◌, ◌≤◌, ◌<◌}
use mathlib.Core.Path.{◌≡◌, refl, sym, ap, ap₂, ◌∙◌}
use mathlib.Core.Bool.{Bool, true, false, true≢false}
use mathlib.Core.List.{List, [], ◌∷◌, map}
use mathlib.Core.Logic.Iff
use mathlib.Core.Logic.{inl, inr, ◌↔◌}
use mathlib.Core.Option.{none as nothing, some}
use native.Mathlib.Omega.{arith}
use native.Mathlib.Nat.{le_refl, add-zero, sub_self, mod-lt, mod-mod, mul-div_cancel, div-lt_iff_lt-mul, mul-le-mul_right}
use native.Mathlib.Decide.{dec_lt, dec_le}
use lib.Dec.{ltb}
use lib.ListN.{get_or}
use Rattle.numbers.specs.Checks.{first_of, unless}
use Rattle.settings.specs.declared.Settings.{Settings}
use Rattle.cells.specs.Touching.{touch}
use Rattle.slides.specs.Counter.{tick_limit, half_turn, ahead, counter_at_of}
use Rattle.slides.specs.Clock.{total_most, time_of, difference_of, not_before_of, total_with_of, slide_of, open_slide_of, moved_to}
use Rattle.slides.specs.declared.Clock.{Clock}
use Rattle.slides.proofs.Counter.{ahead_turns, ahead_plain, ahead_is}
use Rattle.slides.proofs.Slides.{InRange, Taken, not_before_lem, started_time, open_total, moved_t0, moved_b, moved_total, moved_time, total_later, open_fits}
use Rattle.book_state.specs.Numbers.{are_cells_of}
use Rattle.demands.specs.History.{
  Call,
  opening,
  link,
  clock,
  History,
  open_slide_in,
  how_many,
  slide_links,
  number_in,
  begun,
  with_time,
  added,
  added_by_number,
  first_by_number,
  one_more_of,
  history_from,
  latest_of,
  sum_of,
  latest_in,
  total_in,
}
use Rattle.demands.specs.Implementation.{ours, State, gives, after}
use Rattle.demands.specs.Demands.{room_in, HasHistory, TooEarly, Rising, none, next, NotAlone, ByClocks, Time}
use Rattle.demands.specs.Agrees.{Agrees}
use Rattle.numbers.proofs.Checks.{first_passed, unless_passed, never_asked, never_last, checked, asked_here, asked_later}
use Rattle.demands.proofs.Histories.{every_history}
use Rattle.demands.proofs.NumbersAgree.{number_agrees}
use Rattle.demands.proofs.Keeps.{keeps, step}

-- ---- the total is the sum

record Timed (h : History) : Type 0 where
  pub total : h.clock.total ≡ total_in h
  pub time : time_of h.clock ≡ latest_in h % tick_limit

begun_timed : (s : Settings) → Timed (begun s)
unfolding sum_of latest_of
begun_timed s = record { total = refl; time = started_time s }

-- the difference from the book's time is that from the latest tick
difference_is : {h : History} → Timed h → (tick : ℕ) → difference_of h.clock tick ≡ ahead (latest_in h) tick
difference_is {h} t tick = rw t.time (ahead_turns (latest_in h) tick)

moved_timed : (h : History) (tick : ℕ) → not_before_of h.clock tick ≡ true → Timed h → Timed (with_time h tick)
unfolding sum_of latest_of moved_to
moved_timed h tick later t =
    record {
      total = moved_total h.clock tick later ∙ rw (moved_t0 h.clock tick) (ap₂ ◌+◌ t.total (difference_is t tick));
      time = moved_time h.clock tick later;
    }

-- a link or a clock call that gives 0 has a tick that is not before the time
link_later : (room : Bool) (h : History) (tick one other : ℕ) → number_in room h (link tick one other) ≡ 0 → not_before_of h.clock tick ≡ true
unfolding number_in
link_later room h tick one other e =
    unless_passed _ 3 (first_passed _ _ (first_passed _ _ (first_passed _ _ e).1).1).0

clock_later : (room : Bool) (h : History) (tick : ℕ) → number_in room h (clock tick) ≡ 0 → not_before_of h.clock tick ≡ true
unfolding number_in
clock_later room h tick e = unless_passed _ 3 e

added_timed : (room : Bool) (h : History) (c : Call) → number_in room h c ≡ 0 → Timed h → Timed (added h c)
unfolding added
added_timed room h (opening s) e t = begun_timed s
added_timed room h (link tick one other) e t =
    let m = moved_timed h tick (link_later room h tick one other e) t in record { total = m.total; time = m.time }
added_timed room h (clock tick) e t = moved_timed h tick (clock_later room h tick e) t

timed : (s : State) (cs : List Call) (h : History) → HasHistory s cs h → Timed h
timed s cs h told = every_history Timed (room_in s) begun_timed (added_timed (room_in s)) cs h told

-- ---- number 4

module _ {h : History} (t : Timed h) (tick : ℕ) where
  -- a tick that is taken is not too early
  apart : Taken h.clock tick → TooEarly h tick → ⊥
  apart taken (inl far) = omega (arith, taken.near, difference_is t tick, far)
  apart taken (inr over) = omega (arith, taken.room, difference_is t tick, t.total, over)

  -- so it is refused exactly when it is
  too_early : (not_before_of h.clock tick ≡ false) ↔ TooEarly h tick
  too_early = (there, λ early. back early _ refl)
    where
      there : not_before_of h.clock tick ≡ false → TooEarly h tick
      there e = go (dec_lt (ahead (latest_in h) tick) half_turn) (dec_le (total_in h + ahead (latest_in h) tick) total_most)
        where
          go : Dec (ahead (latest_in h) tick < half_turn) → Dec (total_in h + ahead (latest_in h) tick ≤ total_most) → TooEarly h tick
          go (no far) room = inl (omega (arith, far))
          go (yes near) (no over) = inr (omega (arith, over))
          go (yes near) (yes room) =
              let taken = (not_before_lem h.clock tick).1 (record { near = rw (difference_is t tick) near; room = rw (difference_is t tick, t.total) room }) in
              absurd (true≢false (sym taken ∙ e))

      back : TooEarly h tick → (later : Bool) → not_before_of h.clock tick ≡ later → later ≡ false
      back early true e = absurd (apart ((not_before_lem h.clock tick).0 e) early)
      back early false e = refl

  clock_told : (room : Bool) → (number_in room h (clock tick) ≡ 4) ↔ TooEarly h tick
  unfolding number_in
  clock_told room = Iff.trans (checked 4 refl (not_before_of h.clock tick)) too_early

  -- by the checks of a link
  four_told : (room : Bool) (one other : ℕ) →
      (number_in room h (link tick one other) ≡ 4) ↔ ((are_cells_of one other ≡ true) × ((touch one other ≡ true) × (not_before_of h.clock tick ≡ false)))
  unfolding number_in
  four_told room one other =
      asked_later 4 refl (are_cells_of one other) 2 _ refl
      (asked_later 4 refl (touch one other) 13 _ refl
      (asked_here 4 refl (not_before_of h.clock tick) _
      (never_asked 4 refl (ltb (how_many (slide_links (slide_of h.clock tick) h.links)) 256) 5 _ refl (never_last 4 refl))))

  link_told : (room : Bool) (one other : ℕ) → (number_in room h (link tick one other) ≡ 4) ↔ ((are_cells_of one other ≡ true) × (touch one other ≡ true) × TooEarly h tick)
  link_told room one other =
      let four = four_told room one other in
      (λ e. let w = four.0 e in (w.0, w.1.0, too_early.0 w.1.1), λ w. four.1 (w.0, (w.1, too_early.1 w.2)))

-- ---- the total never falls

module _ (h : History) (tick : ℕ) where
  clock_rises : (k : ℕ) → h.clock.total ≤ (added_by_number k h (clock tick)).clock.total
  unfolding added_by_number added
  clock_rises zero = total_later h.clock tick
  clock_rises (suc k) = le_refl h.clock.total

  link_rises : (one other k : ℕ) → h.clock.total ≤ (added_by_number k h (link tick one other)).clock.total
  unfolding added_by_number added
  link_rises one other zero = total_later h.clock tick
  link_rises one other (suc k) = le_refl h.clock.total

rises : {h : History} {s : State} → Agrees h s → (tick one other : ℕ) →
    (s.book.clock.total ≤ (gives ours s (clock tick)).book.clock.total) × (s.book.clock.total ≤ (gives ours s (link tick one other)).book.clock.total)
rises {h} {s} a tick one other = (
  omega (arith, ap (λ c. c.total) a.clock, ap (λ c. c.total) (step a (clock tick)).clock, clock_rises h tick (number_in (room_in s) h (clock tick))),
  omega (arith, ap (λ c. c.total) a.clock, ap (λ c. c.total) (step a (link tick one other)).clock, link_rises h tick one other (number_in (room_in s) h (link tick one other))),
)

-- ---- slides

slide_is : {h : History} → Timed h → open_slide_in h ≡ total_in h / h.clock.b
slide_is {h} t = open_total h.clock ∙ ap (λ x. x / h.clock.b) t.total

-- ticks that never fall
rising_from : {t0 : ℕ} {ts : List ℕ} → Rising t0 ts → t0 ≤ latest_of t0 ts
unfolding latest_of
rising_from {t0} none = le_refl t0
rising_from (next le r) = omega (arith, rising_from r, le)

rising_sum : {t0 : ℕ} {ts : List ℕ} → Rising t0 ts → latest_of t0 ts < tick_limit → sum_of t0 ts ≡ latest_of t0 ts - t0
unfolding latest_of sum_of
rising_sum {t0} none fits = sym (sub_self t0)
rising_sum {t0} (next {t} {ts} le r) fits =
    let before : sum_of t0 ts ≡ latest_of t0 ts - t0 = rising_sum r (omega (arith, le, fits)) in
    let more : ahead (latest_of t0 ts) t ≡ t - latest_of t0 ts = ahead_plain (latest_of t0 ts) t le (omega (arith, fits)) in
    omega (arith, before, more, le, rising_from r)

plain : {h : History} → Timed h → Rising h.clock.t0 h.ticks → latest_in h < tick_limit → open_slide_in h ≡ (latest_in h - h.clock.t0) / h.clock.b
plain {h} t rising fits = slide_is t ∙ ap (λ x. x / h.clock.b) (rising_sum rising fits)

-- tick 5, in the first turn of the counter and in the second
abbrev settings : Settings
settings = record { t0 = 0; b = 10; n = 3; mounting = 1 }

abbrev first_turn : History
first_turn = with_time (begun settings) 5

abbrev second_turn : History
second_turn = with_time (with_time (with_time (begun settings) 2147483647) 4294967294) 5

told_first : history_from true nothing (opening settings ∷ map clock (5 ∷ [])) ≡ some first_turn
unfolding history_from one_more_of first_by_number first_of number_in added_by_number added not_before_of ahead counter_at_of moved_to total_with_of
told_first = refl

told_second : history_from true nothing (opening settings ∷ map clock (2147483647 ∷ 4294967294 ∷ 5 ∷ [])) ≡ some second_turn
unfolding history_from one_more_of first_by_number first_of number_in added_by_number added not_before_of ahead counter_at_of moved_to total_with_of
told_second = refl

slide_first : open_slide_in first_turn ≡ 0
unfolding open_slide_of not_before_of ahead counter_at_of moved_to total_with_of
slide_first = refl

slide_second : open_slide_in second_turn ≡ 429496730
unfolding open_slide_of not_before_of ahead counter_at_of moved_to total_with_of
slide_second = refl

not_alone : (s : State) → room_in s ≡ true → NotAlone ours s
not_alone s room =
    record {
      first_turn = ap open_slide_of (keeps s _ first_turn (rw room told_first)).clock ∙ slide_first;
      second_turn = ap open_slide_of (keeps s _ second_turn (rw room told_second)).clock ∙ slide_second;
    }

-- ---- every total to come is reached

-- so much more of a total, and the same B
record Further (h : History) (more : ℕ) (later : History) : Type 0 where
  pub total : later.clock.total ≡ h.clock.total + more
  pub same_b : later.clock.b ≡ h.clock.b

-- the tick after the time is 1 ahead
abbrev tick_next : Clock → ℕ
tick_next c = (time_of c + 1) % tick_limit

one_ahead : (c : Clock) → difference_of c (tick_next c) ≡ 1
one_ahead c = ahead_is (time_of c) (tick_next c) 1 (omega arith) (sym (mod-mod (time_of c + 1) tick_limit))

module _ (room : Bool) (h : History) (most : h.clock.total + 1 ≤ total_most) where
  abbrev tick : ℕ
  tick = tick_next h.clock

  next_taken : not_before_of h.clock tick ≡ true
  next_taken =
      (not_before_lem h.clock tick).1 (record { near = rw (one_ahead h.clock) (omega arith); room = rw (one_ahead h.clock) most })

  next_total : (with_time h tick).clock.total ≡ h.clock.total + 1
  next_total = moved_total h.clock tick next_taken ∙ ap (λ x. h.clock.total + x) (one_ahead h.clock)

  next_told : (ticks : List ℕ) → history_from room (some h) (map clock (tick ∷ ticks)) ≡ history_from room (some (with_time h tick)) (map clock ticks)
  unfolding history_from one_more_of number_in added_by_number added
  next_told ticks = ap (λ later. history_from room (some (added_by_number (unless later 4) h (clock tick))) (map clock ticks)) next_taken

  further : {more : ℕ} → ByClocks room (with_time h tick) (Further (with_time h tick) more) → ByClocks room h (Further h (suc more))
  further {more} r =
      record {
        ticks = tick ∷ r.ticks;
        fit = fit;
        later = r.later;
        told = next_told r.ticks ∙ r.told;
        holds = record { total = omega (arith, r.holds.total, next_total); same_b = r.holds.same_b ∙ moved_b h.clock tick };
      }
    where
      fit : (i : ℕ) → get_or (tick ∷ r.ticks) i 0 < tick_limit
      fit zero = mod-lt (time_of h.clock + 1) (omega arith)
      fit (suc i) = r.fit i

reach : (room : Bool) (more : ℕ) (h : History) → h.clock.total + more ≤ total_most → ByClocks room h (Further h more)
unfolding history_from
reach room zero h most =
    record {
      ticks = [];
      fit = λ i. omega arith;
      later = h;
      told = refl;
      holds = record { total = sym (add-zero h.clock.total); same_b = refl };
    }
reach room (suc more) h most =
    let near : h.clock.total + 1 ≤ total_most = omega (arith, most) in
    further room h near (reach room more (with_time h (tick_next h.clock)) (omega (arith, next_total room h near, most)))

-- and so every slide that some total reaches: by the total with which it begins
module _ (room : Bool) (h : History) (range : InRange h.clock) (c : ℕ) (most : (open_slide_in h + suc c) * h.clock.b ≤ total_most) where
  abbrev first : ℕ
  first = (open_slide_in h + suc c) * h.clock.b

  below : h.clock.total ≤ first
  below =
      let before : h.clock.total < (open_slide_in h + 1) * h.clock.b = (div-lt_iff_lt-mul range.b_least).0 (omega (arith, open_total h.clock)) in
      let wide : (open_slide_in h + 1) * h.clock.b ≤ first = mul-le-mul_right h.clock.b (omega arith) in
      omega (arith, before, wide)

  slide_reached : ByClocks room h λ later. open_slide_in later ≡ open_slide_in h + suc c
  slide_reached =
      let r = reach room (first - h.clock.total) h (omega (arith, below, most)) in
      let there : r.later.clock.total ≡ first = omega (arith, r.holds.total, below) in
      record {
        ticks = r.ticks;
        fit = r.fit;
        later = r.later;
        told = r.told;
        holds = open_total r.later.clock ∙ rw (r.holds.same_b, there) (mul-div_cancel (open_slide_in h + suc c) range.b_least);
      }

reached : (room : Bool) (h : History) → InRange h.clock → (c : ℕ) → (open_slide_in h + c) * h.clock.b ≤ total_most
    → ByClocks room h λ later. open_slide_in later ≡ open_slide_in h + c
unfolding history_from
reached room h range zero most =
    record { ticks = []; fit = λ i. omega arith; later = h; told = refl; holds = sym (add-zero (open_slide_in h)) }
reached room h range (suc c) most = slide_reached room h range c most

-- ---- the demand

pub time : Time ours
time =
    record {
      total = λ s cs h told. ap (λ c. c.total) (keeps s cs h told).clock ∙ (timed s cs h told).total;
      time = λ s cs h told. ap time_of (keeps s cs h told).clock ∙ (timed s cs h told).time;
      rises = λ s cs h told. rises (keeps s cs h told);
      clock_four = λ s cs h told tick. rw (number_agrees (keeps s cs h told) (clock tick)) (clock_told (timed s cs h told) tick _);
      link_four = λ s cs h told tick one other. rw (number_agrees (keeps s cs h told) (link tick one other)) (link_told (timed s cs h told) tick _ one other);
      slide = λ s cs h told. slide_is (timed s cs h told);
      not_alone = not_alone;
      plain = λ s cs h told. plain (timed s cs h told);
      numbered = λ s cs h told. omega (arith, open_fits h.clock (keeps s cs h told).sensible.range.total_most_lem);
      reached = λ s cs h told. reached (room_in (after ours s cs)) h (keeps s cs h told).sensible.range;
    }
