-- The laws of the clock, of slides, and of chunks and places, which callers use instead of the definitions' text.
--
-- A slide is chunk × n + place, with the place below n. So two slides that are d chunks apart are d × n apart, but for
-- the difference of their places (`apart`). Hence a slide less than n later lies in the same chunk or in the next one,
-- and in the next one it is less than n later exactly where its place is the lower: the window of the two forests.
use Prim.Native.Nat.{ℕ, zero, suc, ◌+◌, ◌-◌, ◌*◌, ◌/◌, ◌%◌, ◌≤◌, ◌<◌}
use mathlib.Core.Bool.{Bool, true, false, cond, ◌&&◌, ◌||◌, false≢true, and-eq-true_iff}
use mathlib.Core.Logic.{◌⊎◌, inl, inr, ◌↔◌, ⊎_elim}
use mathlib.Core.List.{List}
use mathlib.Core.Path.{◌≡◌, refl, ap}
use lib.Dec.{eqb, leb, ltb}
use borrow.Author.Tests.{lt-ltb, le-leb, ltb-true, leb-true, ne_eqb}
use native.Mathlib.Nat.{le_refl, le_trans, zero-lt-suc, add-zero, zero-div, div-zero, div-le_self, div-mul-le_self, le-div_iff_mul-le, div-lt_iff_lt-mul, div-eq_of_lt-le, div-add-mod', mod-lt, eq-or-lt_of_le, mul-le-mul_right, add-mul}
use native.Mathlib.Omega.{arith}
use Rattle.settings.specs.Settings.{taken_number}
use Rattle.settings.specs.declared.Settings.{Settings}
use Rattle.slides.specs.declared.Clock.{Clock}
use Rattle.slides.specs.Counter.{tick_limit, half_turn, counter_at_of}
use Rattle.slides.specs.Clock.{total_most, time_of, difference_of, not_before_of, total_with_of, slide_of, open_slide_of, first_total_of, last_total_of, has_ticks, ticks_if, ticks_of, chunk_of, place_of, started, moved_to, clock_in_range}
use Rattle.slides.proofs.Counter.{ahead_same, counter_ahead}

-- ---- the clock and its ticks

-- the difference of a tick that is not before the time is below half a turn, and the total has room for it
pub record Taken (clock : Clock) (tick : ℕ) : Type 0 where
  pub near : difference_of clock tick < half_turn
  pub room : clock.total + difference_of clock tick ≤ total_most

pub not_before_lem : (clock : Clock) (tick : ℕ) → (not_before_of clock tick ≡ true) ↔ Taken clock tick
unfolding not_before_of
not_before_lem clock tick = (
  λ e. let w = (and-eq-true_iff _ _).0 e in
      record { near = ltb-true _ _ w.0; room = leb-true _ _ w.1 },
  λ t. rw (lt-ltb _ _ t.near, le-leb _ _ t.room),
)

-- the same tick again is allowed, where the total stands at its largest too
pub not_before_time : (clock : Clock) → clock.total ≤ total_most → not_before_of clock (time_of clock) ≡ true
not_before_time clock most =
    (not_before_lem clock (time_of clock)).1
    (record { near = rw (ahead_same (time_of clock)) (omega arith); room = rw (ahead_same (time_of clock)) (omega (arith, most)) })

-- time starts at T0
pub started_time : (s : Settings) → time_of (started s) ≡ s.t0 % tick_limit
unfolding counter_at_of
started_time s = ap (λ x. x % tick_limit) (add-zero s.t0)

module _ (clock : Clock) (tick : ℕ) where
  pub moved_t0 : (moved_to clock tick).t0 ≡ clock.t0
  unfolding moved_to
  moved_t0 = refl

  pub moved_b : (moved_to clock tick).b ≡ clock.b
  unfolding moved_to
  moved_b = refl

  pub moved_n : (moved_to clock tick).n ≡ clock.n
  unfolding moved_to
  moved_n = refl

  pub moved_chunk : (slide : ℕ) → chunk_of (moved_to clock tick) slide ≡ chunk_of clock slide
  unfolding moved_to
  moved_chunk slide = refl

  pub moved_place : (slide : ℕ) → place_of (moved_to clock tick) slide ≡ place_of clock slide
  unfolding moved_to place_of
  moved_place slide = refl

  -- a tick that is taken adds its difference,
  pub moved_total : not_before_of clock tick ≡ true → (moved_to clock tick).total ≡ clock.total + difference_of clock tick
  unfolding moved_to total_with_of
  moved_total e = rw e

  -- and the counter then stands there
  pub moved_time : not_before_of clock tick ≡ true → time_of (moved_to clock tick) ≡ tick % tick_limit
  moved_time e = rw (moved_total e, moved_t0) (counter_ahead clock.t0 clock.total tick)

  -- a tick before the time moves nothing
  pub moved_before : not_before_of clock tick ≡ false → moved_to clock tick ≡ clock
  unfolding moved_to total_with_of
  moved_before e = rw (e, add-zero)

-- ---- slides

div_mono : (n : ℕ) {x y : ℕ} → x ≤ y → x / n ≤ y / n
div_mono zero h = simp div-zero (le_refl 0)
div_mono (suc n) {x} h = (le-div_iff_mul-le (zero-lt-suc n)).1 (le_trans (div-mul-le_self x (suc n)) h)

-- the open slide is that of the total
pub open_total : (clock : Clock) → open_slide_of clock ≡ clock.total / clock.b
unfolding open_slide_of
open_total clock = refl

-- a book opens in slide 0
pub started_slide : (s : Settings) → open_slide_of (started s) ≡ 0
unfolding open_slide_of
started_slide s = zero-div s.b

module _ (clock : Clock) (tick : ℕ) where
  -- the total never falls,
  pub total_later : clock.total ≤ (moved_to clock tick).total
  unfolding moved_to total_with_of
  total_later = omega arith

  -- so the slide of a tick is the open slide or a later one,
  pub slide_later : open_slide_of clock ≤ slide_of clock tick
  unfolding open_slide_of slide_of total_with_of
  slide_later = div_mono clock.b (omega arith)

  -- its chunk is the open one or a later one,
  pub chunk_later : chunk_of clock (open_slide_of clock) ≤ chunk_of clock (slide_of clock tick)
  chunk_later = div_mono clock.n slide_later

  -- and it is the open slide once time has moved there
  pub moved_slide : open_slide_of (moved_to clock tick) ≡ slide_of clock tick
  unfolding open_slide_of moved_to slide_of
  moved_slide = refl

-- a slide is not above the largest total; so the slide after it, and the first slide of the next chunk, are 64-bit numbers
pub open_fits : (clock : Clock) → clock.total ≤ total_most → open_slide_of clock ≤ total_most
unfolding open_slide_of
open_fits clock = le_trans (div-le_self clock.total clock.b)

-- and no lower limit would do: where B is 1, the slide of the largest total is that total
pub slide_last : (t0 n : ℕ) (pad : List ℕ) → open_slide_of (record { total = total_most; t0 = t0; b = 1; n = n; pad = pad }) ≡ total_most
unfolding open_slide_of
slide_last t0 n pad = refl

-- ---- chunks and places

module _ (clock : Clock) (wide : 1 ≤ clock.n) where
  -- a place is what a slide leaves by n
  pub place_rest : (slide : ℕ) → place_of clock slide ≡ slide % clock.n
  unfolding place_of
  place_rest slide = rw (ne_eqb clock.n 0 (λ e. omega arith))

  pub chunk_place : (slide : ℕ) → chunk_of clock slide * clock.n + place_of clock slide ≡ slide
  chunk_place slide = rw (place_rest slide) (div-add-mod' slide clock.n)

  pub place_below : (slide : ℕ) → place_of clock slide < clock.n
  place_below slide = rw (place_rest slide) (mod-lt slide wide)

  module _ (s k : ℕ) where
    -- how far apart two slides are, by chunks and places
    apart : (d : ℕ) → chunk_of clock s + d ≡ chunk_of clock k → k + place_of clock s ≡ s + d * clock.n + place_of clock k
    apart d e = omega (arith, chunk_place s, chunk_place k, add-mul (chunk_of clock s) d clock.n, ap (λ x. x * clock.n) e)

    -- slides of equal chunk and place are equal
    pub same_slide : chunk_of clock s ≡ chunk_of clock k → place_of clock s ≡ place_of clock k → s ≡ k
    same_slide q p = omega (arith, apart 0 (omega arith))

    -- in one chunk, slides are in the order of their places
    pub place_order : chunk_of clock s ≡ chunk_of clock k → (s ≤ k) ↔ (place_of clock s ≤ place_of clock k)
    place_order q =
        let e : k + place_of clock s ≡ s + 0 * clock.n + place_of clock k = apart 0 (omega arith) in
        (λ h. omega arith, λ h. omega arith)

    -- less than n later and not in the same chunk: in the next
    next_chunk : chunk_of clock s < chunk_of clock k → k < s + clock.n → chunk_of clock s + 1 ≡ chunk_of clock k
    next_chunk later near = ⊎_elim (λ e. omega arith) (λ far. absurd (too_far far)) (eq-or-lt_of_le later)
      where
        too_far : suc (chunk_of clock s) < chunk_of clock k → ⊥
        too_far far =
            let d : ℕ = chunk_of clock k - chunk_of clock s in
            let two : 2 * clock.n ≤ d * clock.n = mul-le-mul_right clock.n (omega arith) in
            omega (arith, apart d (omega arith), place_below s)

    -- in the next chunk: later, and less than n later exactly where the place is lower
    next_later : chunk_of clock s + 1 ≡ chunk_of clock k → s ≤ k
    next_later e = omega (arith, apart 1 e, place_below s)

    next_place : chunk_of clock s + 1 ≡ chunk_of clock k → (k < s + clock.n) ↔ (place_of clock k < place_of clock s)
    next_place e =
        let m : k + place_of clock s ≡ s + 1 * clock.n + place_of clock k = apart 1 e in
        (λ h. omega arith, λ h. omega arith)

    -- a slide s up to the open slide k is in the window exactly when it is in k's chunk, or in the chunk before it at a
    -- place above k's
    pub window_places :
        s ≤ k → (k < s + clock.n) ↔ ((chunk_of clock s ≡ chunk_of clock k) ⊎ ((chunk_of clock s + 1 ≡ chunk_of clock k) × (place_of clock k < place_of clock s)))
    window_places le = (
      λ near. ⊎_elim inl (λ later. let e : chunk_of clock s + 1 ≡ chunk_of clock k = next_chunk later near in inr (e, (next_place e).0 near)) (eq-or-lt_of_le (div_mono clock.n le)),
      ⊎_elim (λ q. omega (arith, apart 0 (omega arith), place_below k)) (λ w. (next_place w.0).1 w.1),
    )

    -- with k = qn + r, the window is places r + 1 to n - 1 of chunk q - 1 and places 0 to r of chunk q
    pub window_slides_lem :
        ((s ≤ k) × (k < s + clock.n))
        ↔ (((chunk_of clock s + 1 ≡ chunk_of clock k) × (place_of clock k < place_of clock s)) ⊎ ((chunk_of clock s ≡ chunk_of clock k) × (place_of clock s ≤ place_of clock k)))
    window_slides_lem = (
      λ w. ⊎_elim (λ q. inr (q, (place_order q).0 w.0)) inl ((window_places w.0).0 w.1),
      ⊎_elim (λ w. (next_later w.0, (next_place w.0).1 w.1)) (λ w. let le : s ≤ k = (place_order w.0).1 w.1 in (le, (window_places le).1 (inl w.0))),
    )

-- ---- the clock's range

pub record InRange (clock : Clock) : Type 0 where
  pub n_least : 1 ≤ clock.n
  pub n_most : clock.n ≤ 16
  pub b_least : 1 ≤ clock.b
  pub total_most_lem : clock.total ≤ total_most

all_true : (a b c d : Bool) → (a && b && c && true && d) ≡ true → (a ≡ true) × (b ≡ true) × (c ≡ true) × (d ≡ true)
all_true true true true d e = (refl, refl, refl, e)
all_true true true false d e = absurd (false≢true e)
all_true true false c d e = absurd (false≢true e)
all_true false b c d e = absurd (false≢true e)

pub in_range_lem : (clock : Clock) → (clock_in_range clock ≡ true) ↔ InRange clock
unfolding clock_in_range
in_range_lem clock = (
  λ e. let w : (leb 1 clock.n ≡ true) × (leb clock.n 16 ≡ true) × (leb 1 clock.b ≡ true) × (leb clock.total total_most ≡ true) = all_true _ _ _ _ e in
      record { n_least = leb-true _ _ w.0; n_most = leb-true _ _ w.1; b_least = leb-true _ _ w.2; total_most_lem = leb-true _ _ w.3 },
  λ r. simp (le-leb _ _ r.n_least, le-leb _ _ r.n_most, le-leb _ _ r.b_least, le-leb _ _ r.total_most_lem),
)

-- a book that opens has its clock in range,
pub started_in_range : (s : Settings) → taken_number s ≡ 0 → clock_in_range (started s) ≡ true
unfolding clock_in_range
started_in_range s e = held (leb 1 s.n && leb s.n 16 && leb 1 s.b) (eqb s.mounting 1 || eqb s.mounting 2) _ e (le-leb 0 total_most (omega arith))
  where
    held : (slides mounting total : Bool) → ◌≡◌ {A = ℕ} (cond (slides && mounting) 0 2) 0 → total ≡ true → (slides && true && total) ≡ true
    held true mounting total e t = t
    held false mounting total e t = absurd (omega arith)

-- and time moves within it
pub moved_in_range : (clock : Clock) (tick : ℕ) → clock_in_range clock ≡ true → clock_in_range (moved_to clock tick) ≡ true
moved_in_range clock tick e = go _ refl
  where
    r : InRange clock
    r = (in_range_lem clock).0 e

    go : (t : Bool) → not_before_of clock tick ≡ t → clock_in_range (moved_to clock tick) ≡ true
    go false q = rw (moved_before clock tick q) e
    go true q =
        (in_range_lem (moved_to clock tick)).1
        (record {
          n_least = rw (moved_n clock tick) r.n_least;
          n_most = rw (moved_n clock tick) r.n_most;
          b_least = rw (moved_b clock tick) r.b_least;
          total_most_lem = rw (moved_total clock tick q) ((not_before_lem clock tick).0 q).room;
        })

-- ---- the ticks of a slide

-- some total reaches a slide exactly when it is not after the slide of the largest total
module _ (b slide : ℕ) (some : 0 < b) where
  pub begins : slide ≤ total_most / b → slide * b ≤ total_most
  begins = (le-div_iff_mul-le some).0

-- where a slide has ticks, a total is of that slide exactly when it is one of its totals. Of a tick nothing of the kind can be said: the counter
-- comes to it again with every turn
module _ (clock : Clock) (slide total : ℕ) (exists : (ticks_of clock slide).exists ≡ true) (most : total ≤ total_most) where
  has : has_ticks clock slide ≡ true
  unfolding ticks_if
  has = go (has_ticks clock slide) exists
    where
      go : (t : Bool) → (ticks_if t clock.t0 (first_total_of clock slide) (last_total_of clock slide)).exists ≡ true → t ≡ true
      go true e = refl
      go false e = absurd (false≢true e)

  some : 0 < clock.b
  some = ltb-true _ _ ((and-eq-true_iff (ltb 0 clock.b) _).0 has).0

  as_ticks : ticks_of clock slide ≡ ticks_if true clock.t0 (first_total_of clock slide) (last_total_of clock slide)
  as_ticks = ap (λ t. ticks_if t clock.t0 (first_total_of clock slide) (last_total_of clock slide)) has

  pub slide_totals : (total / clock.b ≡ slide) ↔ (((ticks_of clock slide).first_total ≤ total) × (total ≤ (ticks_of clock slide).last_total))
  unfolding ticks_if
  slide_totals = rw as_ticks (there, back)
    where
      next : (slide + 1) * clock.b ≡ slide * clock.b + clock.b
      next = omega (arith, add-mul slide 1 clock.b)

      there : total / clock.b ≡ slide → (first_total_of clock slide ≤ total) × (total ≤ last_total_of clock slide)
      there e =
          let low : slide * clock.b ≤ total = (le-div_iff_mul-le some).0 (rw e (le_refl slide)) in
          let high : total < (slide + 1) * clock.b = (div-lt_iff_lt-mul some).0 (rw e (omega arith)) in
          (low, omega (arith, high, next, most))

      back : (first_total_of clock slide ≤ total) × (total ≤ last_total_of clock slide) → total / clock.b ≡ slide
      back w = div-eq_of_lt-le clock.b w.0 (omega (arith, w.1, next, some))
