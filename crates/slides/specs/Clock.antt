-- The clock of a book, and what follows from it: the time, slides, chunks, places (RULES 2 and 3).
--
-- A clock holds the total of the ticks since T0, and not the time: the time is where the counter stands after so many ticks, so no clock
-- has two that disagree. Every definition is total. A slide of 0 ticks and a window of 0 slides, which no book holds, give 0 (RULES 2.15).
use Rattle.std.specs.Prelude.{ℕ, ◌+◌, ◌-◌, ◌*◌, ◌/◌, ◌%◌, min, Bool, true, false, cond, ◌&&◌, eqb, leb, ltb, replicate}
use Rattle.numbers.specs.Kinds.{Chunk, Place, Slide, Tick, Total}
use Rattle.settings.specs.Settings.{held_in_range}
use Rattle.settings.specs.declared.Settings.{Settings}
use Rattle.slides.specs.Counter.{half_turn, ahead, counter_at_of}
use Rattle.slides.specs.declared.Clock.{Clock}
use Rattle.slides.specs.declared.SlideTicks.{SlideTicks}

-- the largest total (RULES 2.3)
abbrev pub total_most : ℕ
total_most = 9223372036854775807

-- the time is where the counter stands: the latest tick that was taken (RULES 2.3)
abbrev pub time_of : Clock → Tick
time_of clock = counter_at_of clock.t0 clock.total

-- the difference of a tick: how far it is ahead of the time (RULES 2.3)
abbrev pub difference_of : (clock : Clock) (tick : Tick) → ℕ
difference_of clock tick = ahead (time_of clock) tick

-- a tick is not before the book's time: its difference is below half a turn, and the total has room for it (RULES 2.3)
unfoldable pub not_before_of : (clock : Clock) (tick : Tick) → Bool
not_before_of clock tick = ltb (difference_of clock tick) half_turn && leb (clock.total + difference_of clock tick) total_most

-- the total that a tick makes: its difference more; a tick that is before the time adds nothing (RULES 2.3)
unfoldable pub total_with_of : (clock : Clock) (tick : Tick) → Total
total_with_of clock tick = clock.total + cond (not_before_of clock tick) (difference_of clock tick) 0

-- slide of a tick = the total that it makes, div B. So it does not follow from the tick alone (RULES 2.4)
unfoldable pub slide_of : (clock : Clock) (tick : Tick) → Slide
slide_of clock tick = total_with_of clock tick / clock.b

-- the open slide k is that of the total (RULES 2.4)
unfoldable pub open_slide_of : Clock → Slide
open_slide_of clock = clock.total / clock.b

-- the total with which a slide begins,
abbrev pub first_total_of : (clock : Clock) (slide : Slide) → Total
first_total_of clock slide = slide * clock.b

-- and the one with which it ends: it has B ticks, and is cut short where totals end (RULES 2.4)
abbrev pub last_total_of : (clock : Clock) (slide : Slide) → Total
last_total_of clock slide = min (first_total_of clock slide + (clock.b - 1)) total_most

-- some total reaches the slide
abbrev pub has_ticks : (clock : Clock) (slide : Slide) → Bool
has_ticks clock slide = ltb 0 clock.b && leb (first_total_of clock slide) total_most

-- the totals of a slide, from the first to the last, and where the counter stands at these two
unfoldable pub ticks_if : (exists : Bool) (t0 : Tick) (first last : Total) → SlideTicks
ticks_if true t0 first last =
    record { first_total = first; last_total = last; first = counter_at_of t0 first; last = counter_at_of t0 last; exists = true }
ticks_if false t0 first last = record { first_total = 0; last_total = 0; first = 0; last = 0; exists = false }

abbrev pub ticks_of : (clock : Clock) (slide : Slide) → SlideTicks
ticks_of clock slide = ticks_if (has_ticks clock slide) clock.t0 (first_total_of clock slide) (last_total_of clock slide)

-- chunk q holds slides qn to qn + n - 1 (RULES 3.1),
abbrev pub chunk_of : (clock : Clock) (slide : Slide) → Chunk
chunk_of clock slide = slide / clock.n

-- at places 0 to n - 1
unfoldable pub place_of : (clock : Clock) (slide : Slide) → Place
place_of clock slide = cond (eqb clock.n 0) 0 (slide % clock.n)

-- time starts at T0 (RULES 2.3)
abbrev pub started : Settings → Clock
started s = record { total = 0; t0 = s.t0; b = s.b; n = s.n; pad = replicate 7 0 }

-- a tick that is not before the time becomes the time; any other tick leaves the clock as it is (RULES 2.3)
unfoldable pub moved_to : (clock : Clock) (tick : Tick) → Clock
moved_to clock tick = record { total = total_with_of clock tick; t0 = clock.t0; b = clock.b; n = clock.n; pad = clock.pad }

-- n and B are such as a book may hold (under either mounting: 1 stands for it), and the total is not above the largest (RULES 7.1, number 1)
unfoldable pub clock_in_range : Clock → Bool
clock_in_range clock = held_in_range clock.n clock.b 1 && leb clock.total total_most
