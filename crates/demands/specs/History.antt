-- What has happened, told by the calls and the table (RULES 7) and never by a book: the clock, the fitting, each accepted tick, and each
-- accepted link with its slide and the lorry's cells. The window (RULES 2) and the two forests (RULES 3) are defined on it.
--
-- The clock is that of the crate slides. An opening starts it, links and clock calls move it, by the definitions that move a
-- book's clock; so what a tick means is said in that crate alone. The total is told by the ticks too, without a clock (`total_in`), and that
-- the two are one is a demand (Demands, `Time`).
use Rattle.std.specs.Prelude.{ℕ, zero, suc, ◌+◌, ◌/◌, ◌%◌, Bool, cond, ◌&&◌, List, [], ◌∷◌, map, reverse, eqb, leb, ltb}
use Rattle.std.proofs.Math.Option.{Option, none, some}
use Rattle.numbers.specs.Kinds.{Cell, Number, Slide, Tick, Total}
use Rattle.graph.specs.Link.{Link}
use Rattle.graph.specs.Forest.{Labelled}
use Rattle.settings.specs.Settings.{taken_number, fitting_of}
use Rattle.settings.specs.declared.Settings.{Settings}
use Rattle.cells.specs.Cell.{lorry_cell_of}
use Rattle.cells.specs.Touching.{touch}
use Rattle.cells.specs.declared.Fitting.{Fitting}
use Rattle.slides.specs.Counter.{ahead}
use Rattle.slides.specs.Clock.{not_before_of, slide_of, open_slide_of, started, moved_to}
use Rattle.slides.specs.declared.Clock.{Clock}
use Rattle.numbers.specs.Checks.{first_of, unless}
use Rattle.book_state.specs.Numbers.{are_cells_of}

-- the calls that change a book
pub data Call : Type 0 where
  opening : (settings : Settings) → Call
  link : (tick one other : ℕ) → Call
  clock : (tick : ℕ) → Call

-- an accepted link: the slide of its tick, and the lorry's cells (RULES 1.6)
pub record Stored : Type 0 where
  pub slide : ℕ
  pub link : Link

-- since the latest opening that gave 0 (RULES 2.13); the newest link stands at the front
pub record History : Type 0 where
  pub clock : Clock
  pub fitting : Fitting
  -- the ticks of the link and clock calls that gave 0, the newest at the front too
  pub ticks : List Tick
  pub links : List Stored

-- the open slide k (RULES 2.4)
abbrev pub open_slide_in : History → ℕ
open_slide_in h = open_slide_of h.clock

-- the links of the slides that pass a test
unfoldable pub of_slides : (wanted : Slide → Bool) (links : List Stored) → List Stored
of_slides wanted [] = []
of_slides wanted (s ∷ ss) =
    let rest : List Stored = of_slides wanted ss in
    cond (wanted s.slide) (s ∷ rest) rest

unfoldable pub how_many : List Stored → ℕ
how_many [] = 0
how_many (s ∷ ss) = suc (how_many ss)

-- the links of one slide
abbrev pub slide_links : (slide : Slide) (links : List Stored) → List Stored
slide_links slide ss = of_slides (λ t. eqb t slide) ss

-- ---- the table

-- the number of a call once a book is open (RULES 7.1, 7.2): an opening 2 and 6, a link 3, 14 (for cells that do not touch, RULES 2.11),
-- 4 and 5 (for a full slide, RULES 2.9), a clock 4
unfoldable pub number_in : (room : Bool) (history : History) (call : Call) → Number
number_in room h (opening s) = first_of (taken_number s ∷ unless room 6 ∷ [])
number_in room h (link tick one other) =
    first_of
    (unless (are_cells_of one other) 3
    ∷ unless (touch one other) 14
    ∷ unless (not_before_of h.clock tick) 4
    ∷ unless (ltb (how_many (slide_links (slide_of h.clock tick) h.links)) 256) 5
    ∷ [])
number_in room h (clock tick) = unless (not_before_of h.clock tick) 4

-- ---- what each call adds

-- a fresh history (RULES 2.13)
abbrev pub begun : Settings → History
begun s = record { clock = started s; fitting = fitting_of s; ticks = []; links = [] }

-- time moves (RULES 2.6, 2.7)
abbrev pub with_time : (history : History) (tick : Tick) → History
with_time h tick = record { clock = moved_to h.clock tick; fitting = h.fitting; ticks = tick ∷ h.ticks; links = h.links }

-- links arrive in the unit's numbers and are stored in the lorry's (RULES 1.6)
abbrev pub lorry_link : (history : History) (one other : Cell) → Link
lorry_link h one other =
    record { one = lorry_cell_of h.fitting one; other = lorry_cell_of h.fitting other }

-- a link more, in the open slide (RULES 2.6)
abbrev pub with_link : History → Link → History
with_link h l =
    record { clock = h.clock; fitting = h.fitting; ticks = h.ticks; links = record { slide = open_slide_in h; link = l } ∷ h.links }

-- the history after a call that gave 0
unfoldable pub added : History → Call → History
added h (opening s) = begun s
added h (link tick one other) = with_link (with_time h tick) (lorry_link h one other)
added h (clock tick) = with_time h tick

-- by the number: a refused call adds nothing (RULES 7.4)
unfoldable pub added_by_number : (number : Number) (history : History) (call : Call) → History
added_by_number zero h c = added h c
added_by_number (suc k) h c = h

-- before the first opening that gives 0 there is no history
unfoldable pub first_by_number : (number : Number) (settings : Settings) → Option History
first_by_number zero s = some (begun s)
first_by_number (suc k) s = none

unfoldable pub one_more_of : (room : Bool) (history : Option History) (call : Call) → Option History
one_more_of room none (opening s) = first_by_number (first_of (taken_number s ∷ unless room 6 ∷ [])) s
one_more_of room none (link tick one other) = none
one_more_of room none (clock tick) = none
one_more_of room (some h) c = some (added_by_number (number_in room h c) h c)

-- the history of calls, one after the other; room: the log has its 16,384 places
unfoldable pub history_from : (room : Bool) (history : Option History) (calls : List Call) → Option History
history_from room h [] = h
history_from room h (c ∷ cs) = history_from room (one_more_of room h c) cs

abbrev pub history_of : (room : Bool) (calls : List Call) → Option History
history_of room cs = history_from room none cs

-- ---- the total, told by the ticks alone

-- the latest of the accepted ticks, and T0 where there is none yet (RULES 2.3)
unfoldable pub latest_of : (t0 : Tick) (ticks : List Tick) → Tick
latest_of t0 [] = t0
latest_of t0 (t ∷ ts) = t

-- the sum of their differences, each from the tick before it (RULES 2.3)
unfoldable pub sum_of : (t0 : Tick) (ticks : List Tick) → Total
sum_of t0 [] = 0
sum_of t0 (t ∷ ts) = sum_of t0 ts + ahead (latest_of t0 ts) t

abbrev pub latest_in : History → Tick
latest_in h = latest_of h.clock.t0 h.ticks

abbrev pub total_in : History → Total
total_in h = sum_of h.clock.t0 h.ticks

-- ---- the window and the forests

abbrev pub links_of : List Stored → List Link
links_of ss = map (λ s. s.link) ss

-- the window of n slides at the open slide k: slides s with s ≤ k and k < s + n (RULES 2.5)
abbrev pub in_window_of : (n k s : ℕ) → Bool
in_window_of n k s = leb s k && ltb k (s + n)

abbrev pub window_at : (history : History) (k : Slide) → List Stored
window_at h k = of_slides (in_window_of h.clock.n k) h.links

-- the links of the current window (RULES 2.5)
abbrev pub window_of : History → List Link
window_of h = links_of (window_at h (open_slide_in h))

-- the links of slides l to k, the open slide (RULES 5.1)
abbrev pub links_since : (history : History) (l : Slide) → List Link
links_since h l = links_of (of_slides (λ s. leb l s && leb s (open_slide_in h)) h.links)

-- the open chunk q, which holds slides qn to qn + n - 1 (RULES 3.1)
abbrev pub chunk_in : History → ℕ
chunk_in h = open_slide_in h / h.clock.n

-- the place r of the open slide in it (RULES 3.1)
abbrev pub place_in : History → ℕ
place_in h = open_slide_in h % h.clock.n

-- forward forest: the links of chunk q, as stored, in order of arrival, the last at the front (RULES 3.7)
abbrev pub forward_links : History → List Labelled
forward_links h =
    map (λ s. record { label = 0; link = s.link }) (of_slides (λ t. eqb (t / h.clock.n) (chunk_in h)) h.links)

-- backward forest: the links of chunk q - 1, places n - 1 down to 1, in each place the last arrival first, each with its place;
-- place 0 is never scanned (RULES 3.8, 3.9)
abbrev pub backward_links : History → List Labelled
backward_links h =
    reverse
    (map (λ s. record { label = s.slide % h.clock.n; link = s.link })
    (of_slides (λ t. eqb (t / h.clock.n + 1) (chunk_in h) && leb 1 (t % h.clock.n)) h.links))
