-- Demand 1, Refused: for every book and log, a number that is not 0 leaves both as they were, and no call changes a log place from
-- 16,384 on.
--
-- Each call goes by its number: where that is not 0 the definition hands back what it was given. An opening writes the first
-- 16,384 places. A link stands at a spot below 32 after a count below 256, so both its entries are below 16,384.
use Prim.Native.Nat.{ℕ, zero, suc, ◌+◌, ◌<◌}
use mathlib.Core.Path.{◌≡◌, refl, ◌∙◌}
use mathlib.Core.Bool.{false}
use mathlib.Core.List.{List}
use native.Mathlib.Omega.{arith}
use lib.ListN.{set, drop, replicate, length-replicate}
use lib.Seq.{drop_at, drop-set-lt}
use Rattle.settings.specs.declared.Settings.{Settings}
use Rattle.slides.specs.Clock.{slide_of, chunk_of, place_of}
use Rattle.slides.proofs.Slides.{InRange, moved_n, moved_place, moved_slide, place_below}
use Rattle.book_state.specs.declared.Book.{Book}
use Rattle.book_state.specs.Log.{half_of, spot_of, start_of}
use Rattle.book_state.specs.Order.{in_order_of}
use Rattle.book_state.proofs.Checks.{in_order_range}
use Rattle.book_state.specs.Numbers.{log_places}
use Rattle.book_joined.specs.Joined.{joined_number_of, joined_by_number, joined_of}
use Rattle.book.specs.Calls.{Outcome, opening_number_of, opening_by_number, opening_of, link_number_of, link_stored, link_by_number, link_of, clock_number_of, clock_by_number, clock_of}
use Rattle.chain.specs.Chain.{ChainOutcome, chain_number, chain_by_number, chain_of}
use Rattle.graph.specs.Link.{Link}
use Rattle.lamps.specs.declared.LampsAnswer.{LampsAnswer}
use Rattle.window_ends.specs.Ends.{links_in}
use Rattle.lamps.specs.Lamps.{lamps_number_in, lamps_by_number, lamps_of}
use Rattle.demands.specs.History.{Call, opening, link, clock}
use Rattle.demands.specs.Implementation.{ours, State, gives, gives_chain, gives_lamps}
use Rattle.demands.specs.Demands.{Refused}
use Rattle.book.proofs.Taken.{Taken, taken}
use Rattle.book_time.proofs.Moves.{moved_clock, moved_count}

-- ---- a number that is not 0

-- an outcome that leaves the book and the log as they were
abbrev Same : Book → List ℕ → Outcome → Type 0
Same b log o = (o.book ≡ b) × (o.log ≡ log)

by_number : {b : Book} {log : List ℕ} (f : ℕ → Outcome) → (f 0).number ≡ 0 → ((k : ℕ) → Same b log (f (suc k)))
    → (k : ℕ) → ((f k).number ≡ 0 → ⊥) → Same b log (f k)
by_number f done same zero n = absurd (n done)
by_number f done same (suc k) n = same k

kept : (s : State) (c : Call) → ((gives ours s c).number ≡ 0 → ⊥) → Same s.book s.log (gives ours s c)
unfolding gives opening_of opening_by_number link_of link_by_number link_stored clock_of clock_by_number
kept s (opening settings) =
    by_number (λ k. opening_by_number k s.book s.log settings) refl (λ k. (refl, refl)) (opening_number_of settings s.log)
kept s (link tick one other) =
    by_number (λ k. link_by_number k s.book s.log tick one other) refl (λ k. (refl, refl))
    (link_number_of s.book s.log tick one other)
kept s (clock tick) =
    by_number (λ k. clock_by_number k s.book s.log tick) refl (λ k. (refl, refl)) (clock_number_of s.book s.log tick)

unanswered : (b : Book) (one other : ℕ) → ((joined_of b one other).number ≡ 0 → ⊥)
    → joined_of b one other ≡ record { number = (joined_of b one other).number; yes = false; steps = 0 }
unfolding joined_of joined_by_number
unanswered b one other = go (joined_number_of b one other)
  where
    go : (k : ℕ) → ((joined_by_number k b one other).number ≡ 0 → ⊥)
        → joined_by_number k b one other ≡ record { number = (joined_by_number k b one other).number; yes = false; steps = 0 }
    go zero n = absurd (n refl)
    go (suc k) n = refl

unchained : (s : State) (chain : List ℕ) (one other : ℕ) →
    let o : ChainOutcome = gives_chain ours s chain one other in
    (o.answer.number ≡ 0 → ⊥) →
    o ≡ record { answer = record { newest = 0; cells = 0; hold = 0; number = o.answer.number }; chain = chain }
unfolding chain_of chain_by_number
unchained s chain one other = go (chain_number s.book s.log chain one other)
  where
    go : (k : ℕ) →
        let o : ChainOutcome = chain_by_number k s.book.clock s.book.counts s.log chain one other in
        (o.answer.number ≡ 0 → ⊥) →
        o ≡ record { answer = record { newest = 0; cells = 0; hold = 0; number = o.answer.number }; chain = chain }
    go zero n = absurd (n refl)
    go (suc k) n = refl

unlit : (s : State) (mask : List ℕ) →
    let o : LampsAnswer = gives_lamps ours s mask in
    (o.number ≡ 0 → ⊥) → o ≡ record { left_cell = 0; right_cell = 0; left = false; right = false; number = o.number }
unfolding lamps_of lamps_by_number
unlit s mask = go (lamps_number_in (in_order_of s.book) s.log mask) (links_in s.book.clock s.book.counts s.log)
  where
    go : (k : ℕ) (links : List Link) →
        let o : LampsAnswer = lamps_by_number k links mask in
        (o.number ≡ 0 → ⊥) → o ≡ record { left_cell = 0; right_cell = 0; left = false; right = false; number = o.number }
    go zero links n = absurd (n refl)
    go (suc k) links n = refl

-- ---- log places from 16,384 on

opening_beyond : (k : ℕ) (b : Book) (log : List ℕ) (s : Settings) → drop log_places (opening_by_number k b log s).log ≡ drop log_places log
unfolding opening_by_number
opening_beyond zero b log s = drop_at (replicate log_places 0) (drop log_places log) log_places (length-replicate {A = ℕ} log_places 0)
opening_beyond (suc k) b log s = refl

clock_beyond : (k : ℕ) (b : Book) (log : List ℕ) (tick : ℕ) → drop log_places (clock_by_number k b log tick).log ≡ drop log_places log
unfolding clock_by_number
clock_beyond zero b log tick = refl
clock_beyond (suc k) b log tick = refl

-- two neighbouring places below n
pair_beyond : (n : ℕ) (log : List ℕ) (at one other : ℕ) → at + 1 < n → drop n (set (set log at one) (at + 1) other) ≡ drop n log
pair_beyond n log at one other h = drop-set-lt n (set log at one) (at + 1) other h ∙ drop-set-lt n log at one (omega arith)

-- a link's second place, by its spot and the count there
pair_below : (half place count : ℕ) → place < 16 → count < 256 → start_of (spot_of (half_of half) place) + (count + count) + 1 < log_places
pair_below half place count p c = omega arith

link_beyond : (k : ℕ) (b : Book) (log : List ℕ) (tick one other : ℕ) → link_number_of b log tick one other ≡ k
    → drop log_places (link_by_number k b log tick one other).log ≡ drop log_places log
unfolding link_by_number link_stored
link_beyond zero b log tick one other e =
    let t : Taken b log tick one other = taken b log tick one other e in
    let r : InRange b.clock = in_order_range b t.in_order in
    let slide : ℕ = slide_of b.clock tick in
    let p : place_of b.clock slide < 16 = omega (arith, place_below b.clock r.n_least slide) in
    rw (moved_clock b log tick, moved_slide b.clock tick, moved_place, moved_n)
    (pair_beyond log_places log _ _ _ (pair_below (chunk_of b.clock slide) _ _ p (rw (moved_count b log tick p) t.few)))
link_beyond (suc k) b log tick one other e = refl

beyond : (s : State) (c : Call) → drop log_places (gives ours s c).log ≡ drop log_places s.log
unfolding gives opening_of link_of clock_of
beyond s (opening settings) = opening_beyond _ _ _ _
beyond s (link tick one other) = link_beyond _ _ _ _ _ _ refl
beyond s (clock tick) = clock_beyond _ _ _ _

pub refused : Refused ours
refused = record { kept = kept; beyond = beyond; unanswered = unanswered; unchained = unchained; unlit = unlit }
