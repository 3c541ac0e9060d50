-- A book and its log stay in agreement with the history when time moves: both clocks move in the same way, and the history's links
-- stay the same.
--
-- Within the chunk nothing else changes. Into the next chunk: the links of the chunk that ends make the backward forest (ChunkEnds);
-- no link has a slide of the new chunk, so the forward forest is fresh and the counts of the new half are 0, while the other half
-- stays as it was. Further: no link has a slide of the new chunk or of the one before it, and the book has nothing stored.
use Prim.Native.Nat.{ℕ, ◌+◌, ◌/◌, ◌≤◌, ◌<◌}
use mathlib.Core.Path.{◌≡◌, sym, ◌∙◌, ap}
use mathlib.Core.Bool.{Bool, true}
use mathlib.Core.Logic.{inl, inr}
use mathlib.Core.List.{[], map}
use native.Mathlib.Omega.{arith}
use lib.Dec.{eqb}
use borrow.Author.Tests.{eqb-true}
use Rattle.slides.specs.Clock.{not_before_of, slide_of, open_slide_of, chunk_of, moved_to}
use Rattle.slides.proofs.Slides.{moved_b, moved_n, moved_chunk, moved_slide, slide_later, in_range_lem, moved_in_range}
use Rattle.book_state.specs.Arrays.{fresh_arrays, united_all}
use Rattle.book_state.specs.Log.{half_of}
use Rattle.book_time.specs.Time.{cleared, emptied, stayed, backward_of, turned, moved_book}
use Rattle.demands.specs.History.{History, open_slide_in, chunk_in, of_slides, with_time, forward_links, backward_links}
use Rattle.demands.specs.Implementation.{State}
use Rattle.demands.specs.Agrees.{Sensible, Live, SlideKept, Agrees}
use Rattle.demands.proofs.Lists.{fails, falling_later, none_later}
use Rattle.book_time.proofs.Moves.{moved_cases, cleared_there}
use Rattle.demands.proofs.Counts.{cleared_before, cleared_long, cleared_few}
use Rattle.demands.proofs.BySlide.{label_by}
use Rattle.demands.proofs.Forests.{backward_ends_lem}
use Rattle.demands.proofs.Spots.{chunk_later, place_in}
use Rattle.book_state.proofs.Built.{Holds, holds_fresh, holds_all}
use Rattle.demands.proofs.ChunkEnds.{chunk_ends}
use Rattle.demands.proofs.KeptByOpening.{kept_none, fresh_forest, emptied_agrees}

module _ {h : History} {s : State} (a : Agrees h s) (tick : ℕ) (later : not_before_of h.clock tick ≡ true) where
  abbrev then : History
  then = with_time h tick

  -- ---- the history at the later time

  -- moving time changes neither n nor, therefore, the chunk of any slide
  n_then : then.clock.n ≡ h.clock.n
  n_then = moved_n h.clock tick

  chunk_same : (t : ℕ) → t / then.clock.n ≡ t / h.clock.n
  chunk_same = moved_chunk h.clock tick

  later_slide : open_slide_in h ≤ open_slide_in then
  later_slide = rw (moved_slide h.clock tick) (slide_later h.clock tick)

  time_sensible : Sensible then
  time_sensible =
      record {
        range = (in_range_lem then.clock).0 (moved_in_range h.clock tick ((in_range_lem h.clock).1 a.sensible.range));
        held = rw (n_then, moved_b h.clock tick) a.sensible.held;
        falling = falling_later a.sensible.falling later_slide;
        few = a.sensible.few;
      }

  later_chunk : chunk_in h ≤ chunk_in then
  later_chunk = omega (arith, chunk_later h a.sensible later_slide, chunk_same (open_slide_in then))

  -- the book's clock moves as the history's does
  clock_then : moved_to s.book.clock tick ≡ then.clock
  clock_then = ap (λ c. moved_to c tick) a.clock

  -- no link has a slide of a chunk after the one that was open
  none_then : (wanted : ℕ → Bool) → ((t : ℕ) → wanted t ≡ true → chunk_in h < t / h.clock.n) → of_slides wanted h.links ≡ []
  none_then wanted far =
      none_later a.sensible.falling wanted (λ t l. fails _ (λ e. omega (arith, far t e, chunk_later h a.sensible l)))

  -- ---- the same chunk

  module _ (same : chunk_in then ≡ chunk_in h) where
    stay_kept : (t : ℕ) → Live then t → SlideKept then (record { book = stayed s.book (moved_to s.book.clock tick); log = s.log }) t
    unfolding stayed
    stay_kept t live =
        let k : SlideKept h s t = a.kept t (rw (same, n_then) at live) in
        record { count = rw n_then k.count; links = rw n_then k.links }

    stay_agrees : Agrees then (record { book = stayed s.book (moved_to s.book.clock tick); log = s.log })
    unfolding stayed
    stay_agrees =
        record {
          sensible = time_sensible;
          clock = clock_then;
          fitting = a.fitting;
          room = a.room;
          counts_long = a.counts_long;
          counts_few = a.counts_few;
          kept = stay_kept;
          forward_long = a.forward_long;
          backward_long = a.backward_long;
          forward_parents = rw (same, n_then) a.forward_parents;
          forward_sizes = rw (same, n_then) a.forward_sizes;
          backward = rw (same, n_then) a.backward;
        }

  -- ---- the next chunk

  module _ (next : chunk_in then ≡ chunk_in h + 1) where
    abbrev new : State
    new = record { book = turned s.book s.log (moved_to s.book.clock tick); log = s.log }

    half_then : half_of (chunk_of s.book.clock (open_slide_of s.book.clock) + 1) ≡ half_of (chunk_in then)
    half_then = rw (a.clock, next)

    new_counts : new.book.counts ≡ cleared (half_of (chunk_in then)) s.book.counts
    unfolding turned
    new_counts = rw half_then

    new_kept : (t : ℕ) → Live then t → SlideKept then new t
    new_kept t (inl here) =
        kept_none then new t (none_then (λ u. eqb u t) (λ u e. rw (eqb-true u t e) (omega (arith, chunk_same t))))
        (rw (new_counts, here) (cleared_there _ _ s.book.counts (place_in then time_sensible t)))
    new_kept t (inr before) =
        let k : SlideKept h s t = a.kept t (inl (omega (arith, chunk_same t))) in
        record {
          count =
              rw new_counts
              (cleared_before _ s.book.counts a.counts_long _ _ before (place_in then time_sensible t) ∙ rw n_then k.count);
          links = rw n_then k.links;
        }

    -- the backward forest is that of the chunk that ends
    new_backward : backward_of s.book s.log ≡ united_all fresh_arrays (backward_links then)
    unfolding backward_of
    new_backward = ap (united_all fresh_arrays) (rw (a.clock, next, n_then) (chunk_ends a))

    forward_none : forward_links then ≡ []
    forward_none =
        ap (map (label_by (λ t. 0)))
        (none_then _ (λ t e. omega (arith, chunk_same t, eqb-true (t / then.clock.n) (chunk_in then) e)))

    built : Holds (backward_links then) (backward_of s.book s.log)
    built = rw new_backward (holds_all (backward_ends_lem time_sensible))

    turn_agrees : Agrees then new
    unfolding turned
    turn_agrees =
        record {
          sensible = time_sensible;
          clock = clock_then;
          fitting = a.fitting;
          room = a.room;
          counts_long = rw new_counts (cleared_long _ s.book.counts a.counts_long);
          counts_few = rw new_counts (cleared_few _ s.book.counts a.counts_long 256 a.counts_few);
          kept = new_kept;
          forward_long = (holds_fresh.parents_long, holds_fresh.sizes_long);
          backward_long = (built.parents_long, built.sizes_long, built.labels_long);
          forward_parents = ap (λ f. f.parent) (fresh_forest forward_none);
          forward_sizes = ap (λ f. f.size) (fresh_forest forward_none);
          backward = built.holds;
        }

  -- ---- further

  jump_agrees : (chunk_in then ≡ chunk_in h → ⊥) → (chunk_in then ≡ chunk_in h + 1 → ⊥)
      → Agrees then (record { book = emptied (moved_to s.book.clock tick) s.book.fitting; log = s.log })
  jump_agrees same next =
      rw (clock_then, a.fitting)
      (emptied_agrees then (λ wanted far. none_then wanted (λ t e. omega (arith, far t e, later_chunk, chunk_same t))) s.log
      time_sensible a.room)

  -- the chunks that the book compares
  chunk_before_lem : chunk_of s.book.clock (open_slide_of s.book.clock) ≡ chunk_in h
  chunk_before_lem = rw a.clock

  chunk_after_lem : chunk_of s.book.clock (slide_of s.book.clock tick) ≡ chunk_in then
  chunk_after_lem = rw a.clock (ap (λ t. t / h.clock.n) (sym (moved_slide h.clock tick)) ∙ sym (chunk_same (open_slide_in then)))

  pub time_agrees : Agrees then (record { book = moved_book s.book s.log tick; log = s.log })
  time_agrees =
      moved_cases s.book s.log tick (λ b. Agrees then (record { book = b; log = s.log }))
      (λ e. stay_agrees (rw (chunk_after_lem, chunk_before_lem) at e))
      (λ e. turn_agrees (rw (chunk_after_lem, chunk_before_lem) at e))
      (λ e d. jump_agrees (rw (chunk_after_lem, chunk_before_lem) at e) (rw (chunk_after_lem, chunk_before_lem) at d))
