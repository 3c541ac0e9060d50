-- An opening that gives 0 leaves a book and a log that agree with the history that begins there, whatever they were.
--
-- More is shown, since it also serves where time jumps over a chunk: a book with nothing stored agrees with every history that has
-- no links in the open chunk or in the one before it.
use Prim.Native.Nat.{ℕ, ◌+◌, ◌/◌, ◌%◌, ◌≤◌, zero-le}
use mathlib.Core.Path.{◌≡◌, refl, sym, ◌∙◌, ap}
use mathlib.Core.Bool.{Bool, true, false, cond, and-eq-true_iff}
use mathlib.Core.Logic.{inl, inr}
use mathlib.Core.List.{List, [], ◌++◌, map, reverse}
use native.Mathlib.Omega.{arith}
use lib.Dec.{leb}
use lib.ListN.{get_or, drop, replicate}
use borrow.Author.Tests.{eqb-true}
use Rattle.graph.specs.Forest.{Labelled, forest_of}
use Rattle.settings.specs.Settings.{in_range, taken_number, held_in_range, fitting_of}
use Rattle.settings.specs.declared.Settings.{Settings}
use Rattle.slides.specs.Clock.{started}
use Rattle.slides.proofs.Slides.{in_range_lem, started_in_range}
use Rattle.forest.specs.Arrays.{held}
use Rattle.book_state.specs.Arrays.{step_limit, fresh_arrays}
use Rattle.book_state.specs.Log.{links_at}
use Rattle.book_time.specs.Time.{emptied}
use Rattle.numbers.specs.Checks.{has}
use Rattle.book_state.specs.Numbers.{log_places}
use Rattle.demands.specs.History.{History, chunk_in, of_slides, how_many, slide_links, begun, forward_links, backward_links}
use Rattle.demands.specs.Implementation.{State}
use Rattle.demands.specs.Agrees.{none, Sensible, Live, spot_in_of, SlideKept, Agrees}
use Rattle.numbers.proofs.Checks.{has_front}
use Rattle.book_time.proofs.Moves.{zeros}
use Rattle.demands.proofs.BySlide.{label_by}
use Rattle.book_state.proofs.Built.{holds_fresh}

-- a slide without links is kept where its count is 0
pub kept_none : (h : History) (s : State) (t : ℕ) → slide_links t h.links ≡ [] → get_or s.book.counts (spot_in_of h t) 0 ≡ 0 → SlideKept h s t
unfolding how_many links_at
kept_none h s t e c = record { count = rw e c; links = rw e }

-- fresh lists hold the forest of no links
pub fresh_forest : {xs : List Labelled} → xs ≡ []
    → held fresh_arrays.parents fresh_arrays.sizes fresh_arrays.labels ≡ forest_of step_limit xs
fresh_forest e = holds_fresh.holds ∙ ap (forest_of step_limit) (sym e)

-- no link has a slide of the chunk before the open one or of any later chunk
abbrev pub Bare : History → Type 0
Bare h = (wanted : ℕ → Bool) → ((t : ℕ) → wanted t ≡ true → chunk_in h ≤ t / h.clock.n + 1) → of_slides wanted h.links ≡ []

module _ (h : History) (bare : Bare h) where
  forward_none : forward_links h ≡ []
  forward_none = ap (map (label_by (λ t. 0))) (bare _ (λ t e. omega (arith, eqb-true (t / h.clock.n) (chunk_in h) e)))

  backward_none : backward_links h ≡ []
  backward_none =
      ap (λ ss. reverse (map (label_by (λ t. t % h.clock.n)) ss))
      (bare _ (λ t e. omega (arith, eqb-true (t / h.clock.n + 1) (chunk_in h) ((and-eq-true_iff _ (leb 1 (t % h.clock.n))).0 e).0)))

  slide_none : (t : ℕ) → Live h t → slide_links t h.links ≡ []
  slide_none t live = bare _ (λ u e. rw (eqb-true u t e) (near live))
    where
      near : Live h t → chunk_in h ≤ t / h.clock.n + 1
      near (inl e) = omega arith
      near (inr e) = omega arith

  pub emptied_agrees : (log : List ℕ) → Sensible h → has log_places log ≡ true
      → Agrees h (record { book = emptied h.clock h.fitting; log = log })
  unfolding emptied
  emptied_agrees log sensible room =
      record {
        sensible = sensible;
        clock = refl;
        fitting = refl;
        room = room;
        counts_long = refl;
        counts_few = λ spot. rw (zeros 32 spot) zero-le;
        kept = λ t live. kept_none h _ t (slide_none t live) (zeros 32 (spot_in_of h t));
        forward_long = (holds_fresh.parents_long, holds_fresh.sizes_long);
        backward_long = (holds_fresh.parents_long, holds_fresh.sizes_long, holds_fresh.labels_long);
        forward_parents = ap (λ f. f.parent) (fresh_forest forward_none);
        forward_sizes = ap (λ f. f.size) (fresh_forest forward_none);
        backward = fresh_forest backward_none;
      }

-- settings that opening takes are settings that a book may hold
taken_held : (s : Settings) → taken_number s ≡ 0 → held_in_range s.n s.b s.mounting ≡ true
taken_held s = go (in_range s.n s.b s.mounting)
  where
    go : (t : Bool) → ◌≡◌ {A = ℕ} (cond t 0 2) 0 → t ≡ true
    go true e = refl
    go false e = absurd (omega arith)

begun_sensible : (s : Settings) → taken_number s ≡ 0 → Sensible (begun s)
unfolding how_many of_slides
begun_sensible s e =
    record { range = (in_range_lem (started s)).0 (started_in_range s e); held = taken_held s e; falling = none; few = λ t. zero-le }

pub opening_agrees : (s : Settings) (log : List ℕ) → taken_number s ≡ 0
    → Agrees (begun s) (record { book = emptied (started s) (fitting_of s); log = replicate log_places 0 ++ drop log_places log })
unfolding of_slides
opening_agrees s log e = emptied_agrees (begun s) (λ wanted far. refl) _ (begun_sensible s e) (has_front log_places _)
