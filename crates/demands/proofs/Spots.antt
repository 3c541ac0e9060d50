-- The spot of a slide in the counts and in the log: it is below 32, it is the one that the book's clock gives, and no two slides of
-- the open chunk and the one before it share one, since the two chunks have different halves.
use Prim.Native.Nat.{ℕ, ◌+◌, ◌*◌, ◌/◌, ◌%◌, ◌≤◌, ◌<◌}
use mathlib.Core.Path.{◌≡◌, sym, ◌∙◌, ap₂}
use mathlib.Core.Logic.{inl, inr}
use native.Mathlib.Omega.{arith}
use native.Mathlib.Nat.{le_trans, mod-lt, div-add-mod', div-mul-le_self, le-div_iff_mul-le}
use Rattle.slides.specs.Clock.{open_slide_of, chunk_of, place_of}
use Rattle.slides.specs.declared.Clock.{Clock}
use Rattle.slides.proofs.Slides.{InRange, place_rest}
use Rattle.book_state.specs.Log.{half_of, spot_of}
use Rattle.demands.specs.History.{History, open_slide_in}
use Rattle.demands.specs.Agrees.{Sensible, Live, spot_in_of}

module _ (h : History) (sensible : Sensible h) where
  range : InRange h.clock
  range = sensible.range

  -- a later slide is never of an earlier chunk
  pub chunk_later : {t u : ℕ} → t ≤ u → t / h.clock.n ≤ u / h.clock.n
  chunk_later {t} le = (le-div_iff_mul-le range.n_least).1 (le_trans (div-mul-le_self t h.clock.n) le)

  pub place_in : (t : ℕ) → t % h.clock.n < 16
  place_in t = omega (arith, mod-lt t range.n_least, range.n_most)

  pub spot_below : (t : ℕ) → spot_in_of h t < 32
  spot_below t = omega (arith, place_in t)

  -- the spot of the open slide, where the book's clock is the history's
  pub spot_open : (clock : Clock) → clock ≡ h.clock
      → spot_of (half_of (chunk_of clock (open_slide_of clock))) (place_of clock (open_slide_of clock)) ≡ spot_in_of h (open_slide_in h)
  spot_open clock e = rw (e, place_rest h.clock range.n_least (open_slide_in h))

  pub spot_apart : (t u : ℕ) → Live h t → Live h u → spot_in_of h t ≡ spot_in_of h u → t ≡ u
  spot_apart t u live-t live-u e =
      let place : t % h.clock.n ≡ u % h.clock.n = omega (arith, place_in t, place_in u) in
      let half : t / h.clock.n % 2 ≡ u / h.clock.n % 2 = omega (arith, place_in t, place_in u) in
      sym (div-add-mod' t h.clock.n)
      ∙ ap₂ (λ q p. q * h.clock.n + p) (chunk live-t live-u half) place
      ∙ div-add-mod' u h.clock.n
    where
      chunk : Live h t → Live h u → t / h.clock.n % 2 ≡ u / h.clock.n % 2 → t / h.clock.n ≡ u / h.clock.n
      chunk (inl p) (inl q) half = omega arith
      chunk (inl p) (inr q) half = omega arith
      chunk (inr p) (inl q) half = omega arith
      chunk (inr p) (inr q) half = omega arith
