-- The checks that several calls make: two cells, and a book for which number 1 is not given. Such a book is in order, test by
-- test, and its log can be read.
use Prim.Native.Nat.{ℕ, ◌≤◌, ◌<◌, zero-le}
use mathlib.Core.Path.{◌≡◌, refl, sym, ◌∙◌}
use mathlib.Core.Bool.{true, false, ◌&&◌, and-eq-true_iff}
use mathlib.Core.List.{List}
use native.Mathlib.Omega.{arith}
use native.Mathlib.Nat.{suc-le-suc_iff}
use native.Mathlib.Decide.{dec_lt}
use borrow.Author.Tests.{leb-true, ltb-true}
use lib.ListN.{length, get_or, get_or-eq_default}
use Rattle.settings.specs.Settings.{held_in_range}
use Rattle.slides.specs.Clock.{clock_in_range}
use Rattle.slides.proofs.Slides.{InRange, in_range_lem}
use Rattle.forest_check.specs.Sound.{every, within, sound_of, labels_within_of}
use Rattle.forest_check.proofs.Every.{every_each, each_every, within_high, within_both}
use Rattle.book_state.specs.declared.Book.{Book}
use Rattle.book_state.specs.Arrays.{cells, step_limit}
use Rattle.book_state.specs.Log.{Readable}
use Rattle.numbers.specs.Checks.{has}
use Rattle.numbers.proofs.Checks.{has_length}
use Rattle.book_state.specs.Numbers.{log_places, are_cells_of}
use Rattle.book_state.specs.Order.{in_order_of, never_opened_of}

-- ---- both are cells

pub two_cells : {one other : ℕ} → are_cells_of one other ≡ true → (one < cells) × (other < cells)
two_cells e = let both = (and-eq-true_iff _ _).0 e in (ltb-true _ _ both.0, ltb-true _ _ both.1)

-- ---- a book in order

-- test by test
pub record Ordered (b : Book) : Type 0 where
  pub timely : clock_in_range b.clock ≡ true
  pub held : held_in_range b.clock.n b.clock.b b.fitting.mounting ≡ true
  pub few : every (within 0 257) 0 b.counts ≡ true
  pub forward : sound_of b.forward_parent b.forward_size step_limit ≡ true
  pub backward : sound_of b.backward_parent b.backward_size step_limit ≡ true
  pub labels : labels_within_of b.backward_label 15 ≡ true

pub ordered : (b : Book) → in_order_of b ≡ true → Ordered b
unfolding in_order_of
ordered b e =
    let t = clock_in_range b.clock in
    let h = held_in_range b.clock.n b.clock.b b.fitting.mounting in
    let f = every (within 0 257) 0 b.counts in
    let p = sound_of b.forward_parent b.forward_size step_limit in
    let q = sound_of b.backward_parent b.backward_size step_limit in
    let w₅ = (and-eq-true_iff (t && h && f && p && q) (labels_within_of b.backward_label 15)).0 e in
    let w₄ = (and-eq-true_iff (t && h && f && p) q).0 w₅.0 in
    let w₃ = (and-eq-true_iff (t && h && f) p).0 w₄.0 in
    let w₂ = (and-eq-true_iff (t && h) f).0 w₃.0 in
    let w₁ = (and-eq-true_iff t h).0 w₂.0 in
    record { timely = w₁.0; held = w₁.1; few = w₂.1; forward = w₃.1; backward = w₄.1; labels = w₅.1 }

-- so its clock is in range
pub in_order_range : (b : Book) → in_order_of b ≡ true → InRange b.clock
in_order_range b e = (in_range_lem b.clock).0 (ordered b e).timely

-- the test of the counts, for a spot within them or beyond
pub counts_few : (counts : List ℕ) → every (within 0 257) 0 counts ≡ true → (spot : ℕ) → get_or counts spot 0 ≤ 256
counts_few counts e spot = within_or_beyond (dec_lt spot (length counts))
  where
    within_or_beyond : Dec (spot < length counts) → get_or counts spot 0 ≤ 256
    within_or_beyond (yes h) = omega (arith, within_high 0 257 spot (get_or counts spot 0) (every_each (within 0 257) counts e spot h))
    within_or_beyond (no h) = rw (get_or-eq_default counts 0 {n = spot} (omega arith)) (omega arith)

-- and the other way round
pub few_counts : (counts : List ℕ) → ((spot : ℕ) → get_or counts spot 0 ≤ 256) → every (within 0 257) 0 counts ≡ true
few_counts counts few = each_every (within 0 257) counts (λ spot h. within_both 0 257 spot _ zero-le (suc-le-suc_iff.1 (few spot)))

pub readable : (b : Book) (log : List ℕ) → in_order_of b ≡ true → has log_places log ≡ true → Readable b.clock.n b.counts log
readable b log e room =
    let clock : InRange b.clock = in_order_range b e in
    record {
      n_least = clock.n_least;
      n_most = clock.n_most;
      few = counts_few b.counts (ordered b e).few;
      long = leb-true _ _ (sym (has_length log_places log) ∙ room);
    }

-- a book that was never opened is not in order
pub never_in_order : in_order_of never_opened_of ≡ false
unfolding never_opened_of in_order_of clock_in_range
never_in_order = refl
