-- What a link finds whose number is 0: each check of its list is passed, so the log can be read and there is room for the link.
use Prim.Native.Nat.{ℕ, ◌<◌}
use mathlib.Core.Path.{◌≡◌}
use mathlib.Core.Bool.{true}
use mathlib.Core.List.{List}
use native.Mathlib.Omega.{arith}
use native.Mathlib.Nat.{zero-lt-suc, mod-lt}
use borrow.Author.Tests.{ltb-true}
use Rattle.cells.specs.Touching.{touch}
use Rattle.slides.specs.Clock.{not_before_of, slide_of, place_of}
use Rattle.slides.proofs.Slides.{moved_n, moved_place, moved_slide, place_below}
use Rattle.book_state.specs.declared.Book.{Book}
use Rattle.book_state.specs.Log.{Readable, stored}
use Rattle.numbers.specs.Checks.{has}
use Rattle.book_state.specs.Numbers.{log_places, are_cells_of}
use Rattle.book_state.specs.Order.{in_order_of, never_opened_of}
use Rattle.numbers.proofs.Checks.{first_passed, fails, unless_passed}
use Rattle.book_state.proofs.Checks.{readable, never_in_order}
use Rattle.book_time.specs.Time.{moved_book}
use Rattle.book_time.proofs.Moves.{chunk_after, spot_then, moved_clock, moved_count}
use Rattle.book.specs.Calls.{Room, open_spot, link_number_of, clock_number_of}

-- ---- a link that is taken

pub record Taken (b : Book) (log : List ℕ) (tick one other : ℕ) : Type 0 where
  pub in_order : in_order_of b ≡ true
  pub room : has log_places log ≡ true
  pub cells : are_cells_of one other ≡ true
  pub touching : touch one other ≡ true
  pub later : not_before_of b.clock tick ≡ true
  pub few : stored b (slide_of b.clock tick) < 256

pub taken : (b : Book) (log : List ℕ) (tick one other : ℕ) → link_number_of b log tick one other ≡ 0 → Taken b log tick one other
unfolding link_number_of
taken b log tick one other e =
    let w₁ = first_passed _ _ e in
    let w₂ = first_passed _ _ w₁.1 in
    let w₃ = first_passed _ _ w₂.1 in
    let w₄ = first_passed _ _ w₃.1 in
    let w₅ = first_passed _ _ w₄.1 in
    let w₆ = first_passed _ _ w₅.1 in
    record {
      in_order = unless_passed _ _ w₁.0;
      room = unless_passed _ _ w₂.0;
      cells = unless_passed _ _ w₃.0;
      touching = unless_passed _ _ w₄.0;
      later = unless_passed _ _ w₅.0;
      few = ltb-true _ _ (unless_passed _ _ w₆.0);
    }

-- a link that is taken finds room in the slide that the time has moved to
pub link_room : (b : Book) (log : List ℕ) (tick one other : ℕ) → link_number_of b log tick one other ≡ 0 → Room (moved_book b log tick).clock (moved_book b log tick).counts log
link_room b log tick one other e =
    record {
      spot = rw spot_then_lem (omega (arith, place, mod-lt (chunk_after b tick) (zero-lt-suc 1)));
      few = rw (spot_then_lem, moved_count b log tick place) t.few;
      long = r.long;
    }
  where
    t : Taken b log tick one other
    t = taken b log tick one other e

    r : Readable b.clock.n b.counts log
    r = readable b log t.in_order t.room

    place : place_of b.clock (slide_of b.clock tick) < 16
    place = omega (arith, place_below b.clock r.n_least (slide_of b.clock tick), r.n_most)

    spot_then_lem : open_spot (moved_book b log tick).clock ≡ spot_then b tick
    spot_then_lem = rw (moved_clock b log tick, moved_slide b.clock tick, moved_place b.clock tick, moved_n b.clock tick)

-- ---- a book that was never opened: link and clock give 1 for it

pub never_link : (log : List ℕ) (tick one other : ℕ) → link_number_of never_opened_of log tick one other ≡ 1
unfolding link_number_of
never_link log tick one other = fails 0 _ never_in_order

pub never_clock : (log : List ℕ) (tick : ℕ) → clock_number_of never_opened_of log tick ≡ 1
unfolding clock_number_of
never_clock log tick = fails 0 _ never_in_order
