-- The number that a call gives, where book and log agree with a history, is the number that the history gives.
--
-- The book is in order and the log has its places, so neither 1 nor 6 comes. Book and history compare the tick with the same clock. A
-- slide that is not before the open one either belongs to the open chunk, and its count is the history's, or to a later chunk, and
-- then no link has it.
use Prim.Native.Nat.{ℕ, zero, suc, ◌/◌}
use mathlib.Core.Path.{◌≡◌, refl, sym, ◌∙◌, ap}
use mathlib.Core.Bool.{true, cond}
use mathlib.Core.Logic.{inl}
use mathlib.Core.List.{List, [], ◌∷◌}
use native.Mathlib.Omega.{arith}
use native.Mathlib.Decide.{ℕ_discrete}
use lib.Dec.{eqb, ltb}
use lib.ListN.{get_or}
use borrow.Author.Tests.{eq-eqb, ne_eqb, eqb-true}
use Rattle.settings.specs.declared.Settings.{Settings}
use Rattle.cells.specs.Touching.{touch}
use Rattle.slides.specs.Clock.{not_before_of, slide_of, place_of}
use Rattle.slides.specs.declared.Clock.{Clock}
use Rattle.slides.proofs.Slides.{slide_later, place_rest}
use Rattle.book_state.specs.declared.Book.{Book}
use Rattle.book_state.specs.Log.{half_of, spot_of, stored}
use Rattle.numbers.specs.Checks.{first_of, unless}
use Rattle.book_state.specs.Numbers.{are_cells_of}
use Rattle.book_joined.specs.Joined.{joined_number_of, joined_by_number, joined_of}
use Rattle.book.specs.Calls.{opening_number_of, opening_by_number, opening_of, link_number_of, link_stored, link_by_number, link_of, clock_number_of, clock_by_number, clock_of}
use Rattle.chain.specs.Chain.{chain_number, chain_by_number, chain_of}
use Rattle.demands.specs.History.{Call, opening, link, clock, History, chunk_in, how_many, slide_links, number_in}
use Rattle.demands.specs.Implementation.{ours, State, gives}
use Rattle.demands.specs.Demands.{room_in}
use Rattle.demands.specs.Agrees.{Agrees}
use Rattle.numbers.proofs.Checks.{first_last, first_under}
use Rattle.numbers.proofs.Checks.{passes}
use Rattle.demands.proofs.Lists.{fails, none_later}
use Rattle.demands.proofs.InOrder.{agrees_in_order}

-- ---- a call gives its number

pub itself : (f : ℕ → ℕ) → f 0 ≡ 0 → ((k : ℕ) → f (suc k) ≡ suc k) → (k : ℕ) → f k ≡ k
itself f done refused zero = done
itself f done refused (suc k) = refused k

pub opening_gives_lem : (b : Book) (log : List ℕ) (s : Settings) → (opening_of b log s).number ≡ opening_number_of s log
unfolding opening_of opening_by_number
opening_gives_lem b log s = itself (λ k. (opening_by_number k b log s).number) refl (λ k. refl) _

pub link_gives_lem : (b : Book) (log : List ℕ) (tick one other : ℕ) → (link_of b log tick one other).number ≡ link_number_of b log tick one other
unfolding link_of link_by_number link_stored
link_gives_lem b log tick one other = itself (λ k. (link_by_number k b log tick one other).number) refl (λ k. refl) _

pub clock_gives_lem : (b : Book) (log : List ℕ) (tick : ℕ) → (clock_of b log tick).number ≡ clock_number_of b log tick
unfolding clock_of clock_by_number
clock_gives_lem b log tick = itself (λ k. (clock_by_number k b log tick).number) refl (λ k. refl) _

pub joined_gives_lem : (b : Book) (one other : ℕ) → (joined_of b one other).number ≡ joined_number_of b one other
unfolding joined_of joined_by_number
joined_gives_lem b one other = itself (λ k. (joined_by_number k b one other).number) refl (λ k. refl) _

pub chain_gives_lem : (b : Book) (log chain : List ℕ) (one other : ℕ) → (chain_of b log chain one other).answer.number ≡ chain_number b log chain one other
unfolding chain_of chain_by_number
chain_gives_lem b log chain one other =
    itself (λ k. (chain_by_number k b.clock b.counts log chain one other).answer.number) refl (λ k. refl) _

module _ {h : History} {s : State} (a : Agrees h s) where
  -- ---- how many links a slide holds

  pub stored_agrees : (tick : ℕ) → not_before_of h.clock tick ≡ true
      → stored s.book (slide_of s.book.clock tick) ≡ how_many (slide_links (slide_of h.clock tick) h.links)
  unfolding stored how_many
  stored_agrees tick later = rw a.clock (go (ℕ_discrete (slide / n) (chunk_in h)))
    where
      n : ℕ
      n = h.clock.n

      slide : ℕ
      slide = slide_of h.clock tick

      go : Dec (slide / n ≡ chunk_in h)
          → cond (eqb (slide / n) (chunk_in h)) (get_or s.book.counts (spot_of (half_of (slide / n)) (place_of h.clock slide)) 0) 0
          ≡ how_many (slide_links slide h.links)
      go (yes e) = rw (eq-eqb _ _ e, place_rest h.clock a.sensible.range.n_least slide) (a.kept slide (inl e)).count
      go (no d) =
          rw (ne_eqb _ _ d)
          (ap how_many (sym (none_later a.sensible.falling (λ t. eqb t slide)
          (λ t l. fails _ (λ e. d (ap (λ u. u / n) (omega (arith, slide_later h.clock tick, eqb-true t slide e))))))))

  -- ---- the numbers

  -- what a link asks when its cells touch
  abbrev timely : (c : Clock) (held tick : ℕ) → List ℕ
  timely c held tick = unless (not_before_of c tick) 4 ∷ unless (ltb held 256) 5 ∷ []

  pub link_number_lem : (tick one other : ℕ) → link_number_of s.book s.log tick one other ≡ number_in (room_in s) h (link tick one other)
  unfolding link_number_of number_in
  link_number_lem tick one other =
      passes 1 _ (agrees_in_order a) ∙ passes 6 _ a.room
      ∙ first_under (are_cells_of one other) 2 _ _
      (λ _. first_under (touch one other) 13
      (timely s.book.clock (stored s.book (slide_of s.book.clock tick)) tick)
      (timely h.clock (how_many (slide_links (slide_of h.clock tick) h.links)) tick)
      (λ _. rw (ap (λ c. not_before_of c tick) a.clock)
      (first_under (not_before_of h.clock tick) 3 _ _ (λ later. ap (λ k. first_of (unless (ltb k 256) 5 ∷ [])) (stored_agrees tick later)))))

  pub clock_number_lem : (tick : ℕ) → clock_number_of s.book s.log tick ≡ number_in (room_in s) h (clock tick)
  unfolding clock_number_of number_in
  clock_number_lem tick =
      passes 1 _ (agrees_in_order a) ∙ passes 6 _ a.room ∙ first_last _ ∙ ap (λ c. unless (not_before_of c tick) 4) a.clock

  pub number_agrees : (c : Call) → (gives ours s c).number ≡ number_in (room_in s) h c
  unfolding gives opening_number_of number_in
  number_agrees (opening settings) = opening_gives_lem s.book s.log settings
  number_agrees (link tick one other) = link_gives_lem s.book s.log tick one other ∙ link_number_lem tick one other
  number_agrees (clock tick) = clock_gives_lem s.book s.log tick ∙ clock_number_lem tick

  -- a question gives its number too
  pub asked_agrees : (one other : ℕ) → (joined_of s.book one other).number ≡ unless (are_cells_of one other) 3
  unfolding joined_number_of
  asked_agrees one other = joined_gives_lem s.book one other ∙ passes 1 _ (agrees_in_order a) ∙ first_last _
