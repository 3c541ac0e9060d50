-- The links that a book and its log hold in the window are as many as the history's window has, repeats counted.
--
-- The book's are put together slide by slide, from the open slide back: for each age the log holds as many links as the history has of
-- that slide (Window). The history's are one list, of which each slide back takes its links away.
use Prim.Native.Nat.{ℕ, zero, suc, ◌+◌, ◌-◌, ◌≤◌, ◌<◌}
use mathlib.Core.Path.{◌≡◌, refl, sym, ◌∙◌, ap, ap₂}
use mathlib.Core.Bool.{Bool, true, false, cond, ◌&&◌, and-eq-true_iff}
use mathlib.Core.List.{List, [], ◌∷◌}
use native.Mathlib.Omega.{arith}
use lib.Dec.{eqb, leb, ltb}
use lib.ListN.{length, length-append, length-map, length-reverse}
use borrow.Author.Tests.{eqb-true, eqb-false, le-leb, lt-leb, lt-ltb, leb-true, ltb-true}
use Rattle.slides.specs.Clock.{open_slide_of}
use Rattle.book_state.specs.Log.{labelled}
use Rattle.window.specs.Window.{window_slides_of, links_of_age, slide_links, links_from_age, window_links}
use Rattle.demands.specs.History as history
use Rattle.demands.specs.History.{Stored, History, open_slide_in, of_slides, links_of, window_at}
use Rattle.demands.specs.Implementation.{State}
use Rattle.demands_listing.specs.Listed.{link_count_in}
use Rattle.demands.specs.Agrees.{Agrees}
use Rattle.demands.proofs.Lists.{same_test, fails, none_later, same_slides}
use Rattle.demands.proofs.Window.{links_of_age_lem}

-- of a slide: it is the first one wanted, and not among the rest, or among the rest alone
record Parted (both first rest : ℕ → Bool) (t : ℕ) : Type 0 where
  pub is_first : first t ≡ true → (both t ≡ true) × (rest t ≡ false)
  pub is_other : first t ≡ false → both t ≡ rest t

count_parts : (both first rest : ℕ → Bool) → ((t : ℕ) → Parted both first rest t) → (ss : List Stored)
    → length (of_slides both ss) ≡ length (of_slides first ss) + length (of_slides rest ss)
unfolding of_slides
count_parts both first rest parted [] = refl
count_parts both first rest parted (s ∷ ss) = go (first s.slide) refl (count_parts both first rest parted ss)
  where
    go : (t : Bool) → first s.slide ≡ t → length (of_slides both ss) ≡ length (of_slides first ss) + length (of_slides rest ss)
        → length (of_slides both (s ∷ ss)) ≡ length (of_slides first (s ∷ ss)) + length (of_slides rest (s ∷ ss))
    go true e on = let w = (parted s.slide).is_first e in rw (e, w.0, w.1) (omega arith)
    go false e on = rw (e, (parted s.slide).is_other e) (other (rest s.slide) on)
      where
        other : (t : Bool) → length (of_slides both ss) ≡ length (of_slides first ss) + length (of_slides rest ss)
            → length (cond t (s ∷ of_slides both ss) (of_slides both ss)) ≡ length (of_slides first ss) + length (cond t (s ∷ of_slides rest ss) (of_slides rest ss))
        other true on = omega arith
        other false on = on

-- two tests in one
both_hold : (a b c d : ℕ) → leb a b && ltb c d ≡ true → (a ≤ b) × (c < d)
both_hold a b c d e = let w = (and-eq-true_iff (leb a b) (ltb c d)).0 e in (leb-true a b w.0, ltb-true c d w.1)

hold_both : (a b c d : ℕ) → a ≤ b → c < d → leb a b && ltb c d ≡ true
hold_both a b c d p q = rw (le-leb a b p) (lt-ltb c d q)

module _ {h : History} {s : State} (agrees : Agrees h s) where
  abbrev k : ℕ
  k = open_slide_in h

  slide_is : open_slide_of s.book.clock ≡ k
  slide_is = ap open_slide_of agrees.clock

  n_is : s.book.clock.n ≡ h.clock.n
  n_is = ap (λ c. c.n) agrees.clock

  -- a slide of an age of at least `from` and below `from + more`
  abbrev spans : (from more t : ℕ) → Bool
  spans from more t = leb (t + from) k && ltb k (t + from + more)

  -- the first of them, and the older ones
  slide_parts : (from more : ℕ) → from ≤ k → (t : ℕ) → Parted (spans from (suc more)) (λ t. eqb t (k - from)) (spans (suc from) more) t
  slide_parts from more past t =
      record {
        is_first = λ e.
            let is : t ≡ k - from = eqb-true t (k - from) e in (
              hold_both (t + from) k k (t + from + suc more) (omega arith) (omega arith),
              rw (lt-leb (t + suc from) k (omega arith)),
            );
        is_other = λ e.
            let not : t ≡ k - from → ⊥ = eqb-false t (k - from) e in
            same_test (spans from (suc more) t) (spans (suc from) more t)
            (λ w. let (p, q) = both_hold (t + from) k k (t + from + suc more) w in hold_both (t + suc from) k k (t + suc from + more) (omega arith) (omega arith))
            (λ w. let (p, q) = both_hold (t + suc from) k k (t + suc from + more) w in hold_both (t + from) k k (t + from + suc more) (omega arith) (omega arith));
      }

  -- as many links of `more` slides, the first of this age
  count_from_lem : (from more : ℕ) → from + more ≤ k + 1 → from + more ≤ h.clock.n
      → length (links_from_age s.book.clock s.book.counts s.log from more) ≡ length (of_slides (spans from more) h.links)
  unfolding links_from_age
  count_from_lem from zero past young =
      ap length (sym (none_later agrees.sensible.falling (spans from 0)
      (λ t le. fails _ (λ e. let (p, q) = both_hold (t + from) k k (t + from + 0) e in omega arith))))
  count_from_lem from (suc more) past young =
      length-append (slide_links s.book.clock s.book.counts s.log from) _
      ∙ ap₂ (λ a b. a + b) slide (count_from_lem (suc from) more (omega arith) (omega arith))
      ∙ sym (count_parts _ _ _ (slide_parts from more (omega arith)) h.links)
    where
      slide : length (slide_links s.book.clock s.book.counts s.log from) ≡ length (history.slide_links (k - from) h.links)
      slide =
          length-map (links_of_age s.book.clock s.book.counts s.log from) (labelled (s.book.clock.n - from))
          ∙ ap length (links_of_age_lem agrees from (k - from) (omega arith) (omega arith))
          ∙ length-reverse (links_of (history.slide_links (k - from) h.links))
          ∙ length-map (history.slide_links (k - from) h.links) (λ l. l.link)

  -- the ages of the window are all that there are
  window_spans : (t : ℕ) → spans 0 (window_slides_of s.book.clock) t ≡ history.in_window_of h.clock.n k t
  window_spans t =
      same_test _ _
      (λ w.
      let (p, q) = both_hold (t + 0) k k (t + 0 + window_slides_of s.book.clock) w in
      hold_both t k k (t + h.clock.n) (omega arith) (omega (arith, n_is, slide_is)))
      (λ w.
      let (p, q) = both_hold t k k (t + h.clock.n) w in
      hold_both (t + 0) k k (t + 0 + window_slides_of s.book.clock) (omega arith) (omega (arith, n_is, slide_is)))

  pub count_told : length (window_links s.book.clock s.book.counts s.log) ≡ link_count_in h
  unfolding window_links
  count_told =
      count_from_lem 0 (window_slides_of s.book.clock) (omega (arith, n_is, slide_is)) (omega (arith, n_is, slide_is))
      ∙ ap length (same_slides agrees.sensible.falling _ _ (λ t le. window_spans t))
      ∙ sym (length-map (window_at h k) (λ l. l.link))
