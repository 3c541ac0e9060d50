-- The window of a book is the window of its history: the links that the crate window reads off a book and its log with a label
-- of c + 1 or more link the same cells as those of the history's window at slide k + c, k being the open slide.
--
-- The age of a slide is how many slides it lies before the open one. In every book, links with label j or more are those of the ages
-- a with a + j ≤ n. Where a book agrees with a history, the log holds for age a the links of slide k - a, which belongs to the open
-- chunk or to the one before it.
use Prim.Native.Nat.{ℕ, zero, suc, ◌+◌, ◌-◌, ◌≤◌, ◌<◌, zero-le}
use mathlib.Core.Path.{◌≡◌, refl, ap}
use mathlib.Core.Bool.{Bool, true, false, cond, and-eq-true_iff}
use mathlib.Core.List.{List, [], ◌∷◌, ◌++◌, map, reverse}
use mathlib.Core.Logic.{◌⊎◌, inr, ⊎_elim, ⊎_map}
use native.Mathlib.Nat.{eq-or-lt_of_le}
use native.Mathlib.Omega.{arith}
use lib.Dec.{leb, ltb}
use borrow.Author.Tests.{le-leb, lt-ltb, le-ltb, ltb-true, ltb-false}
use Rattle.graph.specs.Link.{Link, Linked}
use Rattle.graph.specs.Forest.{Labelled, at_least}
use Rattle.graph.proofs.Chains.{Relinks, linked_left, linked_right, linked_append_cases}
use Rattle.graph.proofs.Forests.{nothing_linked}
use Rattle.slides.specs.Clock.{open_slide_of}
use Rattle.slides.specs.declared.Clock.{Clock}
use Rattle.slides.proofs.Slides.{place_rest}
use Rattle.book_state.specs.Log.{labelled}
use Rattle.window.specs.Window.{window_slides_of, links_of_age, links_from_age, window_links, links_from_label}
use Rattle.demands.specs.History.{History, open_slide_in, slide_links, links_of, in_window_of, window_at}
use Rattle.demands.specs.Implementation.{State}
use Rattle.demands.specs.Agrees.{SlideKept, Agrees}
use Rattle.demands.proofs.BySlide.{of_slide, InSlide, in_slide, turned_links, links_turned}
use Rattle.demands.proofs.Split.{wide, in_window}

-- ---- of every book: links by label are links by age

-- links that share a label, before others: all of them count, or none
label_append : (j l : ℕ) (t : Bool) → ltb l j ≡ t → (ls : List Link) (xs : List Labelled) →
    links_from_label j (map (labelled l) ls ++ xs) ≡ cond t [] ls ++ links_from_label j xs
unfolding at_least
label_append j l true e [] xs = refl
label_append j l true e (m ∷ ls) xs = rw e (label_append j l true e ls xs)
label_append j l false e [] xs = refl
label_append j l false e (m ∷ ls) xs = rw e (ap (λ ms. m ∷ ms) (label_append j l false e ls xs))

module _ (j l : ℕ) (ls : List Link) (xs : List Labelled) (x y : ℕ) where
  label_cases : Linked x y (links_from_label j (map (labelled l) ls ++ xs)) → ((j ≤ l) × Linked x y ls) ⊎ Linked x y (links_from_label j xs)
  label_cases = go (ltb l j) refl
    where
      go : (t : Bool) → ltb l j ≡ t → Linked x y (links_from_label j (map (labelled l) ls ++ xs)) → ((j ≤ l) × Linked x y ls) ⊎ Linked x y (links_from_label j xs)
      go true e h = inr (rw (label_append j l true e ls xs) at h)
      go false e h = ⊎_map (λ k. (ltb-false l j e, k)) (λ k. k) (linked_append_cases ls (rw (label_append j l false e ls xs) at h))

  label_left : j ≤ l → Linked x y ls → Linked x y (links_from_label j (map (labelled l) ls ++ xs))
  label_left le h = rw (label_append j l false (le-ltb l j le) ls xs) (linked_left (links_from_label j xs) h)

  label_right : Linked x y (links_from_label j xs) → Linked x y (links_from_label j (map (labelled l) ls ++ xs))
  label_right h = rw (label_append j l (ltb l j) refl ls xs) (linked_right (cond (ltb l j) [] ls) h)

-- two cells are linked in a slide whose age is at least `from` and below `from + more`, and whose label is j or more
record OfAge (clock : Clock) (counts log : List ℕ) (j from more x y : ℕ) : Type 0 where
  pub age : ℕ
  pub least : from ≤ age
  pub below : age < from + more
  pub label : j ≤ clock.n - age
  pub linked : Linked x y (links_of_age clock counts log age)

module _ (clock : Clock) (counts log : List ℕ) (j : ℕ) where
  -- a link with label j or more belongs to such a slide,
  of_age : (from more x y : ℕ) → Linked x y (links_from_label j (links_from_age clock counts log from more)) → OfAge clock counts log j from more x y
  unfolding links_from_age at_least
  of_age from zero x y h = absurd (nothing_linked h)
  of_age from (suc more) x y h =
      ⊎_elim (λ w. record { age = from; least = omega arith; below = omega arith; label = w.0; linked = w.1 })
      (λ k. later (of_age (suc from) more x y k)) (label_cases j _ (links_of_age clock counts log from) _ x y h)
    where
      later : OfAge clock counts log j (suc from) more x y → OfAge clock counts log j from (suc more) x y
      later i = record { age = i.age; least = omega arith; below = omega arith; label = i.label; linked = i.linked }

  -- and the links of such a slide have label j or more
  age_of : (from more x y : ℕ) → OfAge clock counts log j from more x y → Linked x y (links_from_label j (links_from_age clock counts log from more))
  unfolding links_from_age
  age_of from zero x y i = absurd (omega arith)
  age_of from (suc more) x y i =
      ⊎_elim (λ e. label_left j (clock.n - from) (links_of_age clock counts log from) _ x y (rw e i.label) (rw e i.linked))
      (λ l. label_right j _ (links_of_age clock counts log from) _ x y
      (age_of (suc from) more x y (record { age = i.age; least = l; below = omega arith; label = i.label; linked = i.linked })))
      (eq-or-lt_of_le i.least)

  -- there is no label above n
  pub none_above : clock.n < j → (x y : ℕ) → Linked x y (links_from_label j (window_links clock counts log)) → ⊥
  unfolding window_links
  none_above over x y h = let i : OfAge clock counts log j 0 (window_slides_of clock) x y = of_age 0 (window_slides_of clock) x y h in omega arith

-- ---- of a book that agrees with a history: links by age are links by slide

module _ {h : History} {s : State} (agrees : Agrees h s) where
  -- the log holds the links of a slide of the window, in order of arrival
  pub links_of_age_lem : (age t : ℕ) → age + t ≡ open_slide_in h → age < h.clock.n →
      links_of_age s.book.clock s.book.counts s.log age ≡ reverse (links_of (slide_links t h.links))
  links_of_age_lem age t e young =
      rw (agrees.clock, back, place_rest h.clock (wide agrees.sensible) t, kept.count) kept.links
    where
      back : open_slide_in h - age ≡ t
      back = omega arith

      kept : SlideKept h s t
      kept = agrees.kept t (⊎_map (λ q. q) (λ w. w.0) ((in_window agrees.sensible t (omega arith)).0 (omega arith)))

  -- the book's open slide and its n are the history's
  clock_is : (open_slide_of s.book.clock ≡ open_slide_in h) × (s.book.clock.n ≡ h.clock.n)
  clock_is = (ap open_slide_of agrees.clock, ap (λ c. c.n) agrees.clock)

  module _ (c : ℕ) where
    pub book_window : Relinks (links_from_label (suc c) (window_links s.book.clock s.book.counts s.log)) (links_of (window_at h (open_slide_in h + c)))
    unfolding window_links
    book_window x y l = found (of_age s.book.clock s.book.counts s.log (suc c) 0 (window_slides_of s.book.clock) x y l)
      where
        found : OfAge s.book.clock s.book.counts s.log (suc c) 0 (window_slides_of s.book.clock) x y → Linked x y (links_of (window_at h (open_slide_in h + c)))
        found i =
            let same = clock_is in
            let t : ℕ = open_slide_in h - i.age in
            of_slide _ t h.links (rw (le-leb t (open_slide_in h + c) (omega arith)) (lt-ltb (open_slide_in h + c) (t + h.clock.n) (omega arith)))
            x y (turned_links _ x y (rw (links_of_age_lem i.age t (omega arith) (omega arith)) at i.linked))

    pub window_book : Relinks (links_of (window_at h (open_slide_in h + c))) (links_from_label (suc c) (window_links s.book.clock s.book.counts s.log))
    unfolding window_links
    window_book x y l = age_of s.book.clock s.book.counts s.log (suc c) 0 (window_slides_of s.book.clock) x y (found (in_slide _ agrees.sensible.falling x y l))
      where
        found : InSlide (in_window_of h.clock.n (open_slide_in h + c)) (open_slide_in h) h.links x y →
            OfAge s.book.clock s.book.counts s.log (suc c) 0 (window_slides_of s.book.clock) x y
        found i =
            let same = clock_is in
            let young : open_slide_in h + c < i.slide + h.clock.n = ltb-true _ _ ((and-eq-true_iff (leb i.slide (open_slide_in h + c)) _).0 i.picked).1 in
            let age : ℕ = open_slide_in h - i.slide in
            record {
              age = age;
              least = zero-le;
              below = omega arith;
              label = omega arith;
              linked = rw (links_of_age_lem age i.slide (omega arith) (omega arith)) (links_turned _ x y i.linked);
            }
