-- The window's links are those of the two forests: all links of the open chunk, and those of the chunk before at places above the
-- open slide's, which are the ones that the cut leaves. Place 0 is never among these.
--
-- The links of the chunk before, reversed, have labels that never rise: slides never fall as links arrive, and within a chunk a
-- later slide has a higher place.
use Prim.Native.Nat.{ℕ, ◌+◌, ◌/◌, ◌%◌, ◌≤◌, ◌<◌}
use mathlib.Core.Path.{◌≡◌, ◌∙◌, ap}
use mathlib.Core.Bool.{Bool, true, ◌&&◌, not, and-eq-true_iff}
use mathlib.Core.List.{List, [], ◌++◌, map, reverse, map-map}
use mathlib.Core.Logic.{◌⊎◌, inl, inr, ◌↔◌}
use native.Mathlib.Omega.{arith}
use lib.Dec.{eqb, leb, ltb}
use borrow.Author.Tests.{eqb-true, eq-eqb, le-leb, ltb-true, ltb-false, lt-ltb, le-ltb, not-true}
use Rattle.graph.specs.Link.{Link, Linked}
use Rattle.graph.specs.Forest.{at_least, empty, NeverRise, start}
use Rattle.graph.proofs.Chains.{Relinks, linked_left, linked_right, linked_append_cases}
use Rattle.slides.proofs.Slides.{place_rest, place_order, window_places}
use Rattle.demands.specs.History.{History, open_slide_in, of_slides, slide_links, links_of, in_window_of, window_of, chunk_in, place_in, forward_links, backward_links}
use Rattle.demands.specs.Demands.{cut_in}
use Rattle.demands.specs.Agrees.{Sensible}
use Rattle.demands.proofs.BySlide.{of_slide, InSlide, in_slide, label_by, turned_falls, cut_picked, cut_turned, turned_links, links_turned}

-- ---- the links that the two forests are walked by

abbrev pub forward_part : History → List Link
forward_part h = map (λ x. x.link) (forward_links h)

-- those that the cut leaves
abbrev pub backward_part : History → List Link
backward_part h = map (λ x. x.link) (at_least (cut_in h) (backward_links h))

-- a slide of the open chunk; a slide of the chunk before, at a place above the open slide's
abbrev pub Opened : History → ℕ → Type 0
Opened h t = t / h.clock.n ≡ chunk_in h

abbrev pub Before : History → ℕ → Type 0
Before h t = (t / h.clock.n + 1 ≡ chunk_in h) × (place_in h < t % h.clock.n)

-- the tests on slides: of the open chunk; of the chunk before, without place 0; and of the latter what the cut leaves
abbrev opened : History → ℕ → Bool
opened h t = eqb (t / h.clock.n) (chunk_in h)

abbrev scanned : History → ℕ → Bool
scanned h t = eqb (t / h.clock.n + 1) (chunk_in h) && leb 1 (t % h.clock.n)

abbrev left : History → ℕ → Bool
left h t = scanned h t && not (ltb (t % h.clock.n) (cut_in h))

-- a place above the open slide's is not place 0
left_is : (h : History) (t : ℕ) → (left h t ≡ true) ↔ Before h t
left_is h t = (
  λ e.
      let (w, c) = (and-eq-true_iff _ _).0 e in
      (eqb-true _ _ ((and-eq-true_iff _ _).0 w).0, omega (arith, ltb-false (t % h.clock.n) (cut_in h) (not-true _ c))),
  λ w. rw (eq-eqb _ _ w.0, le-leb 1 (t % h.clock.n) (omega (arith, w.1)), le-ltb (t % h.clock.n) (cut_in h) (omega (arith, w.1))),
)

module _ (h : History) where
  forward_part_lem : forward_part h ≡ links_of (of_slides (opened h) h.links)
  forward_part_lem = map-map (λ x. x.link) (label_by (λ t. 0)) (of_slides (opened h) h.links)

  backward_part_lem : backward_part h ≡ reverse (links_of (of_slides (left h) h.links))
  backward_part_lem = cut_turned (cut_in h) _ ∙ ap reverse (cut_picked (cut_in h) (λ t. t % h.clock.n) (scanned h) h.links)

module _ {h : History} (sensible : Sensible h) where
  -- n is at least 1
  pub wide : 1 ≤ h.clock.n
  wide = sensible.range.n_least

  -- within a chunk, places are in the order of the slides
  places_rise : (t u : ℕ) → t / h.clock.n ≡ u / h.clock.n → t ≤ u → t % h.clock.n ≤ u % h.clock.n
  places_rise t u q le = rw (← place_rest h.clock wide t, ← place_rest h.clock wide u) ((place_order h.clock wide t u q).0 le)

  pub backward_falls : NeverRise (backward_links h)
  backward_falls = turned_falls (λ t. t % h.clock.n) (scanned h) rise sensible.falling [] start empty
    where
      chunk : (t : ℕ) → scanned h t ≡ true → t / h.clock.n + 1 ≡ chunk_in h
      chunk t w = eqb-true _ _ ((and-eq-true_iff _ _).0 w).0

      rise : (t u : ℕ) → scanned h t ≡ true → scanned h u ≡ true → t ≤ u → t % h.clock.n ≤ u % h.clock.n
      rise t u v w = places_rise t u (omega (arith, chunk t v, chunk u w))

  -- ---- the window

  -- which slides up to the open one are in the window
  pub in_window : (t : ℕ) → t ≤ open_slide_in h → (open_slide_in h < t + h.clock.n) ↔ (Opened h t ⊎ Before h t)
  in_window t le =
      rw (← place_rest h.clock wide t, ← place_rest h.clock wide (open_slide_in h)) (window_places h.clock wide t (open_slide_in h) le)

  pub window_parts : Relinks (window_of h) (backward_part h ++ forward_part h)
  window_parts x y l = found (in_slide _ sensible.falling x y l)
    where
      part : (t : ℕ) → Linked x y (links_of (slide_links t h.links)) → Opened h t ⊎ Before h t → Linked x y (backward_part h ++ forward_part h)
      part t l (inl q) = linked_right (backward_part h) (rw (forward_part_lem h) (of_slide (opened h) t h.links (eq-eqb _ _ q) x y l))
      part t l (inr w) =
          linked_left {ls = backward_part h} (forward_part h)
          (rw (backward_part_lem h) (links_turned _ x y (of_slide (left h) t h.links ((left_is h t).1 w) x y l)))

      found : InSlide (in_window_of h.clock.n (open_slide_in h)) (open_slide_in h) h.links x y → Linked x y (backward_part h ++ forward_part h)
      found i =
          part i.slide i.linked
          ((in_window i.slide i.past).0 (ltb-true _ _ ((and-eq-true_iff (leb i.slide (open_slide_in h)) _).0 i.picked).1))

  pub parts_window : Relinks (backward_part h ++ forward_part h) (window_of h)
  parts_window x y l = found (linked_append_cases (backward_part h) l)
    where
      window : (t : ℕ) → t ≤ open_slide_in h → Linked x y (links_of (slide_links t h.links)) → Opened h t ⊎ Before h t → Linked x y (window_of h)
      window t le l w = of_slide _ t h.links (rw (le-leb _ _ le) (lt-ltb _ _ ((in_window t le).1 w))) x y l

      found : Linked x y (backward_part h) ⊎ Linked x y (forward_part h) → Linked x y (window_of h)
      found (inl b) =
          let i = in_slide (left h) sensible.falling x y (turned_links _ x y (rw (backward_part_lem h) at b)) in
          window i.slide i.past i.linked (inr ((left_is h i.slide).0 i.picked))
      found (inr f) =
          let i = in_slide (opened h) sensible.falling x y (rw (forward_part_lem h) at f) in
          window i.slide i.past i.linked (inl (eqb-true _ _ i.picked))
