-- The chunk that ends: the links that the book reads for the backward forest, place by place in order of arrival, are those of
-- the history's slides of that chunk at places 1 to n - 1, each with its place.
--
-- The log holds each slide's links in order of arrival (`SlideKept`). A history has its newest links first, so those of places above p
-- stand before those of place p, and the reversed history is the slides one after the other.
use Prim.Native.Nat.{ℕ, zero, suc, ◌+◌, ◌-◌, ◌*◌, ◌/◌, ◌%◌, ◌≤◌, ◌<◌}
use mathlib.Core.Path.{◌≡◌, refl, sym, ◌∙◌, ap, ap₂}
use mathlib.Core.Bool.{Bool, true, false, ◌&&◌, and-eq-true_iff}
use mathlib.Core.Logic.{◌↔◌, inl}
use mathlib.Core.List.{List, [], ◌∷◌, ◌++◌, map, map-append, reverse, reverse-append}
use native.Mathlib.Omega.{arith}
use native.Mathlib.Nat.{le_refl, add-zero, mod-lt, mod-eq_of_lt, div-eq_of_lt, div-add-mod, mul-add-div, mul-add-mod_self_left}
use lib.Dec.{eqb, leb}
use borrow.Author.Tests.{eq-eqb, ne_eqb, eqb-true, le-leb, leb-true}
use Rattle.graph.specs.Forest.{Labelled}
use Rattle.slides.proofs.Slides.{InRange}
use Rattle.book_state.specs.Log.{half_of, spot_of, place_links, labelled, chunk_links}
use Rattle.demands.specs.History.{Stored, History, chunk_in, of_slides, slide_links, links_of}
use Rattle.demands.specs.Implementation.{State}
use Rattle.demands.specs.Agrees.{spot_in_of, SlideKept, Agrees}
use Rattle.demands.proofs.Lists.{map_onto, same_test, fails, none_later, split_at}
use Rattle.demands.proofs.BySlide.{label_by}

-- ---- lists

-- links of one slide all get its label
one_label : (label : ℕ → ℕ) (t : ℕ) (ss : List Stored)
    → map (label_by label) (slide_links t ss) ≡ map (labelled (label t)) (links_of (slide_links t ss))
unfolding of_slides
one_label label t [] = refl
one_label label t (s ∷ ss) = go (eqb s.slide t) refl (one_label label t ss)
  where
    go : (u : Bool) → eqb s.slide t ≡ u
        → map (label_by label) (slide_links t ss) ≡ map (labelled (label t)) (links_of (slide_links t ss))
        → map (label_by label) (slide_links t (s ∷ ss)) ≡ map (labelled (label t)) (links_of (slide_links t (s ∷ ss)))
    go true e on = rw (e, eqb-true s.slide t e, on)
    go false e on = rw e on

module _ {h : History} {s : State} (a : Agrees h s) where
  abbrev n : ℕ
  n = h.clock.n

  abbrev q : ℕ
  q = chunk_in h

  range : InRange h.clock
  range = a.sensible.range

  -- ---- the slide at place p of the chunk

  abbrev slide_at : ℕ → ℕ
  slide_at p = n * q + p

  chunk_at : (p : ℕ) → p < n → slide_at p / n ≡ q
  chunk_at p h = rw (mul-add-div range.n_least q p, div-eq_of_lt h) (add-zero q)

  place_at : (p : ℕ) → p < n → slide_at p % n ≡ p
  place_at p h = mul-add-mod_self_left n q p ∙ mod-eq_of_lt h

  -- its links, as the book reads them
  place_links_lem : (p : ℕ) → p < n → place_links s.book.counts s.log (half_of q) p ≡ reverse (links_of (slide_links (slide_at p) h.links))
  place_links_lem p l =
      let k : SlideKept h s (slide_at p) = a.kept (slide_at p) (inl (chunk_at p l)) in
      let spot : spot_of (half_of q) p ≡ spot_in_of h (slide_at p) = rw (chunk_at p l, place_at p l) in
      rw (spot, k.count) k.links

  -- ---- the slides of the chunk at place p or above

  abbrev from_place_of : ℕ → ℕ → Bool
  from_place_of p t = eqb (t / n + 1) (q + 1) && leb p (t % n)

  from_place : (p t : ℕ) → (from_place_of p t ≡ true) ↔ ((t / n ≡ q) × (p ≤ t % n))
  from_place p t = (
    λ e.
        let w = (and-eq-true_iff (eqb (t / n + 1) (q + 1)) (leb p (t % n))).0 e in
        let next : t / n + 1 ≡ q + 1 = eqb-true _ _ w.0 in
        (omega arith, leb-true _ _ w.1),
    λ w. rw (eq-eqb (t / n + 1) (q + 1) (omega arith), le-leb p (t % n) w.1),
  )

  -- a slide of the chunk is its first slide and its place
  of_chunk_lem : (t : ℕ) → t / n ≡ q → n * q + t % n ≡ t
  of_chunk_lem t e = rw (← e) (div-add-mod t n)

  -- slides later than the one at place p, and slides up to it
  above : (p : ℕ) → p < n → (t : ℕ) → slide_at p < t → (eqb t (slide_at p) ≡ false) × (from_place_of p t ≡ from_place_of (suc p) t)
  above p l t later = (
    ne_eqb t (slide_at p) (λ e. omega arith),
    same_test _ _
        (λ e. let w = (from_place p t).0 e in (from_place (suc p) t).1 (w.0, omega (arith, of_chunk_lem t w.0)))
        (λ e. let w = (from_place (suc p) t).0 e in (from_place p t).1 (w.0, omega arith)),
  )

  below : (p : ℕ) → p < n → (t : ℕ) → t ≤ slide_at p → (from_place_of (suc p) t ≡ false) × (from_place_of p t ≡ eqb t (slide_at p))
  below p l t up = (
    fails _ (λ e. let w = (from_place (suc p) t).0 e in omega (arith, of_chunk_lem t w.0)),
    same_test _ _
        (λ e. let w = (from_place p t).0 e in eq-eqb t (slide_at p) (omega (arith, of_chunk_lem t w.0)))
        (λ e.
        let there : t ≡ slide_at p = eqb-true _ _ e in
        (from_place p t).1 (rw there (chunk_at p l), rw (there, place_at p l) (le_refl p))),
  )

  abbrev labels : List Stored → List Labelled
  labels ss = map (label_by (λ t. t % n)) ss

  abbrev links_at : ℕ → List Stored
  links_at p = slide_links (slide_at p) h.links

  one_place : (p : ℕ) → p < n → labels (links_at p) ≡ map (labelled p) (links_of (links_at p))
  one_place p l =
      one_label (λ t. t % n) (slide_at p) h.links ∙ ap (λ r. map (labelled r) (links_of (links_at p))) (place_at p l)

  nothing_above : (p : ℕ) → p ≡ n → of_slides (from_place_of p) h.links ≡ []
  nothing_above p e =
      none_later a.sensible.falling (from_place_of p)
      (λ t l. fails _ (λ w. omega (arith, ((from_place p t).0 w).1, mod-lt t range.n_least)))

  next_place : (p : ℕ) → p < n → of_slides (from_place_of p) h.links ≡ of_slides (from_place_of (suc p)) h.links ++ links_at p
  next_place p l =
      split_at a.sensible.falling (from_place_of p) (from_place_of (suc p)) (λ t. eqb t (slide_at p)) (slide_at p) (above p l) (below p l)

  -- the last m places of the chunk, which begin at place p
  chunk_from : (m p : ℕ) → p + m ≡ n
      → chunk_links s.book.counts s.log (half_of q) p m ≡ reverse (labels (of_slides (from_place_of p) h.links))
  unfolding chunk_links
  chunk_from zero p e =
      sym (ap (λ ss. reverse (labels ss)) (nothing_above p (omega arith)))
  chunk_from (suc m) p e =
      let l : p < n = omega arith in
      let late : List Stored = of_slides (from_place_of (suc p)) h.links in
      let here : List Stored = links_at p in
      ap₂ (λ ls ms. map (labelled p) ls ++ ms) (place_links_lem p l) (chunk_from m (suc p) (omega arith))
      ∙ ap (λ ls. ls ++ reverse (labels late)) (map_onto (labelled p) (links_of here) [] ∙ ap reverse (sym (one_place p l)))
      ∙ sym (ap reverse (map-append (label_by (λ t. t % n)) late here) ∙ reverse-append (labels late) (labels here))
      ∙ ap (λ ss. reverse (labels ss)) (sym (next_place p l))

  -- the backward forest's links, once the next chunk is open
  pub chunk_ends : chunk_links s.book.counts s.log (half_of q) 1 (n - 1) ≡ reverse (labels (of_slides (from_place_of 1) h.links))
  chunk_ends = chunk_from (n - 1) 1 (omega (arith, range.n_least))
