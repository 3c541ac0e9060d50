-- The links of a history, slide by slide. Links picked by a test on slides are the links of the slides that pass it (`in_slide`,
-- `of_slide`), so two tests pick links of the same cells where they pass the same slides. Labels and the order of a list do not
-- change which cells are linked, and a cut removes whole slides.
use Prim.Native.Nat.{ℕ, ◌≤◌}
use mathlib.Core.Path.{◌≡◌, refl, ◌∙◌, ap}
use mathlib.Core.Bool.{Bool, true, false, cond, ◌&&◌, not}
use mathlib.Core.List.{List, [], ◌∷◌, map, reverse, reverse_aux, reverse-cons, reverse-reverse}
use mathlib.Core.Logic.{⊎_elim}
use native.Mathlib.Nat.{le_trans}
use lib.Dec.{eqb, ltb}
use borrow.Author.Tests.{eqb-true, eq-eqb}
use Rattle.graph.specs.Link.{Link, Linked, here, there}
use Rattle.graph.specs.Forest.{Labelled, at_least, Each, also, NeverRise, lowest}
use Rattle.graph.proofs.Chains.{Relinks, linked_left, linked_append_cases}
use Rattle.graph.proofs.Cut.{each_map}
use Rattle.demands.specs.History.{Stored, of_slides, slide_links, links_of}
use Rattle.demands.specs.Agrees.{Falling, none, next}
use Rattle.demands.proofs.Lists.{map_onto}

-- ---- picked by slide

pick_there : (wanted : ℕ → Bool) (s : Stored) (ss : List Stored) → Relinks (links_of (of_slides wanted ss)) (links_of (of_slides wanted (s ∷ ss)))
unfolding of_slides
pick_there wanted s ss x y h = go (wanted s.slide)
  where
    go : (t : Bool) → Linked x y (links_of (cond t (s ∷ of_slides wanted ss) (of_slides wanted ss)))
    go true = there h
    go false = h

-- a link of a wanted slide is picked
pub of_slide : (wanted : ℕ → Bool) (t : ℕ) (ss : List Stored) → wanted t ≡ true → Relinks (links_of (slide_links t ss)) (links_of (of_slides wanted ss))
unfolding of_slides
of_slide wanted t [] w x y h = h
of_slide wanted t (s ∷ ss) w x y h = go (eqb s.slide t) refl h (λ l. pick_there wanted s ss x y (of_slide wanted t ss w x y l))
  where
    go : (b : Bool) → eqb s.slide t ≡ b → Linked x y (links_of (cond b (s ∷ slide_links t ss) (slide_links t ss))) →
        (Linked x y (links_of (slide_links t ss)) → Linked x y (links_of (of_slides wanted (s ∷ ss)))) → Linked x y (links_of (of_slides wanted (s ∷ ss)))
    go true e (here b) on = rw (eqb-true s.slide t e, w) (here b)
    go true e (there l) on = on l
    go false e l on = on l

-- two cells are linked in a wanted slide, up to slide k
pub record InSlide (wanted : ℕ → Bool) (k : ℕ) (ss : List Stored) (x y : ℕ) : Type 0 where
  pub slide : ℕ
  pub past : slide ≤ k
  pub picked : wanted slide ≡ true
  pub linked : Linked x y (links_of (slide_links slide ss))

-- and a picked link belongs to a wanted slide
pub in_slide : (wanted : ℕ → Bool) {k : ℕ} {ss : List Stored} → Falling k ss → (x y : ℕ) → Linked x y (links_of (of_slides wanted ss)) → InSlide wanted k ss x y
unfolding of_slides
in_slide wanted (none {k = k}) x y h = elim h [ ]
in_slide wanted {k} (next {s} {ss} le _ _ falls) x y h = go (wanted s.slide) refl h (λ l. later (in_slide wanted falls x y l))
  where
    later : InSlide wanted s.slide ss x y → InSlide wanted k (s ∷ ss) x y
    later i =
        record { slide = i.slide; past = le_trans i.past le; picked = i.picked; linked = pick_there (λ t. eqb t i.slide) s ss x y i.linked }

    go : (b : Bool) → wanted s.slide ≡ b → Linked x y (links_of (cond b (s ∷ of_slides wanted ss) (of_slides wanted ss))) →
        (Linked x y (links_of (of_slides wanted ss)) → InSlide wanted k (s ∷ ss) x y) → InSlide wanted k (s ∷ ss) x y
    go true e (here b) on = record { slide = s.slide; past = le; picked = e; linked = rw (eq-eqb s.slide s.slide refl) (here b) }
    go true e (there l) on = on l
    go false e l on = on l

-- ---- labelled by slide, cut, and reversed

-- a stored link, labelled by its slide
abbrev pub label_by : (ℕ → ℕ) → Stored → Labelled
label_by g s = record { label = g s.slide; link = s.link }

-- where a later slide never has a lower label, the labels of the reversed links never rise
module _ (g : ℕ → ℕ) (wanted : ℕ → Bool) (rise : (t u : ℕ) → wanted t ≡ true → wanted u ≡ true → t ≤ u → g t ≤ g u) where
  -- no label is below that of any wanted slide up to k
  abbrev Above : ℕ → List Labelled → Type 0
  Above k = Each (λ y. (t : ℕ) → wanted t ≡ true → t ≤ k → g t ≤ y.label)

  pub turned_falls : {k : ℕ} {ss : List Stored} → Falling k ss → (ys : List Labelled) → NeverRise ys → Above k ys →
      NeverRise (reverse_aux (map (label_by g) (of_slides wanted ss)) ys)
  unfolding of_slides
  turned_falls none ys low above = low
  turned_falls {k} (next {s} {ss} le _ _ falls) ys low above =
      go (wanted s.slide) refl (turned_falls falls) (each_map (λ y p t w l. p t w (le_trans l le)) above)
    where
      go : (b : Bool) → wanted s.slide ≡ b →
          ((zs : List Labelled) → NeverRise zs → Above s.slide zs → NeverRise (reverse_aux (map (label_by g) (of_slides wanted ss)) zs)) →
          Above s.slide ys →
          NeverRise (reverse_aux (map (label_by g) (cond b (s ∷ of_slides wanted ss) (of_slides wanted ss))) ys)
      go false e on above = on ys low above
      go true e on now =
          on (label_by g s ∷ ys) (lowest (each_map (λ y p. p s.slide e le) above) low) (also (λ t w l. rise t s.slide w e l) now)

-- a cut leaves the links of the slides whose labels are not below it
pub cut_picked : (cut : ℕ) (g : ℕ → ℕ) (wanted : ℕ → Bool) (ss : List Stored) →
    map (λ x. x.link) (at_least cut (map (label_by g) (of_slides wanted ss))) ≡ links_of (of_slides (λ t. wanted t && not (ltb (g t) cut)) ss)
unfolding at_least of_slides
cut_picked cut g wanted [] = refl
cut_picked cut g wanted (s ∷ ss) = go (wanted s.slide) (ltb (g s.slide) cut) refl (cut_picked cut g wanted ss)
  where
    go : (t b : Bool) → ltb (g s.slide) cut ≡ b →
        map (λ x. x.link) (at_least cut (map (label_by g) (of_slides wanted ss))) ≡ links_of (of_slides (λ t. wanted t && not (ltb (g t) cut)) ss) →
        map (λ x. x.link) (at_least cut (map (label_by g) (cond t (s ∷ of_slides wanted ss) (of_slides wanted ss))))
        ≡ links_of (cond (t && not b) (s ∷ of_slides (λ t. wanted t && not (ltb (g t) cut)) ss) (of_slides (λ t. wanted t && not (ltb (g t) cut)) ss))
    go false b e on = on
    go true true e on = rw e on
    go true false e on = rw e (ap (λ ls. s.link ∷ ls) on)

cut_reverse : (cut : ℕ) (xs ys : List Labelled) → at_least cut (reverse_aux xs ys) ≡ reverse_aux (at_least cut xs) (at_least cut ys)
unfolding at_least
cut_reverse cut [] ys = refl
cut_reverse cut (x ∷ xs) ys = cut_reverse cut xs (x ∷ ys) ∙ go (ltb x.label cut)
  where
    go : (t : Bool) → reverse_aux (at_least cut xs) (cond t (at_least cut ys) (x ∷ at_least cut ys)) ≡ reverse_aux (cond t (at_least cut xs) (x ∷ at_least cut xs)) (at_least cut ys)
    go true = refl
    go false = refl

pub cut_turned : (cut : ℕ) (xs : List Labelled) → map (λ x. x.link) (at_least cut (reverse xs)) ≡ reverse (map (λ x. x.link) (at_least cut xs))
unfolding at_least
cut_turned cut xs = ap (map (λ x. x.link)) (cut_reverse cut xs []) ∙ map_onto _ (at_least cut xs) []

-- a reversed list links the same cells
pub turned_links : (ls : List Link) → Relinks (reverse ls) ls
turned_links [] x y h = h
turned_links (l ∷ ls) x y h = ⊎_elim (λ k. there (turned_links ls x y k)) (linked_left ls) (linked_append_cases (reverse ls) (rw (reverse-cons l ls) at h))

pub links_turned : (ls : List Link) → Relinks ls (reverse ls)
links_turned ls x y h = turned_links (reverse ls) x y (rw (reverse-reverse ls) h)
