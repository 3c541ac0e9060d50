-- The links of the window, for every book and log: both ends of each are cells, labels are 1 to n and never rise along the
-- list, since a newer slide has a higher label. In a book in order there are at most 4,096. The links of the newest slides are those
-- from a label on.
use Prim.Native.Nat.{ℕ, zero, suc, ◌+◌, ◌-◌, ◌*◌, ◌≤◌, ◌<◌}
use mathlib.Core.Path.{◌≡◌, refl, ap, ◌∙◌}
use mathlib.Core.Bool.{Bool, true, false, cond, ◌&&◌}
use mathlib.Core.List.{List, [], ◌∷◌, ◌++◌, map, append-nil, append_assoc, map-append}
use native.Mathlib.Omega.{arith}
use native.Mathlib.Nat.{le_refl, le_trans, zero-add, add-zero, add-suc, suc-add}
use lib.Dec.{ltb}
use lib.ListN.{length, get_or, length-append, length-map}
use Rattle.graph.specs.Link.{Link}
use Rattle.graph.specs.Forest.{Labelled, at_least, Each, empty, EndsBelow}
use Rattle.graph.proofs.Cut.{each_map, all_at_least}
use Rattle.slides.specs.Clock.{open_slide_of}
use Rattle.slides.specs.declared.Clock.{Clock}
use Rattle.book_state.specs.Arrays.{cells}
use Rattle.book_state.specs.Log.{Readable, pair_at, labelled, links_at}
use Rattle.book_state.proofs.LogLinks.{each_append, each_labelled, kept_cells}
use Rattle.window.specs.Window as window
use Rattle.window.specs.Window.{window_slides_of, links_of_age, slide_links, links_from_age, window_links}
use Rattle.window.specs.LabelsFall.{LabelsFall, none}
use Rattle.window.proofs.Falling.{falls_higher, falls_slide, falls_none}

-- at most as many links as pairs
links_few : (log : List ℕ) (at n : ℕ) → length (links_at log at n) ≤ n
unfolding links_at
links_few log at zero = omega arith
links_few log at (suc n) = go (ltb (pair_at log at).one cells && ltb (pair_at log at).other cells) (links_few log (at + 2) n)
  where
    go : (t : Bool) → length (links_at log (at + 2) n) ≤ n
        → length (cond t (pair_at log at ∷ links_at log (at + 2) n) (links_at log (at + 2) n)) ≤ suc n
    go true h = omega arith
    go false h = omega arith

-- the links with label j or more of two lists in a row
at_least_append : (j : ℕ) (xs ys : List Labelled) → at_least j (xs ++ ys) ≡ at_least j xs ++ at_least j ys
unfolding at_least
at_least_append j [] ys = refl
at_least_append j (x ∷ xs) ys = rw (at_least_append j xs ys) (go (ltb x.label j))
  where
    go : (t : Bool) → cond t (at_least j xs ++ at_least j ys) (x ∷ (at_least j xs ++ at_least j ys)) ≡ cond t (at_least j xs) (x ∷ at_least j xs) ++ at_least j ys
    go true = refl
    go false = refl

links_of_lem : (label : ℕ) (ls : List Link) → map (λ x. x.link) (map (labelled label) ls) ≡ ls
links_of_lem label [] = refl
links_of_lem label (l ∷ ls) = ap (λ ms. l ∷ ms) (links_of_lem label ls)

module _ (clock : Clock) (counts log : List ℕ) where
  -- a slide has at most 256 links, if each count is such
  pub slide_few : (age : ℕ) → ((spot : ℕ) → get_or counts spot 0 ≤ 256) → length (slide_links clock counts log age) ≤ 256
  slide_few age few = rw length-map (le_trans (links_few log _ _) (few _))

  -- slide by slide
  each_slide : {P : Labelled → Type 0} (age more : ℕ)
      → ((a : ℕ) → a < age + more → Each P (slide_links clock counts log a)) → Each P (links_from_age clock counts log age more)
  unfolding links_from_age
  each_slide age zero g = empty
  each_slide age (suc more) g = each_append (g age (omega arith)) (each_slide (suc age) more (λ a h. g a (omega arith)))

  pub window_ends_lem : EndsBelow cells (window_links clock counts log)
  unfolding window_links
  window_ends_lem = each_slide 0 (window_slides_of clock) (λ a h. kept_cells _ log _ _)

  pub window_labels : Each (λ x. (1 ≤ x.label) × (x.label ≤ clock.n)) (window_links clock counts log)
  unfolding window_links
  window_labels =
      each_slide 0 (window_slides_of clock) (λ a h. each_labelled (λ l. (1 ≤ l) × (l ≤ clock.n)) _ (omega arith, omega arith) (links_of_age clock counts log a))

  -- a slide before slide 0 has no links
  pub window_oldest : Each (λ x. clock.n ≤ open_slide_of clock + x.label) (window_links clock counts log)
  unfolding window_links
  window_oldest =
      each_slide 0 (window_slides_of clock)
      (λ a h. each_labelled (λ l. clock.n ≤ open_slide_of clock + l) _ (omega arith) (links_of_age clock counts log a))

  falls_from : (age more : ℕ) → LabelsFall (clock.n - age) (links_from_age clock counts log age more)
  unfolding links_from_age
  falls_from age zero = none
  falls_from age (suc more) = falls_slide _ (links_of_age clock counts log age) (le_refl _) (falls_higher (omega arith) (falls_from (suc age) more))

  pub window_falls : LabelsFall clock.n (window_links clock counts log)
  unfolding window_links
  window_falls = falls_higher (omega arith) (falls_from 0 (window_slides_of clock))

  -- all have a label of 1 or more
  pub window_all : window.links_from_label 1 (window_links clock counts log) ≡ map (λ x. x.link) (window_links clock counts log)
  window_all = ap (map (λ x. x.link)) (all_at_least 1 (each_map (λ x p. p.0) window_labels))

  few_from : ((spot : ℕ) → get_or counts spot 0 ≤ 256) → (age more : ℕ) → length (links_from_age clock counts log age more) ≤ more * 256
  unfolding links_from_age
  few_from held age zero = omega arith
  few_from held age (suc more) = rw length-append (omega (arith, slide_few age held, few_from held (suc age) more))

  pub window_few : Readable clock.n counts log → length (window_links clock counts log) ≤ 4096
  unfolding window_links
  window_few r = omega (arith, few_from r.few 0 (window_slides_of clock), r.n_most)

  -- ---- the newest slides

  -- the links of the newest slides, without their labels
  abbrev pub newest_links : (slides : ℕ) → List Link
  newest_links slides = map (λ x. x.link) (links_from_age clock counts log 0 slides)

  pub newest_ends : (slides : ℕ) → EndsBelow cells (links_from_age clock counts log 0 slides)
  newest_ends slides = each_slide 0 slides (λ a h. kept_cells _ log _ _)

  pub newest_few : Readable clock.n counts log → (slides : ℕ) → slides ≤ window_slides_of clock → length (links_from_age clock counts log 0 slides) ≤ 4096
  newest_few r slides h = omega (arith, few_from r.few 0 slides, r.n_most)

  -- some slides, and then some more
  from_more : (age count more : ℕ) → links_from_age clock counts log age (count + more) ≡ links_from_age clock counts log age count ++ links_from_age clock counts log (age + count) more
  unfolding links_from_age
  from_more age zero more = rw (zero-add more, add-zero age)
  from_more age (suc count) more =
      rw (suc-add count more, add-suc age count, ← suc-add age count, append_assoc)
      (ap (λ xs. slide_links clock counts log age ++ xs) (from_more (suc age) count more))

  -- one slide more
  pub slides_more : (slides : ℕ) → links_from_age clock counts log 0 (slides + 1) ≡ links_from_age clock counts log 0 slides ++ slide_links clock counts log slides
  unfolding links_from_age
  slides_more slides = from_more 0 slides 1 ∙ rw (zero-add slides, append-nil)

  pub newest_more : (slides : ℕ) → newest_links (slides + 1) ≡ newest_links slides ++ links_of_age clock counts log slides
  newest_more slides =
      ap (map (λ x. x.link)) (slides_more slides)
      ∙ map-append (λ x. x.link) (links_from_age clock counts log 0 slides) (slide_links clock counts log slides)
      ∙ ap (λ ls. newest_links slides ++ ls) (links_of_lem _ (links_of_age clock counts log slides))

  -- the links of the newest slides are those from a label on
  pub newest_are : (slides : ℕ) → slides ≤ window_slides_of clock → window.links_from_label (suc clock.n - slides) (window_links clock counts log) ≡ newest_links slides
  unfolding window_links
  newest_are slides h =
      ap (window.links_from_label j) whole ∙ ap (map (λ x. x.link)) (at_least_append j (links_from_age clock counts log 0 slides) older ∙ kept)
    where
      j : ℕ
      j = suc clock.n - slides

      older : List Labelled
      older = links_from_age clock counts log slides (window_slides_of clock - slides)

      whole : links_from_age clock counts log 0 (window_slides_of clock) ≡ links_from_age clock counts log 0 slides ++ older
      whole =
          let sum : window_slides_of clock ≡ slides + (window_slides_of clock - slides) = omega arith in
          ap (links_from_age clock counts log 0) sum ∙ from_more 0 slides (window_slides_of clock - slides) ∙ rw (zero-add slides)

      newer : Each (λ x. j ≤ x.label) (links_from_age clock counts log 0 slides)
      newer = each_slide 0 slides (λ a k. each_labelled (λ l. j ≤ l) _ (omega arith) (links_of_age clock counts log a))

      kept : at_least j (links_from_age clock counts log 0 slides) ++ at_least j older ≡ links_from_age clock counts log 0 slides
      kept = rw (all_at_least j newer, falls_none (falls_from slides (window_slides_of clock - slides)) j (omega arith), append-nil)
