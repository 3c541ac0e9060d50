-- The window's links as they are gathered for the trail.
--
-- The links from the label on are those of the newest slides (window, `newest_are`). These alone are gathered, and the best trail is asked for
-- over them. A window's oldest link is of slide 0 or later, so L is no less than 0.
use Rattle.std.proofs.Common.{◌≡◌, ℕ, suc, ◌+◌, ◌-◌, ◌≤◌, ◌<◌, true, List, map, length, take, sym, ap, ◌∙◌, arith}
use native.Mathlib.Decide.{dec_le}
use Rattle.graph.specs.Link.{Chained}
use Rattle.graph.specs.Forest.{Labelled}
use Rattle.graph.specs.Trail.{trail_of}
use Rattle.graph.proofs.Cut.{each_map, all_at_least}
use Rattle.slides.specs.Clock.{open_slide_of}
use Rattle.slides.specs.declared.Clock.{Clock}
use Rattle.book_state.specs.Log.{Readable}
use Rattle.book_state.specs.Numbers.{are_cells_of}
use Rattle.book_state.proofs.Checks.{two_cells}
use Rattle.window.specs.Window.{window_slides_of, links_from_age, window_links, links_from_label}
use Rattle.window.specs.Gathered.{LinksPut, blank}
use Rattle.window.proofs.Gathered.{Fronts, put_fronts}
use Rattle.window.proofs.Highest.{highest_exactly, highest_most}
use Rattle.window.proofs.WindowLinks.{window_all, window_oldest, newest_links, newest_ends, newest_few, newest_are}
use Rattle.chain_fewest.specs.Lists.{links_of}
use Rattle.chain_fewest.specs.Best.{TrailAskable, TrailGiven}
use Rattle.chain.specs.Chain.{chain_places, label_of, chain_cells}
use Rattle.chain.proofs.Sides.{front_links, front_asked}

module _ (clock : Clock) (counts log : List ℕ) (one other : ℕ) where
  abbrev links : List Labelled
  links = window_links clock counts log

  abbrev label : ℕ
  label = label_of clock counts log one other

  module _ {j : ℕ} (is : j ≡ label) where
    pub label_few : j ≤ suc clock.n
    label_few = rw is (highest_most links one other (suc clock.n))

    module _ (joined : 0 < j) where
      chained : Chained (links_from_label j links) one other
      chained =
          (highest_exactly links one other (suc clock.n) j joined label_few).1 (omega (arith, is))

      -- L is no less than 0
      pub newest_is : clock.n ≤ open_slide_of clock + j
      newest_is = go (dec_le clock.n (open_slide_of clock))
        where
          all : links_from_label (clock.n - open_slide_of clock) links ≡ links_from_label 1 links
          all = ap (map (λ x. x.link)) (all_at_least _ (each_map (λ x p. omega (arith, p)) (window_oldest clock counts log))) ∙ sym (window_all clock counts log)

          go : Dec (clock.n ≤ open_slide_of clock) → clock.n ≤ open_slide_of clock + j
          go (yes h) = omega arith
          go (no h) =
              let exactly = highest_exactly links one other (suc clock.n) in
              let first : Chained (links_from_label 1 links) one other = (exactly 1 (omega arith) (omega arith)).1 (omega (arith, is)) in
              omega (arith, is, (exactly (clock.n - open_slide_of clock) (omega arith) (omega arith)).0 (rw all first))

      -- ---- the links as they are gathered

      -- the slides from the label on are slides of the window
      pub slides_fit : clock.n + 1 - j ≤ window_slides_of clock
      slides_fit = omega (arith, newest_is, label_few)

      -- and their links are those that chain the two
      newest : newest_links clock counts log (clock.n + 1 - j) ≡ links_from_label j links
      newest =
          let e : suc clock.n - (clock.n + 1 - j) ≡ j = omega (arith, label_few) in
          rw e at (sym (newest_are clock counts log (clock.n + 1 - j) slides_fit))

      module _ (readable : Readable clock.n counts log) {ones others labels : List ℕ} {count : ℕ}
          (put : LinksPut (links_from_age clock counts log 0 (clock.n + 1 - j)) 0 blank blank blank count ones others labels) where
        few : length (links_from_age clock counts log 0 (clock.n + 1 - j)) ≤ 4096
        few = newest_few clock counts log readable _ slides_fit

        fronts : Fronts (links_from_age clock counts log 0 (clock.n + 1 - j)) count ones others labels
        fronts = put_fronts put few

        pub asked : {chain : List ℕ} → chain_places ≤ length chain → are_cells_of one other ≡ true → TrailAskable (take count ones) (take count others) one other chain
        asked long are =
            let two = two_cells are in front_asked fronts (newest_ends clock counts log _) few two.0 two.1 long (rw newest chained)

        pub given : {chain : List ℕ} {r : ℕ} {after : List ℕ}
            → TrailGiven (trail_of (links_of (take count ones) (take count others)) one other) chain r after → TrailGiven (chain_cells clock counts log one other) chain r after
        given g = rw (front_links fronts, newest, is) at g
