-- The label of the slide in which two cells meet, when slides are joined newest first, is the highest label from which on links chain
-- them: the links of the newest slides are those from a label on (window, `newest_are`).
use Prim.Native.Nat.{ℕ, suc, ◌+◌, ◌-◌, ◌≤◌, ◌<◌}
use mathlib.Core.Path.{◌≡◌, sym, ◌∙◌, ap}
use mathlib.Core.List.{List}
use native.Mathlib.Omega.{arith}
use native.Mathlib.Decide.{dec_le}
use native.Mathlib.Nat.{le_refl, le_antisymm}
use Rattle.graph.specs.Link.{Chained, same}
use Rattle.forest.specs.Arrays.{places, fresh_parents_of}
use Rattle.slides.specs.declared.Clock.{Clock}
use Rattle.window.specs.Window.{window_slides_of, links_of_age, links_from_age, links_from_label, window_links, highest}
use Rattle.window.proofs.Highest.{chained_highest, highest_chained, highest_most}
use Rattle.window.proofs.WindowLinks.{newest_links, newest_more, newest_are, window_all}
use Rattle.forest_scratch.specs.declared.Roots.{Roots}
use Rattle.chain_newest.specs.Tracks.{Tracks, Follows}
use Rattle.chain_newest.proofs.Following.{tracks_fresh, tracks_apart}

module _ (clock : Clock) (counts log : List ℕ) (one other : ℕ) where
  abbrev label : ℕ
  label = highest (suc clock.n) (window_links clock counts log) one other

  -- the newest `age` slides are joined, and do not chain the two
  pub record Searching (ps : List ℕ) (roots : Roots) (age : ℕ) : Type 0 where
    pub within : age ≤ window_slides_of clock
    pub tracks : Tracks (newest_links clock counts log age) one other ps roots
    pub apart : roots.one ≡ roots.other → ⊥

  pub searching_none : {ps : List ℕ} → (one ≡ other → ⊥) → ps ≡ fresh_parents_of places → Searching ps (record { one = one; other = other }) 0
  unfolding links_from_age
  searching_none n e = record { within = omega arith; tracks = rw e (tracks_fresh one other); apart = n }

  -- a cell and itself are chained with no link at all
  pub label_same : one ≡ other → clock.n + 1 ≡ label
  label_same e =
      let most = highest_most (window_links clock counts log) one other (suc clock.n) in
      omega (arith, most, chained_highest (window_links clock counts log) one other (suc clock.n) (suc clock.n) (le_refl _) (same e))

  module _ {ps : List ℕ} {roots : Roots} {age : ℕ} (s : Searching ps roots age) where
    -- so the label is lower than that of the newest of the other slides
    low : label ≤ clock.n - age
    low = go (dec_le (suc clock.n - age) label)
      where
        go : Dec (suc clock.n - age ≤ label) → label ≤ clock.n - age
        go (yes h) =
            absurd (tracks_apart s.tracks s.apart
            (rw (← newest_are clock counts log age s.within) (highest_chained (window_links clock counts log) one other (suc clock.n) _ (omega (arith, s.within)) h)))
        go (no h) = omega arith

    pub searched : window_slides_of clock ≤ age → 0 ≡ label
    unfolding window_links
    searched h = go (dec_le 1 label)
      where
        all : newest_links clock counts log age ≡ links_from_label 1 (window_links clock counts log)
        all =
            let e : age ≡ window_slides_of clock = omega (arith, s.within) in
            ap (newest_links clock counts log) e ∙ sym (window_all clock counts log)

        go : Dec (1 ≤ label) → 0 ≡ label
        go (yes l) =
            absurd (tracks_apart s.tracks s.apart
            (rw all (highest_chained (window_links clock counts log) one other (suc clock.n) 1 (le_refl 1) l)))
        go (no l) = omega arith

    module _ (more : age < window_slides_of clock) {ps' : List ℕ} {to : Roots} (f : Follows (links_of_age clock counts log age) ps roots ps' to) where
      pub searching_met : to.one ≡ to.other → clock.n - age ≡ label
      searching_met e = le_antisymm (chained_highest (window_links clock counts log) one other (suc clock.n) _ (omega arith) chained) low
        where
          slides : suc clock.n - (age + 1) ≡ clock.n - age
          slides = omega arith

          chained : Chained (links_from_label (clock.n - age) (window_links clock counts log)) one other
          chained =
              rw (← slides, newest_are clock counts log (age + 1) (omega arith), newest_more clock counts log age)
              (f.met _ one other s.tracks e)

      pub searching_more : (to.one ≡ to.other → ⊥) → Searching ps' to (age + 1)
      searching_more n =
          record {
            within = omega arith;
            tracks = rw (newest_more clock counts log age) (f.apart _ one other s.tracks n);
            apart = n;
          }
