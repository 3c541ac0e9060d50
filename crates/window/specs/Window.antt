-- The links of the current window (RULES 2.5), by a book's clock and counts and its log, and the newest slide from which on
-- links chain two cells (RULES 5).
--
-- Each link is labelled by its slide: n for the open slide k, n - 1 for the slide before it, and so on down to 1. So the links
-- with label j or more are those of slides k + j - n to k, and a newer slide has a higher label.
use Rattle.std.specs.Prelude.{ℕ, zero, suc, ◌+◌, ◌-◌, min, cond, List, [], ◌++◌, map}
use Rattle.numbers.specs.Kinds.{Cell, Counts, Label, Log, Slide}
use Rattle.graph.specs.Link.{Link, chains}
use Rattle.graph.specs.Forest.{Labelled, at_least}
use Rattle.slides.specs.Clock.{open_slide_of, chunk_of, place_of}
use Rattle.slides.specs.declared.Clock.{Clock}
use Rattle.book_state.specs.Log.{half_of, place_links, labelled}

-- the open slide and the n - 1 slides before it, as far as they exist
abbrev pub window_slides_of : (clock : Clock) → ℕ
window_slides_of clock = min clock.n (open_slide_of clock + 1)

-- the links of the slide `age` slides before the open one, in order of arrival
abbrev pub links_of_age : (clock : Clock) (counts : Counts) (log : Log) (age : ℕ) → List Link
links_of_age clock counts log age =
    let slide : Slide = open_slide_of clock - age in
    place_links counts log (half_of (chunk_of clock slide)) (place_of clock slide)

-- each with its label
abbrev pub slide_links : (clock : Clock) (counts : Counts) (log : Log) (age : ℕ) → List Labelled
slide_links clock counts log age = map (labelled (clock.n - age)) (links_of_age clock counts log age)

-- the links of `count` slides, the first of them of this age, each next one a slide older
unfoldable pub links_from_age : (clock : Clock) (counts : Counts) (log : Log) (age count : ℕ) → List Labelled
links_from_age clock counts log age zero = []
links_from_age clock counts log age (suc more) = slide_links clock counts log age ++ links_from_age clock counts log (suc age) more

-- the links of the window, newest slide first
unfoldable pub window_links : (clock : Clock) (counts : Counts) (log : Log) → List Labelled
window_links clock counts log = links_from_age clock counts log 0 (window_slides_of clock)

-- the links with label j or more
abbrev pub links_from_label : (j : Label) (links : List Labelled) → List Link
links_from_label j xs = map (λ x. x.link) (at_least j xs)

-- the largest label, from `top` down, such that the links from it on chain the two; 0 where there is none
unfoldable pub highest : (top : Label) (links : List Labelled) (one other : Cell) → Label
highest zero xs one other = 0
highest (suc j) xs one other =
    let lower : Label = highest j xs one other in
    cond (chains (links_from_label (suc j) xs) one other) (suc j) lower
