-- Where links stand in the log, and which links a place and a chunk hold (RULES 7, on the
-- log; docs/BOOK.md, the log).
use Rattle.std.specs.Prelude.{ℕ, zero, suc, ◌+◌, ◌*◌, ◌%◌, ◌≤◌, cond, ◌&&◌, List, [], ◌∷◌, ◌++◌, map, eqb, ltb, length, get_or}
use Rattle.numbers.specs.Kinds.{Counts, Log, Place, Slide}
use Rattle.graph.specs.Link.{Link}
use Rattle.graph.specs.Forest.{Labelled}
use Rattle.slides.specs.Clock.{open_slide_of, chunk_of, place_of}
use Rattle.slides.specs.declared.Clock.{Clock}
use Rattle.book_state.specs.declared.Book.{Book}
use Rattle.book_state.specs.Arrays.{cells}

-- the half of the log that a chunk has
abbrev pub half_of : ℕ → ℕ
half_of chunk = chunk % 2

-- the spot of a place in the counts and in the log
abbrev pub spot_of : (half : ℕ) (place : Place) → ℕ
spot_of half place = half * 16 + place

-- the log place of a spot's first link
abbrev pub start_of : ℕ → ℕ
start_of spot = spot * 512

-- a pair with an entry that is no cell is no link
abbrev pub keep : Link → List Link → List Link
keep l ls = cond (ltb l.one cells && ltb l.other cells) (l ∷ ls) ls

-- the two entries at a log place
abbrev pub pair_at : (log : Log) (at : ℕ) → Link
pair_at log at = record { one = get_or log at 0; other = get_or log (at + 1) 0 }

-- `count` links starting at `at`, in order of arrival
unfoldable pub links_at : (log : Log) (at count : ℕ) → List Link
links_at log at zero = []
links_at log at (suc more) = keep (pair_at log at) (links_at log (at + 2) more)

-- the links of a place, in order of arrival
abbrev pub place_links : (counts : Counts) (log : Log) (half : ℕ) (place : Place) → List Link
place_links counts log half place = links_at log (start_of (spot_of half place)) (get_or counts (spot_of half place) 0)

-- a link with the place as its label
abbrev pub labelled : (place : Place) (l : Link) → Labelled
labelled place l = record { label = place; link = l }

-- the links of `count` places starting at `place`, in order of arrival, each with its place as label
unfoldable pub chunk_links : (counts : Counts) (log : Log) (half : ℕ) (place : Place) (count : ℕ) → List Labelled
chunk_links counts log half place zero = []
chunk_links counts log half place (suc more) =
    map (labelled place) (place_links counts log half place) ++ chunk_links counts log half (suc place) more

-- what the step of time needs to read a chunk's links: its places are spots, a spot holds at most 256 links, and the log has
-- places for all 32 spots
pub record Readable (n : ℕ) (counts log : List ℕ) : Type 0 where
  pub n_least : 1 ≤ n
  pub n_most : n ≤ 16
  pub few : (spot : ℕ) → get_or counts spot 0 ≤ 256
  pub long : start_of 32 ≤ length log

-- how many links the slide holds already: none, unless it is of the open chunk
abbrev pub stored_in : (clock : Clock) (counts : Counts) (slide : Slide) → ℕ
stored_in clock counts slide =
    let chunk : ℕ = chunk_of clock slide in
    cond (eqb chunk (chunk_of clock (open_slide_of clock))) (get_or counts (spot_of (half_of chunk) (place_of clock slide)) 0) 0

unfoldable pub stored : (book : Book) (slide : Slide) → ℕ
stored b slide = stored_in b.clock b.counts slide
