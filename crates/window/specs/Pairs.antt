-- The pairs of the log, as the code reads them: each is a list of its two entries.
use Rattle.std.specs.Prelude.{ℕ, zero, suc, ◌+◌, List, [], ◌∷◌, get_or}
use Rattle.numbers.specs.Kinds.{Cell, Counts, Log, Place}
use Rattle.graph.specs.Link.{Link}
use Rattle.book_state.specs.Log.{spot_of, start_of, keep}

-- `count` pairs starting at `at`, in order of arrival, each as it stands in the log
unfoldable pub pairs_at : (log : Log) (at count : ℕ) → List (List Cell)
pairs_at log at zero = []
pairs_at log at (suc more) = (get_or log at 0 ∷ get_or log (at + 1) 0 ∷ []) ∷ pairs_at log (at + 2) more

-- the pairs of a place, those that are no links too
abbrev pub place_pairs : (counts : Counts) (log : Log) (half : ℕ) (place : Place) → List (List Cell)
place_pairs counts log half place = pairs_at log (start_of (spot_of half place)) (get_or counts (spot_of half place) 0)

abbrev pub pair_link : (pair : List Cell) → Link
pair_link p = record { one = get_or p 0 0; other = get_or p 1 0 }

-- their links; a pair with an entry that is no cell is no link
unfoldable pub links_of_pairs : (pairs : List (List Cell)) → List Link
links_of_pairs [] = []
links_of_pairs (p ∷ ps) = keep (pair_link p) (links_of_pairs ps)
