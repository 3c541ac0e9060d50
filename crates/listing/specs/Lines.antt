-- The lines of the listing (RULES 8): their words, and the lines of the groups, first from the groups themselves and then
-- from the arrays that the code has.
use Rattle.std.specs.Prelude.{ℕ, ◌≤◌, ◌<◌, Bool, true, false, ◌&&◌, List, [], ◌∷◌, ◌++◌, eqb, ltb, length, get_or}
use Rattle.numbers.specs.Kinds.{Bytes, Cell, Number}
use Rattle.graph.specs.Forest.{Labelled}
use Rattle.forest.specs.Arrays.{count_from}
use Rattle.book_state.specs.Arrays.{cells}
use Rattle.window_groups.specs.Groups.{group_of, smallest, least_hold}
use Rattle.text.specs.Text.{blank, line_feed, fields, line}

-- "window", "group", "links", "refused", "file"
abbrev pub window_word : Bytes
window_word = 119 ∷ 105 ∷ 110 ∷ 100 ∷ 111 ∷ 119 ∷ []

abbrev pub group_word : Bytes
group_word = 103 ∷ 114 ∷ 111 ∷ 117 ∷ 112 ∷ []

abbrev pub links_word : Bytes
links_word = 108 ∷ 105 ∷ 110 ∷ 107 ∷ 115 ∷ []

abbrev pub refused_word : Bytes
refused_word = 114 ∷ 101 ∷ 102 ∷ 117 ∷ 115 ∷ 101 ∷ 100 ∷ []

abbrev pub file_word : Bytes
file_word = 102 ∷ 105 ∷ 108 ∷ 101 ∷ []

-- "refused", the number and "file"
abbrev pub refused_file : (k : Number) → Bytes
refused_file k = refused_word ++ fields (k ∷ []) ++ (blank ∷ file_word ++ line_feed ∷ [])

-- "refused", the number and the record's place from 0
abbrev pub refused_record : (k : Number) (place : ℕ) → Bytes
refused_record k place = line refused_word (k ∷ place ∷ [])

-- ---- the groups

-- c is the smallest cell of a group of two or more
abbrev pub leads : (cell : Cell) (first count : ℕ) → Bool
leads c first count = eqb first c && ltb 1 count

-- smallest cell, number of cells, least hold over its pairs
unfoldable pub group_line_if : (shown : Bool) (cell : Cell) (count hold : ℕ) → Bytes
group_line_if true c count hold = line group_word (c ∷ count ∷ hold ∷ [])
group_line_if false c count hold = []

-- the line of a cell's group, if the cell leads it
abbrev pub group_line : (cell : Cell) (first count hold : ℕ) → Bytes
group_line c first count hold = group_line_if (leads c first count) c count hold

-- one line after the other
unfoldable pub lines_of : (text : Cell → Bytes) (cells : List Cell) → Bytes
lines_of text [] = []
lines_of text (c ∷ cs) = text c ++ lines_of text cs

-- one line per group of two or more cells, by smallest cell
abbrev pub group_lines : (n : ℕ) (links : List Labelled) → Bytes
group_lines n xs =
    lines_of (λ c. let group : List ℕ = group_of xs c in group_line c (smallest group) (length group) (least_hold n xs group)) (count_from 0 cells)

-- ---- from arrays that hold, for each cell, its group's smallest cell, number of cells and least hold

abbrev pub line_from_arrays : (firsts counts holds : List ℕ) (cell : Cell) → Bytes
line_from_arrays firsts counts holds c = group_line c (get_or firsts c 0) (get_or counts c 0) (get_or holds c 0)

abbrev pub lines_from_arrays : (firsts counts holds : List ℕ) → Bytes
lines_from_arrays firsts counts holds = lines_of (line_from_arrays firsts counts holds) (count_from 0 cells)

-- counts and holds have few digits
pub record FewDigits (counts holds : List ℕ) : Type 0 where
  pub count_most : (c : ℕ) → c < cells → get_or counts c 0 ≤ cells
  pub hold_most : (c : ℕ) → c < cells → get_or holds c 0 ≤ 16
