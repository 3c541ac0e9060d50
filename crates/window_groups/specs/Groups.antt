-- The groups of a window's links (RULES 8): cells that the links chain together. Of each group its smallest cell, how many cells
-- it has, and the least hold over its pairs. Nothing here speaks of forests.
use Rattle.std.specs.Prelude.{ℕ, suc, ◌-◌, min, Bool, cond, List, [], ◌∷◌, map, length}
use Rattle.numbers.specs.Kinds.{Cell, Counts, Log}
use Rattle.graph.specs.Link.{chains}
use Rattle.graph.specs.Forest.{Labelled}
use Rattle.forest.specs.Arrays.{count_from}
use Rattle.book_state.specs.Arrays.{cells}
use Rattle.slides.specs.declared.Clock.{Clock}
use Rattle.window.specs.Window.{window_links, links_from_label, highest}
use Rattle.window_groups.specs.declared.Groups.{Groups}

-- the cells of a list that pass a test
unfoldable pub filter : (test : Cell → Bool) (cells : List Cell) → List Cell
filter test [] = []
filter test (c ∷ cs) =
    let rest : List Cell = filter test cs in
    cond (test c) (c ∷ rest) rest

-- the cells that the links chain with c, in order of their numbers
abbrev pub group_of : (links : List Labelled) (cell : Cell) → List Cell
group_of xs c = filter (chains (links_from_label 1 xs) c) (count_from 0 cells)

-- the first cell of a list in order: the smallest
unfoldable pub smallest : (cells : List Cell) → Cell
smallest [] = 0
smallest (c ∷ cs) = c

-- for how many further closings two different cells stay joined
abbrev pub hold_of : (n : ℕ) (links : List Labelled) (one other : Cell) → ℕ
hold_of n xs one other = highest (suc n) xs one other - 1

-- the least of what c has with another cell of the list; `top` where there is none
unfoldable pub least_with : (top : ℕ) (hold : Cell → Cell → ℕ) (cell : Cell) (others : List Cell) → ℕ
least_with top hold c [] = top
least_with top hold c (d ∷ ds) = min (hold c d) (least_with top hold c ds)

-- the least over the pairs of a list
unfoldable pub least_over : (top : ℕ) (hold : Cell → Cell → ℕ) (cells : List Cell) → ℕ
least_over top hold [] = top
least_over top hold (c ∷ cs) = min (least_with top hold c cs) (least_over top hold cs)

-- the least hold over the pairs of a list; n, read as "always", where there are none
abbrev pub least_hold : (n : ℕ) (links : List Labelled) (cells : List Cell) → ℕ
least_hold n xs cs = least_over n (hold_of n xs) cs

-- what f gives of each cell
abbrev pub of_cells : (f : Cell → ℕ) → List ℕ
of_cells f = map f (count_from 0 cells)

-- of each cell its group's smallest cell, number of cells and least hold; and the links of the window, repeats counted
unfoldable pub groups_of : (clock : Clock) (counts : Counts) (log : Log) → Groups
groups_of clock counts log =
    let xs : List Labelled = window_links clock counts log in
    record {
      first = of_cells (λ c. smallest (group_of xs c));
      count = of_cells (λ c. length (group_of xs c));
      hold = of_cells (λ c. least_hold clock.n xs (group_of xs c));
      links = length xs;
    }
