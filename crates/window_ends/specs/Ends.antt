-- The ends of the window's links, beside the groups of the window (RULES 11.3).
use Rattle.std.specs.Prelude.{Bool, false, cond, ◌||◌, List, [], ◌∷◌, map, eqb}
use Rattle.numbers.specs.Kinds.{Cell, Counts, Log}
use Rattle.graph.specs.Link.{Link}
use Rattle.slides.specs.declared.Clock.{Clock}
use Rattle.window.specs.Window.{window_links}
use Rattle.window_groups.specs.Groups.{of_cells, groups_of}
use Rattle.window_ends.specs.declared.Ends.{Ends}

-- the cell is an end of one of the links
unfoldable pub is_end : (links : List Link) (cell : Cell) → Bool
is_end [] c = false
is_end (l ∷ ls) c = (eqb l.one c || eqb l.other c) || is_end ls c

-- the links of the window
abbrev pub links_in : (clock : Clock) (counts : Counts) (log : Log) → List Link
links_in clock counts log = map (λ x. x.link) (window_links clock counts log)

-- of each cell the smallest cell of its group, and 1 where it is an end of a link of the window, else 0
unfoldable pub ends_of_lem : (clock : Clock) (counts : Counts) (log : Log) → Ends
ends_of_lem clock counts log =
    record {
      first = (groups_of clock counts log).first;
      linked = of_cells (λ c. cond (is_end (links_in clock counts log) c) 1 0);
    }
