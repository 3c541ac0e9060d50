-- Checks that several calls make (RULES 7): a log that is long enough, and two cells. Each call's own list stands with the call.
use Rattle.std.specs.Prelude.{ℕ, Bool, ◌&&◌, ltb}
use Rattle.numbers.specs.Kinds.{Cell}
use Rattle.book_state.specs.Arrays.{cells}

-- the log's places, at least
abbrev pub log_places : ℕ
log_places = 16384

-- both are cells
abbrev pub are_cells_of : (one other : Cell) → Bool
are_cells_of one other = ltb one cells && ltb other cells
