-- The two lamps (RULES 11), for every book, log and mask: order 1, 6, 15. They go by the links of the window, as the log holds them.
use Rattle.std.specs.Prelude.{ℕ, zero, suc, Bool, false, cond, not, ◌&&◌, ◌||◌, List, [], ◌∷◌, Option, Some, None, is_some, unwrap_or, Result, Ok, Err}
use Rattle.numbers.specs.Kinds.{Bytes, Cell, Log, Number}
use Rattle.numbers.specs.Checks.{first_of, unless, has}
use Rattle.graph.specs.Link.{Link, chains}
use Rattle.cells.specs.Cell.{sectors}
use Rattle.refusals.specs.declared.Refusal.{Refusal}
use Rattle.refusals.specs.Number.{code_of}
use Rattle.book_state.specs.declared.Book.{Book}
use Rattle.book_state.specs.Arrays.{cells}
use Rattle.book_state.specs.Numbers.{log_places}
use Rattle.book_state.specs.Order.{in_order_of}
use Rattle.window_ends.specs.Ends.{is_end, links_in}
use Rattle.lamps.specs.declared.Lamps.{Lamps}
use Rattle.lamps.specs.declared.LampsAnswer.{LampsAnswer}
use Rattle.lamps.specs.Mask.{is_mask_of, is_body}
use Rattle.lamps.specs.Zones.{Zone, left_zone, right_zone, in_zone_of}

-- some cell below the bound passes the test
unfoldable pub some_below : (bound : ℕ) (test : Cell → Bool) → Bool
some_below zero test = false
some_below (suc c) test = test c || some_below c test

-- of `count` cells from c on: a lamp that is lit by the smallest that passes; dark where none does
unfoldable pub lamp_from : (test : Cell → Bool) (c count : ℕ) → Option Cell
lamp_from test c zero = None
lamp_from test c (suc more) = cond (test c) (Some c) (lamp_from test (suc c) more)

-- the cell is joined to bodywork: it is a body cell, or links chain it with one
abbrev pub on_body : (links : List Link) (mask : Bytes) (cell : Cell) → Bool
on_body links mask c = some_below cells (λ b. is_body mask b && chains links c b)

-- a cell lights the lamp of its zone where it is an end of a link and joined to no body cell (RULES 11.3)
abbrev pub lights : (links : List Link) (mask : Bytes) (zone : Zone) (cell : Cell) → Bool
lights links mask zone c = in_zone_of sectors zone c && is_end links c && not (on_body links mask c)

-- the lamp of a zone: lit where some cell lights it, by the smallest (RULES 11.4)
abbrev pub lamp_in : (links : List Link) (mask : Bytes) (zone : Zone) → Option Cell
lamp_in links mask zone = lamp_from (lights links mask zone) 0 cells

-- ---- the call

-- what it tells through the interface: the number of the table; and with 0 whether each lamp is lit, and by which cell, 0 while it is dark
abbrev pub told : Result Lamps Refusal → LampsAnswer
told (Ok lamps) =
    record {
      left_cell = unwrap_or lamps.left 0;
      right_cell = unwrap_or lamps.right 0;
      left = is_some lamps.left;
      right = is_some lamps.right;
      number = 0;
    }
told (Err refusal) = record { left_cell = 0; right_cell = 0; left = false; right = false; number = code_of refusal }

-- for a book in order or not: the log is long enough, and the mask is one
abbrev pub lamps_number_in : (ordered : Bool) (log : Log) (mask : Bytes) → Number
lamps_number_in ordered log mask =
    first_of
    (unless ordered 1
    ∷ unless (has log_places log) 6
    ∷ unless (is_mask_of cells mask) 15
    ∷ [])

unfoldable pub lamps_by_number : (number : Number) (links : List Link) (mask : Bytes) → LampsAnswer
lamps_by_number zero links mask =
    told (Ok (record { left = lamp_in links mask (left_zone sectors); right = lamp_in links mask (right_zone sectors) }))
lamps_by_number (suc k) links mask =
    record { left_cell = 0; right_cell = 0; left = false; right = false; number = suc k }

unfoldable pub lamps_of : (book : Book) (log : Log) (mask : Bytes) → LampsAnswer
lamps_of b log mask = lamps_by_number (lamps_number_in (in_order_of b) log mask) (links_in b.clock b.counts log) mask
