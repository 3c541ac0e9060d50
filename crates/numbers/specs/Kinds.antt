-- The kinds of numbers and lists that the rules speak of, by name. Each is a plain number or a list of them, so nothing is
-- proved of a name: it tells a reader what an argument is. What range a kind has is asked by the checks of each call.
use Rattle.std.specs.Prelude.{ℕ, List}

-- a cell by its number (RULES 1.1), the unit's or the lorry's
abbrev pub Cell : Type 0
Cell = ℕ

-- a time stamp of the unit (RULES 2.2)
abbrev pub Tick : Type 0
Tick = ℕ

-- how many ticks have passed since T0, each turn of the unit's counter counted (RULES 2.3)
abbrev pub Total : Type 0
Total = ℕ

-- a slide by its number, counted from T0 (RULES 2.4)
abbrev pub Slide : Type 0
Slide = ℕ

-- a chunk by its number, and the place of a slide in its chunk (RULES 3.1)
abbrev pub Chunk : Type 0
Chunk = ℕ

abbrev pub Place : Type 0
Place = ℕ

-- the label of a parent step (RULES 3.9)
abbrev pub Label : Type 0
Label = ℕ

-- the number that a call gives (RULES 7.1)
abbrev pub Number : Type 0
Number = ℕ

-- of each cell its parent, the size of its tree, and the label of its parent step, cell 0 first (RULES 3.4, 3.9)
abbrev pub Parents : Type 0
Parents = List Cell

abbrev pub Sizes : Type 0
Sizes = List ℕ

abbrev pub Labels : Type 0
Labels = List Label

-- how many links each place of the last two chunks holds, and the links themselves, two cells each (RULES 7.7)
abbrev pub Counts : Type 0
Counts = List ℕ

abbrev pub Log : Type 0
Log = List Cell

-- the bytes of a file or of a text
abbrev pub Bytes : Type 0
Bytes = List ℕ
