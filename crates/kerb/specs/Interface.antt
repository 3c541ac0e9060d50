-- What a caller's header and the library must agree on.
use Rattle.std.specs.Prelude.{ℕ, ◌+◌, ◌*◌}
use Rattle.book_state.specs.Arrays.{cells}

-- the version of the interface: it grows when a struct or a call changes
abbrev pub version : ℕ
version = 3

-- the bytes of a book: four lists with 2 bytes for each cell, 32 counts of 2 bytes, the clock's 24 bytes, a label of 1 byte for each
-- cell, and the fitting's 8 bytes
abbrev pub book_size : ℕ
book_size = 4 * (2 * cells) + 2 * 32 + 24 + cells + 8
