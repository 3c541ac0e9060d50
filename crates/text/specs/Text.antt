-- Lines of text as bytes (RULES 8.2): a word and values in decimal. Fields are parted by one blank, and every line ends with a
-- line feed.
use Rattle.std.specs.Prelude.{ℕ, zero, suc, ◌+◌, ◌/◌, ◌%◌, cond, List, [], ◌∷◌, ◌++◌, ltb}
use Rattle.numbers.specs.Kinds.{Bytes}

-- the last digit of a value, as a byte: '0' is 48
abbrev pub last_digit : (value : ℕ) → ℕ
last_digit x = 48 + x % 10

-- the digits of a value, the last one last; `most` digits at most
unfoldable pub digits : (most value : ℕ) → Bytes
digits zero x = []
digits (suc most) x =
    let before : Bytes = digits most (x / 10) in
    cond (ltb x 10) [] before ++ last_digit x ∷ []

-- a value in decimal: x has x + 1 digits at most
unfoldable pub decimal : (value : ℕ) → Bytes
decimal x = digits (suc x) x

abbrev pub blank : ℕ
blank = 32

abbrev pub line_feed : ℕ
line_feed = 10

-- values, a blank before each
unfoldable pub fields : (values : List ℕ) → Bytes
fields [] = []
fields (x ∷ xs) = blank ∷ decimal x ++ fields xs

-- a word and values
abbrev pub line : (word : Bytes) (values : List ℕ) → Bytes
line word xs = word ++ fields xs ++ line_feed ∷ []
