-- Values in decimal: a value below 10 is its one digit; any other is a tenth of it in decimal, and then its last digit. So a
-- value below 10 ^ d has at most d digits, and a line's length is bounded by its values.
use Prim.Native.Nat.{ℕ, zero, suc, ◌+◌, ◌*◌, ◌/◌, ◌^◌, ◌≤◌, ◌<◌}
use mathlib.Core.Path.{◌≡◌, refl, ap, ◌∙◌}
use mathlib.Core.List.{List, [], ◌∷◌, ◌++◌, append_assoc, append-nil}
use native.Mathlib.Nat.{pow-succ', one-le-pow}
use native.Mathlib.Omega.{arith}
use native.Mathlib.Decide.{dec_lt}
use native.Mathlib.Numerals.{add-one}
use borrow.Author.Tests.{lt-ltb, le-ltb}
use lib.ListN.{length, get_or, take, drop, length-append}
use lib.Seq.{take-suc, take_all, split_at}
use Rattle.text.specs.Text.{last_digit, digits, decimal, blank, line_feed, fields, line}

-- it makes no difference how many digits are allowed, if they are more than x
digits_enough : (m n x : ℕ) → x < m → x < n → digits m x ≡ digits n x
unfolding digits
digits_enough zero n x h k = absurd (omega arith)
digits_enough (suc m) zero x h k = absurd (omega arith)
digits_enough (suc m) (suc n) x h k = elim (dec_lt x 10) [
  | yes l ↦ rw (lt-ltb x 10 l)
  | no l ↦ rw (digits_enough m n (x / 10) (omega arith) (omega arith))
]

pub decimal_one : (x : ℕ) → x < 10 → decimal x ≡ last_digit x ∷ []
unfolding decimal digits
decimal_one x h = rw (lt-ltb x 10 h)

pub decimal_more : (x : ℕ) → 10 ≤ x → decimal x ≡ decimal (x / 10) ++ last_digit x ∷ []
unfolding decimal digits
decimal_more x h = rw (le-ltb x 10 h, digits_enough x (suc (x / 10)) (x / 10) (omega arith) (omega arith))

-- the digit before the last, as a byte
abbrev pub tens : ℕ → ℕ
tens x = last_digit (x / 10)

pub decimal_two : (x : ℕ) → 10 ≤ x → x < 100 → decimal x ≡ tens x ∷ last_digit x ∷ []
decimal_two x h l = decimal_more x h ∙ rw (decimal_one (x / 10) (omega arith))

-- the digits before the last two are those of a hundredth
pub decimal_hundred : (x : ℕ) → 100 ≤ x → decimal x ≡ decimal (x / 100) ++ tens x ∷ last_digit x ∷ []
decimal_hundred x h =
    let hundredth : x / 10 / 10 ≡ x / 100 = omega arith in
    decimal_more x (omega arith)
    ∙ rw (decimal_more (x / 10) (omega arith), hundredth) (append_assoc (decimal (x / 100)) (tens x ∷ []) (last_digit x ∷ []))

-- a value of two or more digits is one longer than a tenth of it
pub one_longer : (x : ℕ) → 10 ≤ x → length (decimal x) ≡ length (decimal (x / 10)) + 1
one_longer x h = ap length (decimal_more x h) ∙ length-append (decimal (x / 10)) (last_digit x ∷ [])

pub two_longer : (x : ℕ) → 100 ≤ x → length (decimal x) ≡ length (decimal (x / 100)) + 2
two_longer x h = ap length (decimal_hundred x h) ∙ length-append (decimal (x / 100)) (tens x ∷ last_digit x ∷ [])

pub decimal_short : (d x : ℕ) → x < 10 ^ suc d → length (decimal x) ≤ suc d
decimal_short zero x h = rw (decimal_one x h) (omega arith)
decimal_short (suc d) x h = elim (dec_lt x 10) [
  | yes l ↦ rw (decimal_one x l) (omega arith)
  | no l ↦ longer (omega arith) (decimal_short d (x / 10))
]
  where
    longer : 10 ≤ x → (x / 10 < 10 ^ suc d → length (decimal (x / 10)) ≤ suc d) → length (decimal x) ≤ suc (suc d)
    longer l on =
        let below : x < 10 * 10 ^ suc d = rw pow-succ' at h in
        rw (decimal_more x l) (omega (arith, length-append (decimal (x / 10)) (last_digit x ∷ []), on (omega arith)))

-- how many digits a value has, by the power of ten that it reaches
pub decimal_size : (k x : ℕ) → 10 ^ k ≤ x → x < 10 * 10 ^ k → length (decimal x) ≡ k + 1
decimal_size zero x least most = ap length (decimal_one x (omega arith))
decimal_size (suc k) x least most =
    let some = one-le-pow k 10 (omega arith) in
    let reached : 10 * 10 ^ k ≤ x = rw pow-succ' at least in
    let below : x < 10 * (10 * 10 ^ k) = rw pow-succ' at most in
    one_longer x (omega arith) ∙ rw (decimal_size k (x / 10) (omega arith) (omega arith)) (omega arith)

pub decimal_none : (x : ℕ) → x ≡ 0 → length (decimal x) ≡ 1
decimal_none x e = ap length (decimal_one x (omega arith))

-- the values one after the other
pub fields_append : (xs ys : List ℕ) → fields (xs ++ ys) ≡ fields xs ++ fields ys
unfolding fields
fields_append [] ys = refl
fields_append (x ∷ xs) ys = rw (fields_append xs ys, append_assoc)

pub fields_none : fields [] ≡ []
unfolding fields
fields_none = refl

pub fields_all : (xs : List ℕ) (i : ℕ) → length xs ≤ i → fields (take i xs) ≡ fields xs
fields_all xs i h = ap fields (take_all i xs h)

-- a blank and the value
pub field : (x : ℕ) → fields (x ∷ []) ≡ blank ∷ decimal x
unfolding fields
field x = simp append-nil

pub fields_more : (xs : List ℕ) (i : ℕ) → i < length xs → fields (take (i + 1) xs) ≡ fields (take i xs) ++ fields (get_or xs i 0 ∷ [])
fields_more xs i h = rw (add-one, take-suc xs i 0 h) (fields_append (take i xs) (get_or xs i 0 ∷ []))

-- what each value adds to the length
pub fields_length : (x : ℕ) (xs : List ℕ) → length (fields (x ∷ xs)) ≡ length (fields (x ∷ [])) + length (fields xs)
fields_length x xs = ap length (fields_append (x ∷ []) xs) ∙ length-append (fields (x ∷ [])) (fields xs)

pub field_short : (d x : ℕ) → x < 10 ^ suc d → length (fields (x ∷ [])) ≤ suc (suc d)
field_short d x h = rw (field x) (omega (arith, decimal_short d x h))

pub line_length : (word xs : List ℕ) → length (line word xs) ≡ length word + length (fields xs) + 1
line_length word xs = length-append (word ++ fields xs) (line_feed ∷ []) ∙ rw (length-append word (fields xs))

-- there is room for one value more
pub fields_room : (xs : List ℕ) (i : ℕ) → i < length xs
    → length (fields (take i xs)) + length (fields (get_or xs i 0 ∷ [])) ≤ length (fields xs)
fields_room xs i h =
    let rest : List ℕ = get_or xs i 0 ∷ drop (suc i) xs in
    let whole = ap (λ (l : List ℕ). length (fields l)) (split_at xs i 0 h) in
    let parted = ap length (fields_append (take i xs) rest) in
    omega (arith, length-append (fields (take i xs)) (fields rest), fields_length (get_or xs i 0) (drop (suc i) xs))

-- the lemmas that writing a value goes by, and those of writing the values one by one
pub ruleset in_decimal = (decimal_one, decimal_two, decimal_hundred, two_longer)

pub ruleset one_by_one = (fields_none, fields_more, fields_room, fields_all)
