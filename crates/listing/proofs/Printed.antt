-- No line is long: its values have few digits.
use Prim.Native.Nat.{ℕ, ◌^◌, ◌≤◌, ◌<◌}
use mathlib.Core.List.{[], ◌∷◌, ◌++◌}
use native.Mathlib.Omega.{arith}
use lib.ListN.{length, length-append}
use Rattle.slides.specs.Counter.{tick_limit}
use Rattle.text.specs.Text.{blank, line_feed, fields, line}
use Rattle.text.proofs.Decimal.{fields_length, field_short, line_length}
use Rattle.listing.specs.Lines.{window_word, group_word, links_word, refused_word, file_word, refused_file}

-- a group's line has at most 19 bytes
pub group_line_short : (c count hold : ℕ) → c < 1024 → count ≤ 1024 → hold ≤ 16
    → length (line group_word (c ∷ count ∷ hold ∷ [])) ≤ 19
group_line_short c count hold h k l =
    let sum = line_length group_word (c ∷ count ∷ hold ∷ []) in
    let after-cell = fields_length c (count ∷ hold ∷ []) in
    let after-count = fields_length count (hold ∷ []) in
    omega (arith, field_short 3 c (omega arith), field_short 3 count (omega arith), field_short 1 hold (omega arith))

pub window_line_short : (n b mounting slide : ℕ) → n < 2 ^ 8 → b < tick_limit → mounting < 2 ^ 8 → slide < 2 ^ 64
    → length (line window_word (n ∷ b ∷ mounting ∷ slide ∷ [])) ≤ 47
window_line_short n b mounting slide p q r s =
    let sum = line_length window_word (n ∷ b ∷ mounting ∷ slide ∷ []) in
    let after-n = fields_length n (b ∷ mounting ∷ slide ∷ []) in
    let after-b = fields_length b (mounting ∷ slide ∷ []) in
    let after-mounting = fields_length mounting (slide ∷ []) in
    let wide = field_short 19 slide (omega arith) in
    omega (arith, field_short 2 n (omega arith), field_short 9 b (omega arith), field_short 2 mounting (omega arith))

pub links_line_short : (count : ℕ) → count ≤ 4096 → length (line links_word (count ∷ [])) ≤ 11
links_line_short count h = omega (arith, line_length links_word (count ∷ []), field_short 3 count (omega arith))

pub refused_fields_short : (number : ℕ) → number < 256 → length (refused_word ++ fields (number ∷ [])) ≤ 11
refused_fields_short number h = omega (arith, field_short 2 number (omega arith))

pub refused_file_short : (number : ℕ) → number < 256 → length (refused_file number) ≤ 17
refused_file_short number h =
    omega (arith, field_short 2 number (omega arith), length-append (fields (number ∷ [])) (blank ∷ file_word ++ line_feed ∷ []))

pub refused_line_short : (number place : ℕ) → number < 2 ^ 8 → place < 2 ^ 32 → length (line refused_word (number ∷ place ∷ [])) ≤ 23
refused_line_short number place p q =
    let sum = line_length refused_word (number ∷ place ∷ []) in
    let after-number = fields_length number (place ∷ []) in
    omega (arith, field_short 2 number (omega arith), field_short 9 place (omega arith))
