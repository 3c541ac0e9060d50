-- The definitions, computed: the text of the listing's example (RULES 6.11), lines that keep the form and lines that break it (RULES 6.12), and
-- for each number of text in a call that gives it although every later check would fail too, which shows the order of the checks.
use mathlib.Core.Path.{◌≡◌, refl}
use mathlib.Core.List.{List, [], ◌∷◌, ◌++◌, map}
use Prim.Native.Nat.{ℕ}
use lib.ListN.{replicate}
use Rattle.numbers.specs.Checks.{first_of}
use Rattle.text.specs.Text.{digits, decimal, fields}
use Rattle.file.specs.Layout.{little_endian, from_little_endian, record_bytes, ending_bytes, settings_of_lem, file_of}
use Rattle.file.specs.Format.{same, records_fit_of, length_fits_of, letters_stand_of, offset_agrees_of, pads_zero_of, read_number_of, read_of}
use Rattle.file.proofs.Cases.{listing_settings, listing_records}
use Rattle.file_write.specs.Writer.{room_fits}
use Rattle.text_list.specs.Text.{line_of, text_of, records_from}
use Rattle.text_list.specs.Reading.{goes_on_of, number_from_of, number_in, line_in, lines_of, keeping}
use Rattle.text_list.specs.Call.{text_in_number, file_text}

-- 1 2 0, 2 3 10, 3 4 20, 5 6 30, 4 5 45
abbrev pub example_text : List ℕ
example_text =
    49 ∷ 32 ∷ 50 ∷ 32 ∷ 48 ∷ 10
    ∷ 50 ∷ 32 ∷ 51 ∷ 32 ∷ 49 ∷ 48 ∷ 10
    ∷ 51 ∷ 32 ∷ 52 ∷ 32 ∷ 50 ∷ 48 ∷ 10
    ∷ 53 ∷ 32 ∷ 54 ∷ 32 ∷ 51 ∷ 48 ∷ 10
    ∷ 52 ∷ 32 ∷ 53 ∷ 32 ∷ 52 ∷ 53 ∷ 10
    ∷ []

pub example_text_lem : file_text (file_of listing_settings listing_records) ≡ example_text
unfolding little_endian from_little_endian record_bytes ending_bytes settings_of_lem file_of same records_fit_of length_fits_of letters_stand_of offset_agrees_of pads_zero_of read_number_of read_of first_of digits decimal fields line_of text_of records_from file_text
example_text_lem = refl

-- how many lines of each text keep the form
pub lines_kept : List (List ℕ) → List ℕ
lines_kept texts = map (λ text. keeping (lines_of text)) texts

-- the smallest and the largest line, and the example's five
pub keeping_lines : lines_kept (
    (48 ∷ 32 ∷ 48 ∷ 32 ∷ 48 ∷ 10 ∷ [])
    ∷ (54 ∷ 53 ∷ 53 ∷ 51 ∷ 53 ∷ 32 ∷ 54 ∷ 53 ∷ 53 ∷ 51 ∷ 53 ∷ 32 ∷ 52 ∷ 50 ∷ 57 ∷ 52 ∷ 57 ∷ 54 ∷ 55 ∷ 50 ∷ 57 ∷ 53 ∷ 10 ∷ [])
    ∷ example_text
    ∷ [])
    ≡ 1 ∷ 1 ∷ 5 ∷ []
unfolding goes_on_of number_from_of number_in line_in lines_of keeping lines_kept
keeping_lines = refl

pub breaking_lines : lines_kept (
    -- an empty line
    (10 ∷ [])
    -- a number too few, and one too many
    ∷ (49 ∷ 32 ∷ 50 ∷ 10 ∷ [])
    ∷ (49 ∷ 32 ∷ 50 ∷ 32 ∷ 51 ∷ 32 ∷ 52 ∷ 10 ∷ [])
    -- two blanks, and a blank at either end
    ∷ (49 ∷ 32 ∷ 32 ∷ 50 ∷ 32 ∷ 51 ∷ 10 ∷ [])
    ∷ (32 ∷ 49 ∷ 32 ∷ 50 ∷ 32 ∷ 51 ∷ 10 ∷ [])
    ∷ (49 ∷ 32 ∷ 50 ∷ 32 ∷ 51 ∷ 32 ∷ 10 ∷ [])
    -- a tab, and a carriage return
    ∷ (49 ∷ 9 ∷ 50 ∷ 32 ∷ 51 ∷ 10 ∷ [])
    ∷ (49 ∷ 32 ∷ 50 ∷ 32 ∷ 51 ∷ 13 ∷ 10 ∷ [])
    -- a sign, and leading zeros
    ∷ (43 ∷ 49 ∷ 32 ∷ 50 ∷ 32 ∷ 51 ∷ 10 ∷ [])
    ∷ (48 ∷ 48 ∷ 32 ∷ 50 ∷ 32 ∷ 51 ∷ 10 ∷ [])
    ∷ (49 ∷ 32 ∷ 50 ∷ 32 ∷ 48 ∷ 51 ∷ 10 ∷ [])
    -- a number beyond its field
    ∷ (54 ∷ 53 ∷ 53 ∷ 51 ∷ 54 ∷ 32 ∷ 50 ∷ 32 ∷ 51 ∷ 10 ∷ [])
    ∷ (49 ∷ 32 ∷ 50 ∷ 32 ∷ 52 ∷ 50 ∷ 57 ∷ 52 ∷ 57 ∷ 54 ∷ 55 ∷ 50 ∷ 57 ∷ 54 ∷ 10 ∷ [])
    -- no line feed
    ∷ (49 ∷ 32 ∷ 50 ∷ 32 ∷ 51 ∷ [])
    ∷ [])
    ≡ replicate 14 0
unfolding goes_on_of number_from_of number_in line_in lines_of keeping lines_kept
breaking_lines = refl

-- 0 0 0
abbrev pub zeros : List ℕ
zeros = 48 ∷ 32 ∷ 48 ∷ 32 ∷ 48 ∷ 10 ∷ []

-- 13, 2, 9, 6, and a call with nothing wrong
pub text_in_order : (
    text_in_number (record { t0 = 0; b = 0; n = 0; mounting = 0 }) (replicate 8001 zeros ++ (49 ∷ []) ∷ []) 0
    ∷ text_in_number (record { t0 = 0; b = 0; n = 0; mounting = 0 }) (replicate 8001 zeros) 0
    ∷ text_in_number listing_settings (replicate 8001 zeros) 0
    ∷ text_in_number listing_settings (replicate 8000 zeros) 64023
    ∷ text_in_number listing_settings (replicate 8000 zeros) 64024
    ∷ [])
    ≡ 13 ∷ 2 ∷ 9 ∷ 6 ∷ 0 ∷ []
unfolding first_of records_fit_of room_fits goes_on_of number_from_of number_in line_in keeping text_in_number
text_in_order = refl
