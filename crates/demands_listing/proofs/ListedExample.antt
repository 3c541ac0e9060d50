-- The worked case of RULES 9.3, byte for byte.
--
-- Its calls tell a history (computed), and what is printed is the text of that history (ListedPrints). The lines of the cells up to 6 are
-- computed. No link of the window names a cell from 7 on, so each of these is a group of its own and has no line.
use Prim.Native.Nat.{ℕ, ◌≤◌}
use mathlib.Core.Path.{◌≡◌, refl, sym, ◌∙◌, ap}
use mathlib.Core.Bool.{true}
use mathlib.Core.List.{List, [], ◌∷◌, ◌++◌, append-nil}
use mathlib.Core.Option.{some}
use native.Mathlib.Omega.{arith}
use lib.ListN.{replicate}
use Rattle.numbers.specs.Checks.{first_of}
use Rattle.graph.specs.Link.{Linked, along, against, here, there, chains}
use Rattle.settings.specs.Settings.{taken_number}
use Rattle.settings.specs.declared.Settings.{Settings}
use Rattle.cells.specs.Cell.{lorry_cell_over}
use Rattle.cells.specs.Touching.{touch_over}
use Rattle.slides.specs.Counter.{ahead, counter_at_of}
use Rattle.slides.specs.Clock.{not_before_of, total_with_of, slide_of, open_slide_of, moved_to}
use Rattle.forest.specs.Arrays.{count_from}
use Rattle.book_state.specs.Arrays.{cells}
use Rattle.file.specs.Layout.{from_little_endian, settings_of_lem}
use Rattle.file.specs.Format.{records_fit_of, length_fits_of, same, letters_stand_of, offset_agrees_of, pads_zero_of, read_number_of, read_of}
use Rattle.file.proofs.Laws.{read_number}
use Rattle.window_groups.specs.Groups.{filter, smallest, least_with, least_over}
use Rattle.text.specs.Text.{digits, decimal, fields, line}
use Rattle.listing.specs.Lines.{links_word, group_word, group_line_if, lines_of}
use Rattle.listing.specs.Listing.{window_line, listing_text}
use Rattle.demands.specs.History.{Call, opening, link, Stored, History, of_slides, how_many, number_in, added, added_by_number, first_by_number, one_more_of, history_from, history_of}
use Rattle.demands_listing.specs.Listed.{record_calls, file_calls, refusal_by, first_refusal, record_refusal, hold_within, link_count_in, group_line_in, history_text, example_file, example_text}
use Rattle.demands_listing.proofs.ListedLines.{no_line, no_lines, lines_apart}
use Rattle.demands_listing.proofs.ListedPrints.{history_printed}

-- ---- the calls of the example, and the history that they tell

abbrev settings : Settings
settings = record { t0 = 0; b = 10; n = 3; mounting = 1 }

is_read : read_of example_file ≡ record { settings = settings; m = 5; number = 0 }
unfolding first_of from_little_endian settings_of_lem records_fit_of length_fits_of same letters_stand_of offset_agrees_of pads_zero_of read_number_of read_of
is_read = refl

abbrev links : List Call
links = link 0 1 2 ∷ link 10 2 3 ∷ link 20 3 4 ∷ link 30 5 6 ∷ link 45 4 5 ∷ []

link_calls_lem : record_calls example_file 0 5 ≡ links
unfolding record_calls from_little_endian
link_calls_lem = refl

file_calls_lem : file_calls example_file ≡ opening settings ∷ links
file_calls_lem = rw is_read (ap (λ calls. opening settings ∷ calls) link_calls_lem)

none_refused : (record_refusal example_file).number ≡ 0
unfolding first_refusal refusal_by added number_in first_of of_slides how_many ahead counter_at_of not_before_of total_with_of slide_of open_slide_of moved_to lorry_cell_over touch_over
none_refused = rw (is_read, link_calls_lem)

abbrev stored : (slide one other : ℕ) → Stored
stored slide one other = record { slide = slide; link = record { one = one; other = other } }

abbrev told : History
told =
    record {
      clock = record { total = 45; t0 = 0; b = 10; n = 3; pad = replicate 7 0 };
      fitting = record { mounting = 1; pad = replicate 7 0 };
      ticks = 45 ∷ 30 ∷ 20 ∷ 10 ∷ 0 ∷ [];
      links = stored 4 4 5 ∷ stored 3 5 6 ∷ stored 2 3 4 ∷ stored 1 2 3 ∷ stored 0 1 2 ∷ [];
    }

calls_tell : history_of true (opening settings ∷ links) ≡ some told
unfolding history_from one_more_of first_by_number added_by_number added number_in first_of of_slides how_many ahead counter_at_of not_before_of total_with_of slide_of open_slide_of moved_to lorry_cell_over touch_over
calls_tell = refl

-- ---- its lines

unnamed : (c d : ℕ) → 7 ≤ c → Linked c d (record { one = 4; other = 5 } ∷ record { one = 5; other = 6 } ∷ record { one = 3; other = 4 } ∷ []) → ⊥
unnamed c d h (here (along p q)) = omega arith
unnamed c d h (here (against p q)) = omega arith
unnamed c d h (there (here (along p q))) = omega arith
unnamed c d h (there (here (against p q))) = omega arith
unnamed c d h (there (there (here (along p q)))) = omega arith
unnamed c d h (there (there (here (against p q)))) = omega arith
unnamed c d h (there (there (there l))) = elim l [ ]

low_lines : lines_of (group_line_in told) (count_from 0 7) ≡ line group_word (3 ∷ 4 ∷ 0 ∷ [])
unfolding lines_of count_from group_line_if filter smallest least_with least_over hold_within chains of_slides open_slide_of fields decimal digits
low_lines = refl

all_lines : lines_of (group_line_in told) (count_from 0 cells) ≡ line group_word (3 ∷ 4 ∷ 0 ∷ [])
unfolding of_slides open_slide_of
all_lines =
    lines_apart (group_line_in told) 0 7 1017
    ∙ ap (λ later. lines_of (group_line_in told) (count_from 0 7) ++ later)
    (no_lines (group_line_in told) 7 1017 (λ c h. no_line told c (λ d l. unnamed c d h l)))
    ∙ append-nil _ ∙ low_lines

text_is : history_text told ≡ example_text
unfolding history_text digits decimal fields of_slides open_slide_of
text_is = ap (λ lines. window_line told.clock 1 ++ lines ++ line links_word (link_count_in told ∷ [])) all_lines

pub example_told : listing_text example_file ≡ example_text
example_told =
    history_printed example_file (sym (read_number example_file) ∙ ap (λ r. r.number) is_read) (ap (λ r. taken_number r.settings) is_read)
    none_refused told (ap (history_of true) file_calls_lem ∙ calls_tell)
    ∙ text_is
