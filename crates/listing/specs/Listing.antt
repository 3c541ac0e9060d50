-- What kerblist prints for a file (RULES 8), as bytes.
use Rattle.std.specs.Prelude.{ℕ, zero, suc, ◌≡◌, Bool, true, false, [], ◌∷◌, ◌++◌, leb, length, replicate, Result, Ok, Err}
use Rattle.numbers.specs.Front.{at_front}
use Rattle.numbers.specs.Kinds.{Bytes, Counts, Log, Number}
use Rattle.slides.specs.Clock.{open_slide_of}
use Rattle.slides.specs.declared.Clock.{Clock}
use Rattle.refusals.specs.declared.Refusal.{Refusal}
use Rattle.refusals.specs.Number.{code_of}
use Rattle.file.specs.Format.{read_of}
use Rattle.file.specs.declared.Reading.{Reading}
use Rattle.book_state.specs.declared.Book.{Book}
use Rattle.book_state.specs.Order.{never_opened_of}
use Rattle.book.specs.Calls.{Outcome, opening_of}
use Rattle.book_state.specs.Numbers.{log_places}
use Rattle.window.specs.Window.{window_links}
use Rattle.listing.specs.declared.ListAnswer.{ListAnswer}
use Rattle.listing.specs.Lines.{window_word, links_word, refused_file, refused_record, group_lines}
use Rattle.text.specs.Text.{line}
use Rattle.file_play.specs.Play.{Play, play_from}

-- n, B, mounting, open slide: that of the total, and no matter of the last tick alone (RULES 2.4)
abbrev pub window_line : (clock : Clock) (mounting : ℕ) → Bytes
window_line clock mounting = line window_word (clock.n ∷ clock.b ∷ mounting ∷ open_slide_of clock ∷ [])

-- that line; the groups; links stored in the window, repeats counted
unfoldable pub window_text : (clock : Clock) (mounting : ℕ) (counts : Counts) (log : Log) → Bytes
window_text clock mounting counts log =
    window_line clock mounting
    ++ group_lines clock.n (window_links clock counts log)
    ++ line links_word (length (window_links clock counts log) ∷ [])

abbrev pub book_text : (book : Book) (log : Log) → Bytes
book_text b log = window_text b.clock b.fitting.mounting b.counts log

-- by the number of the first record that is refused
unfoldable pub played_text : (number : Number) (play : Play) → Bytes
played_text zero p = book_text p.book p.log
played_text (suc k) p = refused_record (suc k) p.taken

-- by the opening's number
unfoldable pub opened_text : (number : Number) (file : Bytes) (m : ℕ) (outcome : Outcome) → Bytes
opened_text zero file m o =
    let p : Play = play_from file 0 m o.book o.log in
    played_text p.number p
opened_text (suc k) file m o = refused_file (suc k)

-- by the reader's number: the file is played into a book of its own, with a log of its own
unfoldable pub read_text : (number : Number) (file : Bytes) (reading : Reading) → Bytes
read_text zero file r =
    let o : Outcome = opening_of never_opened_of (replicate log_places 0) r.settings in
    opened_text o.number file r.m o
read_text (suc k) file r = refused_file (suc k)

-- the whole output for a file
unfoldable pub listing_text : (file : Bytes) → Bytes
listing_text file =
    let r : Reading = read_of file in
    read_text r.number file r

-- how many bytes the output must have
abbrev pub output_places : ℕ
output_places = 20480

-- what is told through the interface: the number of the table, and with 0 how many bytes the text has
abbrev pub told : Result ℕ Refusal → ListAnswer
told (Ok length) = record { length = length; number = 0 }
told (Err refusal) = record { length = 0; number = code_of refusal }

-- what is given, and what the output holds afterwards
pub record Listing : Type 0 where
  pub answer : ListAnswer
  pub output : Bytes

-- the text at the front of the output, and no byte beyond; an output that is too short is unchanged
unfoldable pub listed_if : (fits : Bool) (text out : Bytes) → Listing
listed_if true text out = record { answer = record { length = length text; number = 0 }; output = at_front text out }
listed_if false text out = record { answer = record { length = 0; number = 6 }; output = out }

unfoldable pub listing_of : (file out : Bytes) → Listing
listing_of file out = listed_if (leb output_places (length out)) (listing_text file) out

-- an answer and an output are those of a listing
pub record GivesListing (l : Listing) (answer : ListAnswer) (output : Bytes) : Type 0 where
  pub answered : answer ≡ l.answer
  pub written : output ≡ l.output
