-- What is printed for a file, by what is refused first.
--
-- The listing opens a book of its own and plays the file into it (Stages, in the crate listing). From the opening on, that book agrees with the
-- history of the file's calls. So the first record that is refused is the first refusal of those calls (ListedCalls); and where there is none, the
-- text of the book is the text of the history: its lines are made of the same groups and the same count (ListedGroups).
use Prim.Native.Nat.{ℕ, zero, suc}
use mathlib.Core.Path.{◌≡◌, refl, sym, ◌∙◌, ap, subst}
use mathlib.Core.Bool.{true}
use mathlib.Core.List.{List, [], ◌∷◌, ◌++◌, append-nil}
use mathlib.Core.Option.{Option, some}
use lib.ListN.{replicate}
use Rattle.numbers.specs.Checks.{first_of, has}
use Rattle.numbers.proofs.Checks.{has_front}
use Rattle.settings.specs.Settings.{taken_number}
use Rattle.settings.specs.declared.Settings.{Settings}
use Rattle.file.specs.Format.{read_number_of, read_of}
use Rattle.file.proofs.Laws.{read_number}
use Rattle.graph.proofs.Forests.{nothing_linked}
use Rattle.slides.proofs.Slides.{started_slide}
use Rattle.book_state.specs.Arrays.{cells}
use Rattle.book_state.specs.Numbers.{log_places}
use Rattle.book_state.specs.Order.{never_opened_of}
use Rattle.book.specs.Calls.{Outcome, Answer, opening_number_of, opening_of}
use Rattle.file_play.specs.Play.{Play, play_from}
use Rattle.text.specs.Text.{line}
use Rattle.listing.specs.Lines.{window_word, links_word, refused_file, refused_record}
use Rattle.listing.specs.Listing.{window_line, window_text, book_text, listing_text}
use Rattle.listing.proofs.Stages.{reading_refused, Opened, opening_refused, PlayedInto, record_refused, book_listed}
use Rattle.demands.specs.History.{opening, Call, History, of_slides, begun, first_by_number, one_more_of, history_from, history_of}
use Rattle.demands.specs.Implementation.{State, state_of, gives, after}
use Rattle.demands_listing.specs.Listed.{record_calls, link_calls, file_calls, first_refusal, record_refusal, group_line_in, history_text, Printed, empty_text, Prints}
use Rattle.demands.specs.Agrees.{Agrees}
use Rattle.demands.proofs.NumbersAgree.{opening_gives_lem}
use Rattle.demands.proofs.Keeps.{keeps}
use Rattle.demands_listing.proofs.ListedCalls.{played_refusal, played_whole}
use Rattle.demands_listing.proofs.ListedCount.{count_told}
use Rattle.demands_listing.proofs.ListedGroups.{lines_told}
use Rattle.demands_listing.proofs.ListedLines.{no_line, no_lines}

-- the text of a book is the text of its history
text_told : {h : History} {s : State} → Agrees h s → book_text s.book s.log ≡ history_text h
unfolding window_text history_text
text_told a = λ i.
    window_line (a.clock i) (a.fitting i).mounting ++ lines_told a i ++ line links_word (count_told a i ∷ [])

-- ---- histories

-- there is a history, and this is it
record Told (o : Option History) : Type 0 where
  pub history : History
  pub is : o ≡ some history

-- once there is one, there is one after any calls
still_told : (cs : List Call) (h : History) → Told (history_from true (some h) cs)
unfolding history_from one_more_of
still_told [] h = record { history = h; is = refl }
still_told (c ∷ cs) h = still_told cs _

-- the book and the log that the listing opens
abbrev fresh : State
fresh = record { book = never_opened_of; log = replicate log_places 0 }

fresh_room : has log_places fresh.log ≡ true
fresh_room = subst (λ l. has log_places l ≡ true) (append-nil (replicate log_places 0)) (has_front log_places [])

-- an opening that is taken begins a history
opening_tells : (s : Settings) (cs : List Call) → taken_number s ≡ 0 → history_of true (opening s ∷ cs) ≡ history_from true (some (begun s)) cs
unfolding history_from one_more_of first_by_number first_of
opening_tells s cs e = rw e

-- ---- a file that the reader takes

module _ (file : List ℕ) (fine : read_number_of file ≡ 0) where
  abbrev settings : Settings
  settings = (read_of file).settings

  abbrev outcome : Outcome
  outcome = opening_of never_opened_of (replicate log_places 0) settings

  abbrev opened : Answer
  opened = record { book = outcome.book; number = outcome.number }

  opens : Opened file (read_of file) never_opened_of opened outcome.log
  opens = record { read = refl; fine = read_number file ∙ fine; opens = record { answered = refl; logged = refl } }

  opening_number_lem : outcome.number ≡ taken_number settings
  unfolding opening_number_of first_of
  opening_number_lem = opening_gives_lem never_opened_of fresh.log settings ∙ rw fresh_room (go (taken_number settings))
    where
      go : (k : ℕ) → first_of (k ∷ 0 ∷ []) ≡ k
      go zero = refl
      go (suc k) = refl

  module _ (taken : taken_number settings ≡ 0) where
    agrees_opened : Agrees (begun settings) (state_of outcome)
    unfolding after gives history_from
    agrees_opened = keeps fresh (opening settings ∷ []) (begun settings) (rw fresh_room (opening_tells settings [] taken))

    abbrev play : Play
    play = play_from file 0 (read_of file).m outcome.book outcome.log

    refusal_is : record_refusal file ≡ record { place = play.taken; number = play.number }
    refusal_is = played_refusal file (read_of file).m 0 (begun settings) (state_of outcome) agrees_opened

    played_into : PlayedInto file (read_of file) never_opened_of opened outcome.log play.book (record { taken = play.taken; number = play.number }) play.log
    played_into = record { opening = opens; opened = opening_number_lem ∙ taken; plays = record { kept = refl; answered = refl; logged = refl } }

    refused_told : ((record_refusal file).number ≡ 0 → ⊥) → listing_text file ≡ refused_record (record_refusal file).number (record_refusal file).place
    refused_told n = rw refusal_is (record_refused played_into (λ e. n (ap (λ r. r.number) refusal_is ∙ e)))

    module _ (none : (record_refusal file).number ≡ 0) where
      done : play.number ≡ 0
      done = sym (ap (λ r. r.number) refusal_is) ∙ none

      pub history_printed : (h : History) → history_of true (file_calls file) ≡ some h → listing_text file ≡ history_text h
      unfolding after gives
      history_printed h told =
          book_listed played_into done
          ∙ text_told (subst (Agrees h) (sym (played_whole file (read_of file).m 0 (state_of outcome) done)) (keeps fresh (file_calls file) h (rw fresh_room told)))

      printed_told : Printed file
      printed_told =
          let t = still_told (link_calls file) (begun settings) in
          let told = opening_tells settings (link_calls file) taken ∙ t.is in
          record { history = t.history; told = told; text = history_printed t.history told }

-- ---- a file without records

empty_told : (s : Settings) → history_text (begun s) ≡ empty_text s
unfolding history_text of_slides
empty_told s =
    rw (started_slide s, no_lines (group_line_in (begun s)) 0 cells (λ c _. no_line (begun s) c (λ d l. nothing_linked l)))
    (ap (λ text. text ++ line links_word (0 ∷ [])) (append-nil (line window_word (s.n ∷ s.b ∷ s.mounting ∷ 0 ∷ []))))

empty_printed : (file : List ℕ) → read_number_of file ≡ 0 → taken_number (read_of file).settings ≡ 0 → (read_of file).m ≡ 0
    → listing_text file ≡ empty_text (read_of file).settings
unfolding record_calls first_refusal history_from
empty_printed file fine taken none =
    history_printed file fine taken (rw none) (begun (read_of file).settings) (opening_tells (read_of file).settings (link_calls file) taken ∙ rw none)
    ∙ empty_told (read_of file).settings

pub prints_told : (file : List ℕ) → Prints file
prints_told file =
    record {
      unread = λ n. reading_refused file refl (λ e. n (sym (read_number file) ∙ e)) ∙ ap refused_file (read_number file);
      unopened = λ fine n. opening_refused (opens file fine) (λ e. n (sym (opening_number_lem file fine) ∙ e)) ∙ ap refused_file (opening_number_lem file fine);
      refused = refused_told file;
      printed = printed_told file;
      empty = empty_printed file;
    }
