-- The text of a file, stage by stage: what reading, opening and playing give decides it. A book that was opened and played into
-- can be listed (crates/file_play/proofs/Playing.antt).
use Prim.Native.Nat.{ℕ, zero, suc, ◌≤◌}
use mathlib.Core.Path.{◌≡◌, refl, sym, ap, ◌∙◌}
use mathlib.Core.Bool.{Bool, true, false}
use mathlib.Core.List.{List}
use native.Mathlib.Omega.{arith}
use borrow.Author.Tests.{le-leb}
use lib.Dec.{leb}
use lib.ListN.{length, drop, replicate, length-append}
use Rattle.std.proofs.Common.{Result, Ok, Err}
use Rattle.std.specs.Result.{result_unwrap_or}
use Rattle.std.proofs.lemmas.List.Edits.{sets}
use Rattle.refusals.specs.declared.Refusal.{Refusal}
use Rattle.file.specs.Format.{read_of}
use Rattle.file.specs.declared.Reading.{Reading}
use Rattle.settings.specs.declared.Settings.{Settings}
use Rattle.book_state.specs.declared.Book.{Book}
use Rattle.book_state.specs.Order.{never_opened_of}
use Rattle.book_state.specs.Numbers.{log_places}
use Rattle.book.specs.Calls.{Outcome, Answer, Gives, opening_number_of, opening_by_number, opening_of}
use Rattle.listing.specs.declared.ListAnswer.{ListAnswer}
use Rattle.file_play.specs.declared.PlayAnswer.{PlayAnswer}
use Rattle.listing.specs.Lines.{refused_file, refused_record}
use Rattle.file_play.specs.Play.{Play, GivesPlay, play_from}
use Rattle.listing.specs.Listing.{GivesListing, book_text, played_text, opened_text, read_text, listing_text, output_places, told, listed_if, listing_of}
use Rattle.text.proofs.Writing.{sets_front}
use Rattle.file_play.proofs.Playing.{Ready, opening_ready, played_ready}

-- the length that is given is within the output
pub listed_within : (file out : List ℕ) {answer : ListAnswer} {out' : List ℕ} → GivesListing (listing_of file out) answer out'
    → answer.length ≤ length out'
unfolding listing_of listed_if
listed_within file out l = rw (l.answered, l.written) (within (leb output_places (length out)))
  where
    within : (t : Bool) → (listed_if t (listing_text file) out).answer.length ≤ length (listed_if t (listing_text file) out).output
    within true = omega (arith, length-append (listing_text file) (drop (length (listing_text file)) out))
    within false = omega arith

pub length_within : (file out : List ℕ) (listed : Result ℕ Refusal) {out' : List ℕ} → GivesListing (listing_of file out) (told listed) out'
    → result_unwrap_or listed 0 ≤ length out'
length_within file out (Ok n) l = listed_within file out l
length_within file out (Err refusal) l = omega arith

-- the text from the front of an output that has room for every listing
pub listed : (file out : List ℕ) → output_places ≤ length out → length (listing_text file) ≤ length out
    → GivesListing (listing_of file out) (record { length = length (listing_text file); number = 0 }) (sets out 0 (listing_text file))
unfolding listing_of listed_if
listed file out room fits = rw (le-leb _ _ room) (record { answered = refl; written = sets_front (listing_text file) out fits })

-- the text of a number that is not 0
refused_read : (k : ℕ) (file : List ℕ) (r : Reading) → ¬ (k ≡ 0) → read_text k file r ≡ refused_file k
unfolding read_text
refused_read zero file r n = absurd (n refl)
refused_read (suc k) file r n = refl

refused_opened : (k : ℕ) (file : List ℕ) (m : ℕ) (o : Outcome) → ¬ (k ≡ 0) → opened_text k file m o ≡ refused_file k
unfolding opened_text
refused_opened zero file m o n = absurd (n refl)
refused_opened (suc k) file m o n = refl

refused_played : (k : ℕ) (p : Play) → ¬ (k ≡ 0) → played_text k p ≡ refused_record k p.taken
unfolding played_text
refused_played zero p n = absurd (n refl)
refused_played (suc k) p n = refl

-- ---- reading

pub reading_refused : (file : List ℕ) {r : Reading} → r ≡ read_of file → ¬ (r.number ≡ 0) → listing_text file ≡ refused_file r.number
unfolding listing_text
reading_refused file {r} read n = rw (← read) (refused_read r.number file r n)

-- ---- opening

-- a file that is taken, and a book that opens over a log of zeros
pub record Opened (file : List ℕ) (r : Reading) (start : Book) (a : Answer) (log : List ℕ) : Type 0 where
  pub read : r ≡ read_of file
  pub fine : r.number ≡ 0
  pub opens : Gives (opening_of start (replicate log_places 0) r.settings) a log

-- the text is the same, whatever the book was
alike : (file : List ℕ) (m : ℕ) (b c : Book) (log : List ℕ) (s : Settings)
    → (let o = opening_of b log s in
    let p = opening_of c log s in
    opened_text o.number file m o ≡ opened_text p.number file m p)
unfolding opening_of opening_by_number opened_text
alike file m b c log s = go (opening_number_of s log)
  where
    go : (k : ℕ)
        → (let o = opening_by_number k b log s in
        let p = opening_by_number k c log s in
        opened_text o.number file m o ≡ opened_text p.number file m p)
    go zero = refl
    go (suc k) = refl

module _ {file : List ℕ} {r : Reading} {start : Book} {a : Answer} {log : List ℕ} (s : Opened file r start a log) where
  o : Outcome
  o = opening_of start (replicate log_places 0) r.settings

  same_number : o.number ≡ a.number
  unfolding o
  same_number = sym (ap (λ x. x.number) s.opens.answered)

  is_opened : listing_text file ≡ opened_text o.number file r.m o
  unfolding listing_text read_text o
  is_opened = rw (← s.read, s.fine) (alike file r.m never_opened_of start (replicate log_places 0) r.settings)

  pub opening_refused : ¬ (a.number ≡ 0) → listing_text file ≡ refused_file a.number
  opening_refused n = is_opened ∙ ap (λ k. opened_text k file r.m o) same_number ∙ refused_opened a.number file r.m o n

-- ---- playing

-- and the records played into it
pub record PlayedInto (file : List ℕ) (r : Reading) (start : Book) (a : Answer) (log : List ℕ) (b : Book) (p : PlayAnswer) (log' : List ℕ) : Type 0 where
  pub opening : Opened file r start a log
  pub opened : a.number ≡ 0
  pub plays : GivesPlay (play_from file 0 r.m a.book log) b p log'

module _ {file : List ℕ} {r : Reading} {start : Book} {a : Answer} {log : List ℕ} {b : Book} {p : PlayAnswer} {log' : List ℕ}
    (s : PlayedInto file r start a log b p log') where
  played : Play
  played = play_from file 0 r.m (o s.opening).book (o s.opening).log

  -- the outcome's book and log are those that are played into
  same_play : play_from file 0 r.m a.book log ≡ played
  unfolding o played
  same_play = rw (s.opening.opens.answered, s.opening.opens.logged)

  number_of : played.number ≡ p.number
  number_of = sym (ap (λ x. x.number) same_play) ∙ sym (ap (λ x. x.number) s.plays.answered)

  is_played : listing_text file ≡ played_text played.number played
  unfolding opened_text o played
  is_played = is_opened s.opening ∙ rw (same_number s.opening ∙ s.opened)

  pub record_refused : ¬ (p.number ≡ 0) → listing_text file ≡ refused_record p.number p.taken
  record_refused n =
      is_played ∙ ap (λ k. played_text k played) number_of ∙ refused_played p.number played n
      ∙ ap (refused_record p.number) (sym (ap (λ x. x.taken) same_play) ∙ sym (ap (λ x. x.taken) s.plays.answered))

  pub book_listed : p.number ≡ 0 → listing_text file ≡ book_text b log'
  unfolding played_text
  book_listed n = is_played ∙ rw (number_of ∙ n, ← same_play, s.plays.kept, s.plays.logged)

  pub book_ready : p.number ≡ 0 → Ready b log'
  book_ready n =
      let opens = s.opening.opens in
      let opened = sym (ap (λ x. x.number) opens.answered) ∙ s.opened in
      let before : Ready a.book log = rw (opens.answered, opens.logged) (opening_ready start _ r.settings opened) in
      let ended = sym (ap (λ x. x.number) s.plays.answered) ∙ n in
      rw (s.plays.kept, s.plays.logged) (played_ready file 0 r.m a.book log before ended)
