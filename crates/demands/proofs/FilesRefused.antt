-- Demand 1, FilesRefused: when a call on files, records or groups refuses, its other fields are 0 and its outputs are unchanged (reader
-- and writer by the crate file); each definition hands back what it was given. Where playing stops at a record, the book and its log are as the records before
-- it left them, since a refused link changes nothing.
use Prim.Native.Nat.{ℕ, zero, suc}
use mathlib.Core.Path.{◌≡◌, refl, sym, ◌∙◌, ap}
use mathlib.Core.Bool.{Bool, true, false, cond}
use mathlib.Core.List.{List}
use native.Mathlib.Omega.{arith}
use lib.Dec.{leb}
use lib.ListN.{length}
use Rattle.file.proofs.Laws.{refused_read}
use Rattle.file_write.proofs.Files.{refused_write}
use Rattle.book_state.specs.declared.Book.{Book}
use Rattle.book_state.specs.Order.{in_order_of}
use Rattle.book.specs.Calls.{Outcome}
use Rattle.file.specs.Layout.{record_bytes, tick_at, one_at, other_at}
use Rattle.file.specs.Format.{ending, read_number_of, read_answer, read_of}
use Rattle.file_play.specs.Play.{Play, record_gives, play_by_number, play_from, file_by_number, play_of}
use Rattle.file_record.specs.Record.{record_if}
use Rattle.listing.specs.Listing.{listed_if, listing_of}
use Rattle.numbers.specs.Checks.{unless}
use Rattle.numbers.specs.Front.{at_front}
use Rattle.window_groups.specs.declared.Groups.{Groups}
use Rattle.window_groups.specs.Groups.{groups_of}
use Rattle.groups.specs.Call.{GroupsOutcome, groups_number_in, groups_by_number, groups_given}
use Rattle.demands.specs.History.{link}
use Rattle.demands.specs.Implementation.{gives}
use Rattle.demands.specs.Demands.{Stopped, FilesRefused}
use Rattle.demands.proofs.NumbersAgree.{itself}
use Rattle.demands.proofs.Refused.{refused}

-- ---- a call gives its number

pub read_gives : (file : List ℕ) → (read_of file).number ≡ read_number_of file
unfolding read_of
read_gives file = itself (λ k. (read_answer k (ending file)).number) refl (λ k. refl) (read_number_of file)

pub groups_gives : (b : Book) (log first size hold : List ℕ) →
    (groups_given b log first size hold).answer.number ≡ groups_number_in (in_order_of b) log first size hold
unfolding groups_given groups_by_number
groups_gives b log first size hold =
    itself (λ k. (groups_by_number k (groups_of b.clock b.counts log) first size hold).answer.number) refl (λ k. refl) _

pub list_gives : (t : Bool) (text out : List ℕ) → (listed_if t text out).answer.number ≡ unless t 6
unfolding listed_if
list_gives true text out = refl
list_gives false text out = refl

pub unpack_gives : (t : Bool) (records : List ℕ) (i : ℕ) → (record_if t records i).number ≡ unless t 9
unfolding record_if
unpack_gives true records i = refl
unpack_gives false records i = refl

-- ---- a refusal changes nothing

-- an output that is too short is unchanged, and the length is 0
short_kept : (t : Bool) (text out : List ℕ) → ((listed_if t text out).answer.number ≡ 0 → ⊥) →
    listed_if t text out ≡ record { answer = record { length = 0; number = (listed_if t text out).answer.number }; output = out }
unfolding listed_if
short_kept true text out failed = absurd (failed refl)
short_kept false text out failed = refl

pack_kept : (t : Bool) (written out : List ℕ) → (unless t 6 ≡ 0 → ⊥) → cond t written out ≡ out
pack_kept true written out failed = absurd (failed refl)
pack_kept false written out failed = refl

unpack_kept : (t : Bool) (records : List ℕ) (i : ℕ) → ((record_if t records i).number ≡ 0 → ⊥) →
    record_if t records i ≡ record { tick = 0; one = 0; other = 0; number = (record_if t records i).number }
unfolding record_if
unpack_kept true records i failed = absurd (failed refl)
unpack_kept false records i failed = refl

groups_kept : (k : ℕ) (g : Groups) (first size hold : List ℕ) →
    let o : GroupsOutcome = groups_by_number k g first size hold in
    (o.answer.number ≡ 0 → ⊥) → o ≡ record { answer = record { links = 0; number = o.answer.number }; first = first; size = size; hold = hold }
unfolding groups_by_number
groups_kept zero g first size hold failed = absurd (failed refl)
groups_kept (suc k) g first size hold failed = refl

-- a file that the reader takes is played
pub play_read : (file : List ℕ) (b : Book) (log : List ℕ) → read_number_of file ≡ 0 → play_of file b log ≡ play_from file 0 (read_of file).m b log
unfolding play_of file_by_number
play_read file b log e = ap (λ k. file_by_number k file (read_of file).m b log) (read_gives file ∙ e)

-- and one that it refuses is not
unread_kept : (k : ℕ) (file : List ℕ) (m : ℕ) (b : Book) (log : List ℕ) → (k ≡ 0 → ⊥) →
    file_by_number k file m b log ≡ record { book = b; log = log; number = k; taken = 0 }
unfolding file_by_number
unread_kept zero file m b log failed = absurd (failed refl)
unread_kept (suc k) file m b log failed = refl

-- a record that is refused changes nothing
record_kept : (file : List ℕ) (i : ℕ) (b : Book) (log : List ℕ) → ((record_gives file i b log).number ≡ 0 → ⊥) →
    ((record_gives file i b log).book ≡ b) × ((record_gives file i b log).log ≡ log)
unfolding gives
record_kept file i b log = refused.kept (record { book = b; log = log }) (link (tick_at file i) (one_at file i) (other_at file i))

stopped : (file : List ℕ) (m i : ℕ) (b : Book) (log : List ℕ) → ((play_from file i m b log).number ≡ 0 → ⊥) →
    Stopped file i b log (play_from file i m b log)
unfolding play_from play_by_number
stopped file zero i b log failed = absurd (failed refl)
stopped file (suc m) i b log failed = go o.number refl failed (stopped file m (suc i) o.book o.log)
  where
    o : Outcome
    o = record_gives file i b log

    rest : Play
    rest = play_from file (suc i) m o.book o.log

    go : (k : ℕ) → o.number ≡ k → ((play_by_number k i o rest).number ≡ 0 → ⊥) → ((rest.number ≡ 0 → ⊥) → Stopped file (suc i) o.book o.log rest) →
        Stopped file i b log (play_by_number k i o rest)
    go zero e failed later =
        let w : Stopped file (suc i) o.book o.log rest = later failed in
        record { before = suc w.before; place = omega (arith, w.place); kept = rw e w.kept; number = w.number }
    go (suc k) e failed later =
        let w = record_kept file i b log (λ z. omega arith) in
        record {
          before = 0;
          place = omega arith;
          kept = rw (w.0, w.1);
          number = rw (w.0, w.1) e;
        }

pub files_refused : FilesRefused
unfolding listing_of groups_given play_of
files_refused =
    record {
      read = refused_read;
      write = refused_write;
      play = λ file m b log failed. stopped file m 0 b log failed;
      unread = λ file b log failed.
          rw (← (read_gives file))
          (unread_kept (read_of file).number file (read_of file).m b log (λ e. failed (sym (read_gives file) ∙ e)));
      pack = λ tick one other out failed. pack_kept (leb 8 (length out)) (at_front (record_bytes tick one other) out) out failed;
      unpack = λ records i failed. unpack_kept _ records i failed;
      groups = λ b log first size hold failed. groups_kept _ _ first size hold failed;
      list = λ file out failed. short_kept _ _ out failed;
    }
