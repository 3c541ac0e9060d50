-- Playing is the link calls of the records, one after the other, up to the first refusal.
--
-- Record by record: the link call gives the number that the history gives (NumbersAgree). Where that is 0, book and log agree with the history
-- after the call (Keeps), and the rest is played from there. Where it is not, the call has changed nothing (Refused), and playing stops.
use Prim.Native.Nat.{ℕ, zero, suc, ◌+◌}
use mathlib.Core.Path.{◌≡◌, refl, sym, ◌∙◌, ap, subst}
use mathlib.Core.Bool.{true}
use mathlib.Core.List.{List}
use native.Mathlib.Nat.{zero-add}
use native.Mathlib.Omega.{arith}
use lib.ListN.{take}
use Rattle.file.specs.Format.{read_number_of, read_of}
use Rattle.file.proofs.Laws.{read_number}
use Rattle.book.specs.Calls.{Outcome}
use Rattle.file_play.specs.Play.{Play, record_gives, play_by_number, play_from, file_by_number, play_of}
use Rattle.demands.specs.History.{History, number_in, added, added_by_number}
use Rattle.demands.specs.Implementation.{ours, State, state_of, gives, after}
use Rattle.demands_listing.specs.Listed.{record_call, record_calls, Refusal, refusal_by, first_refusal, played_state, Plays}
use Rattle.demands.specs.Agrees.{Agrees}
use Rattle.demands.proofs.NumbersAgree.{number_agrees}
use Rattle.demands.proofs.Keeps.{step}
use Rattle.demands.proofs.Refused.{refused}

-- what the call of record i gives
abbrev given : (file : List ℕ) (i : ℕ) (s : State) → Outcome
given file i s = record_gives file i s.book s.log

abbrev playing : (file : List ℕ) (i more : ℕ) (s : State) → Play
playing file i more s = play_from file i more s.book s.log

-- and of the records after it
abbrev rest : (file : List ℕ) (i more : ℕ) (s : State) → Play
rest file i more s = playing file (suc i) more (state_of (given file i s))

record_number : {h : History} {s : State} → Agrees h s → (file : List ℕ) (i : ℕ) → (given file i s).number ≡ number_in true h (record_call file i)
unfolding gives
record_number {h} a file i = number_agrees a (record_call file i) ∙ ap (λ room. number_in room h (record_call file i)) a.room

record_agrees : {h : History} {s : State} → Agrees h s → (file : List ℕ) (i : ℕ) → (given file i s).number ≡ 0
    → Agrees (added h (record_call file i)) (state_of (given file i s))
unfolding gives added_by_number
record_agrees {h} {s} a file i e =
    subst (λ k. Agrees (added_by_number k h (record_call file i)) (state_of (given file i s)))
    (sym (number_agrees a (record_call file i)) ∙ e) (step a (record_call file i))

-- ---- the first refusal

pub played_refusal : (file : List ℕ) (more i : ℕ) (h : History) (s : State) → Agrees h s
    → first_refusal i h (record_calls file i more) ≡ record { place = (playing file i more s).taken; number = (playing file i more s).number }
unfolding record_calls first_refusal refusal_by play_from play_by_number
played_refusal file zero i h s a = refl
played_refusal file (suc more) i h s a =
    rw (← (record_number a file i))
    (go (given file i s).number (λ e. played_refusal file more (suc i) _ (state_of (given file i s)) (record_agrees a file i e)) refl)
  where
    later : Refusal
    later = first_refusal (suc i) (added h (record_call file i)) (record_calls file (suc i) more)

    go : (k : ℕ) → ((given file i s).number ≡ 0 → later ≡ record { place = (rest file i more s).taken; number = (rest file i more s).number })
        → (given file i s).number ≡ k
        → refusal_by k i later
        ≡ record { place = (play_by_number k i (given file i s) (rest file i more s)).taken; number = (play_by_number k i (given file i s) (rest file i more s)).number }
    go zero on e = on e
    go (suc k) on e = refl

-- ---- the calls that were made

-- with number 0 those of all records
pub played_whole : (file : List ℕ) (more i : ℕ) (s : State) → (playing file i more s).number ≡ 0
    → played_state (playing file i more s) ≡ after ours s (record_calls file i more)
unfolding record_calls after gives play_from play_by_number
played_whole file zero i s e = refl
played_whole file (suc more) i s e = go (given file i s).number (played_whole file more (suc i) (state_of (given file i s))) e
  where
    calls : State
    calls = after ours (state_of (given file i s)) (record_calls file (suc i) more)

    go : (k : ℕ) → ((rest file i more s).number ≡ 0 → played_state (rest file i more s) ≡ calls)
        → (play_by_number k i (given file i s) (rest file i more s)).number ≡ 0
        → played_state (play_by_number k i (given file i s) (rest file i more s)) ≡ calls
    go zero on e = on e
    go (suc k) on e = absurd (omega arith)

-- otherwise those of the records before the one refused
record Made (file : List ℕ) (i more : ℕ) (s : State) (p : Play) : Type 0 where
  pub before : ℕ
  pub place : p.taken ≡ i + before
  pub made : played_state p ≡ after ours s (take before (record_calls file i more))

calls_made : (file : List ℕ) (more i : ℕ) (s : State) → Made file i more s (playing file i more s)
unfolding record_calls after gives play_from play_by_number
calls_made file zero i s = record { before = 0; place = omega arith; made = refl }
calls_made file (suc more) i s = go (given file i s).number refl (calls_made file more (suc i) (state_of (given file i s)))
  where
    go : (k : ℕ) → (given file i s).number ≡ k → Made file (suc i) more (state_of (given file i s)) (rest file i more s)
        → Made file i (suc more) s (play_by_number k i (given file i s) (rest file i more s))
    go zero e on = record { before = suc on.before; place = omega (arith, on.place); made = on.made }
    go (suc k) e on =
        let kept = refused.kept s (record_call file i) (λ z. omega arith) in
        record { before = 0; place = omega arith; made = λ j. record { book = kept.0 j; log = kept.1 j } }

-- ---- the play call

module _ (file : List ℕ) {h : History} {s : State} (a : Agrees h s) where
  played : read_number_of file ≡ 0 → play_of file s.book s.log ≡ playing file 0 (read_of file).m s
  unfolding play_of file_by_number
  played e = rw (read_number file ∙ e)

  not_played : (k : ℕ) → (k ≡ 0 → ⊥)
      → file_by_number k file (read_of file).m s.book s.log ≡ record { book = s.book; log = s.log; number = k; taken = 0 }
  unfolding file_by_number
  not_played zero n = absurd (n refl)
  not_played (suc k) n = refl

  pub plays_told : Plays file s h (play_of file s.book s.log)
  unfolding play_of
  plays_told =
      let m : Made file 0 (read_of file).m s (playing file 0 (read_of file).m s) = calls_made file (read_of file).m 0 s in
      record {
        unread = λ n. rw (read_number file) (not_played (read_number_of file) n);
        refusal = λ e. rw (played e) (played_refusal file (read_of file).m 0 h s a);
        calls = λ e. rw (played e, m.place ∙ zero-add m.before) m.made;
        whole = λ e. rw (played e) (played_whole file (read_of file).m 0 s);
      }
