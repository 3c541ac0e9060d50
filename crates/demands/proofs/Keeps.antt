-- Calls keep a book and its log in agreement with the history that they tell, whatever book and log they start from.
--
-- A call gives the number that the history gives. Where that is not 0, nothing changes. Where it is 0, the call is an opening, and
-- agreement begins with it (KeptByOpening); or time moves (KeptByTime), and then a link is stored (KeptByLink). Before the first
-- opening that gives 0 there is nothing to keep, except that the log has as many places as before.
use Prim.Native.Nat.{ℕ, zero, suc, ◌<◌}
use mathlib.Core.Path.{◌≡◌, refl, sym, ◌∙◌, subst, subst⁻¹}
use mathlib.Core.Bool.{true}
use mathlib.Core.List.{List, [], ◌∷◌}
use mathlib.Core.Option.{Option, none, some}
use lib.ListN.{set, length-set}
use Rattle.cells.specs.declared.Fitting.{Fitting}
use Rattle.settings.specs.declared.Settings.{Settings}
use Rattle.cells.specs.Cell.{sectors, lorry_cell_of}
use Rattle.cells.proofs.Mirroring.{lorry_is_cell}
use Rattle.slides.specs.Clock.{not_before_of}
use Rattle.slides.proofs.Slides.{moved_slide}
use Rattle.book_state.specs.Arrays.{cells}
use Rattle.book_time.specs.Time.{moved_book}
use Rattle.book_state.specs.Numbers.{log_places}
use Rattle.book.specs.Calls.{opening_number_of, opening_by_number, opening_of, link_number_of, link_stored, link_by_number, link_of, clock_by_number, clock_of}
use Rattle.demands.specs.History.{
  Call,
  opening,
  link,
  clock,
  History,
  number_in,
  with_time,
  lorry_link,
  with_link,
  added,
  added_by_number,
  first_by_number,
  one_more_of,
  history_from,
}
use Rattle.demands.specs.Implementation.{ours, State, state_of, gives, after}
use Rattle.demands.specs.Demands.{room_in, AfterCalls}
use Rattle.demands.specs.Agrees.{Agrees}
use Rattle.book_state.proofs.Checks.{two_cells}
use Rattle.numbers.proofs.Checks.{has_front, has_long}
use Rattle.numbers.proofs.Checks.{first_passed, unless_passed}
use Rattle.book.proofs.Taken.{Taken, taken}
use Rattle.demands.proofs.NumbersAgree.{stored_agrees, link_number_lem, clock_number_lem}
use Rattle.demands.proofs.KeptByOpening.{opening_agrees}
use Rattle.demands.proofs.KeptByTime.{time_agrees}
use Rattle.demands.proofs.KeptByLink.{link_agrees}

-- ---- the log's places

opening_room : (s : State) (settings : Settings) → room_in (state_of (opening_of s.book s.log settings)) ≡ room_in s
unfolding opening_of opening_by_number opening_number_of
opening_room s settings = go (opening_number_of settings s.log) refl
  where
    go : (k : ℕ) → opening_number_of settings s.log ≡ k → room_in (state_of (opening_by_number k s.book s.log settings)) ≡ room_in s
    go zero e = has_front log_places _ ∙ sym (unless_passed _ 5 (first_passed _ [] (first_passed _ _ e).1).0)
    go (suc k) e = refl

link_room : (s : State) (tick one other k : ℕ) → room_in (state_of (link_by_number k s.book s.log tick one other)) ≡ room_in s
unfolding link_by_number link_stored
link_room s tick one other zero = has_long log_places _ s.log (length-set (set s.log _ _) _ _ ∙ length-set s.log _ _)
link_room s tick one other (suc k) = refl

clock_room : (s : State) (tick k : ℕ) → room_in (state_of (clock_by_number k s.book s.log tick)) ≡ room_in s
unfolding clock_by_number
clock_room s tick zero = refl
clock_room s tick (suc k) = refl

room_kept : (s : State) (c : Call) → room_in (state_of (gives ours s c)) ≡ room_in s
unfolding gives link_of clock_of
room_kept s (opening settings) = opening_room s settings
room_kept s (link tick one other) = link_room s tick one other _
room_kept s (clock tick) = clock_room s tick _

-- ---- one call more

-- the state agrees with the history so far, if there is one
Fits : Option History → State → Type 0
Fits none s = Unit {0}
Fits (some h) s = Agrees h s

-- an opening where there was no history, by its number
opening_fits : (s : State) (settings : Settings) (k : ℕ) → opening_number_of settings s.log ≡ k
    → Fits (first_by_number k settings) (state_of (opening_by_number k s.book s.log settings))
unfolding Fits first_by_number opening_by_number opening_number_of
opening_fits s settings zero e = opening_agrees settings s.log (first_passed _ _ e).0
opening_fits s settings (suc k) e = tt

module _ {h : History} {s : State} (a : Agrees h s) where
  opening_step : (settings : Settings) (k : ℕ) → opening_number_of settings s.log ≡ k
      → Agrees (added_by_number k h (opening settings)) (state_of (opening_by_number k s.book s.log settings))
  unfolding added_by_number added opening_by_number opening_number_of
  opening_step settings zero e = opening_agrees settings s.log (first_passed _ _ e).0
  opening_step settings (suc k) e = a

  clock_step : (tick k : ℕ) → number_in (room_in s) h (clock tick) ≡ k
      → Agrees (added_by_number k h (clock tick)) (state_of (clock_by_number k s.book s.log tick))
  unfolding added_by_number added clock_by_number number_in
  clock_step tick zero e = time_agrees a tick (unless_passed _ 3 e)
  clock_step tick (suc k) e = a

  -- what a link leaves, once time has moved: its cells are stored in the numbers of this mounting
  abbrev linked : ℕ → ℕ → ℕ → Fitting → State
  linked tick one other fitting =
      state_of (link_stored (moved_book s.book s.log tick) s.log (lorry_cell_of fitting one) (lorry_cell_of fitting other))

  link_done : (tick one other : ℕ) → Taken s.book s.log tick one other
      → Agrees (with_link (with_time h tick) (lorry_link h one other)) (linked tick one other s.book.fitting)
  link_done tick one other t =
      subst⁻¹ (λ m. Agrees (with_link (with_time h tick) (lorry_link h one other)) (linked tick one other m)) a.fitting
      (link_agrees (time_agrees a tick later) (lorry_link h one other)
      (lorry_is_cell sectors h.fitting.mounting one two.0)
      (lorry_is_cell sectors h.fitting.mounting other two.1)
      (rw (moved_slide h.clock tick, ← (stored_agrees a tick later)) t.few))
    where
      later : not_before_of h.clock tick ≡ true
      later = rw a.clock at t.later

      two : (one < cells) × (other < cells)
      two = two_cells t.cells

  link_step : (tick one other k : ℕ) → link_number_of s.book s.log tick one other ≡ k
      → Agrees (added_by_number k h (link tick one other)) (state_of (link_by_number k s.book s.log tick one other))
  unfolding added_by_number added link_by_number
  link_step tick one other zero e = link_done tick one other (taken s.book s.log tick one other e)
  link_step tick one other (suc k) e = a

  pub step : (c : Call) → Agrees (added_by_number (number_in (room_in s) h c) h c) (state_of (gives ours s c))
  unfolding gives opening_of link_of clock_of number_in opening_number_of
  step (opening settings) = opening_step settings _ refl
  step (link tick one other) = rw (← (link_number_lem a tick one other)) (link_step tick one other _ refl)
  step (clock tick) = rw (clock_number_lem a tick) (clock_step tick _ refl)

more_fits : (s : State) (o : Option History) (c : Call) → Fits o s → Fits (one_more_of (room_in s) o c) (state_of (gives ours s c))
unfolding Fits one_more_of gives opening_of opening_number_of
more_fits s none (opening settings) f = opening_fits s settings _ refl
more_fits s none (link tick one other) f = tt
more_fits s none (clock tick) f = tt
more_fits s (some h) c f = step f c

-- ---- all calls

told_fits : (s : State) (o : Option History) (h : History) → Fits o s → o ≡ some h → Agrees h s
unfolding Fits
told_fits s o h f e = subst (λ o. Fits o s) e f

keeps_from : (cs : List Call) (s : State) (o : Option History) (h : History) → Fits o s → history_from (room_in s) o cs ≡ some h
    → Agrees h (after ours s cs)
unfolding history_from after
keeps_from [] s o h f e = told_fits s o h f e
keeps_from (c ∷ cs) s o h f e =
    keeps_from cs (state_of (gives ours s c)) (one_more_of (room_in s) o c) h (more_fits s o c f) (rw (room_kept s c) e)

pub keeps : AfterCalls ours λ s h. Agrees h s
unfolding Fits
keeps s cs h told = keeps_from cs s none h tt told

-- and further calls go on so
pub keeps_on : {h : History} {s : State} → Agrees h s → (cs : List Call) (later : History) → history_from (room_in s) (some h) cs ≡ some later
    → Agrees later (after ours s cs)
unfolding Fits
keeps_on {h} {s} a cs later told = keeps_from cs s (some h) later a told
