-- What is true of a fresh history, and stays true with each call that gives 0, is true of every history: a refused call adds nothing, and before
-- the first opening that gives 0 there is none.
use Prim.Native.Nat.{ℕ, zero, suc}
use mathlib.Core.Path.{◌≡◌, refl, subst}
use mathlib.Core.Bool.{Bool}
use mathlib.Core.List.{List, [], ◌∷◌}
use mathlib.Core.Option.{Option, none, some}
use Rattle.settings.specs.declared.Settings.{Settings}
use Rattle.demands.specs.History.{Call, opening, link, clock, History, number_in, begun, added, added_by_number, first_by_number, one_more_of, history_from}

module _
    (Holds : History → Type 0)
    (room : Bool)
    (fresh : (s : Settings) → Holds (begun s))
    (more : (h : History) (c : Call) → number_in room h c ≡ 0 → Holds h → Holds (added h c)) where
  -- of the history so far, if there is one
  SoFar : Option History → Type 0
  SoFar none = Unit {0}
  SoFar (some h) = Holds h

  by_number : (h : History) (c : Call) (k : ℕ) → number_in room h c ≡ k → Holds h → Holds (added_by_number k h c)
  unfolding added_by_number
  by_number h c zero e holds = more h c e holds
  by_number h c (suc k) e holds = holds

  first : (s : Settings) (k : ℕ) → SoFar (first_by_number k s)
  unfolding SoFar first_by_number
  first s zero = fresh s
  first s (suc k) = tt

  with_one : (o : Option History) (c : Call) → SoFar o → SoFar (one_more_of room o c)
  unfolding SoFar one_more_of
  with_one none (opening s) so_far = first s _
  with_one none (link tick one other) so_far = tt
  with_one none (clock tick) so_far = tt
  with_one (some h) c so_far = by_number h c _ refl so_far

  all : (cs : List Call) (o : Option History) (h : History) → SoFar o → history_from room o cs ≡ some h → Holds h
  unfolding SoFar history_from
  all [] o h so_far told = subst SoFar told so_far
  all (c ∷ cs) o h so_far told = all cs (one_more_of room o c) h (with_one o c so_far) told

  pub every_history : (cs : List Call) (h : History) → history_from room none cs ≡ some h → Holds h
  unfolding SoFar
  every_history cs h told = all cs none h tt told
