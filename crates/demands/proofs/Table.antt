-- Demand 0, Table: the number that the book gives is the number that the history gives. Calls keep book and log in agreement
-- with the history (Keeps), and where they agree the numbers agree too (NumbersAgree). An opening's number needs neither.
use mathlib.Core.Path.{◌≡◌}
use mathlib.Core.List.{[], ◌∷◌}
use Rattle.settings.specs.Settings.{taken_number}
use Rattle.settings.specs.declared.Settings.{Settings}
use Rattle.numbers.specs.Checks.{first_of, unless}
use Rattle.book.specs.Calls.{opening_number_of}
use Rattle.demands.specs.History.{opening}
use Rattle.demands.specs.Implementation.{ours, State, gives}
use Rattle.demands.specs.Demands.{room_in, Table}
use Rattle.demands.proofs.NumbersAgree.{opening_gives_lem, number_agrees, asked_agrees}
use Rattle.demands.proofs.Touching.{apart_agrees}
use Rattle.demands.proofs.Keeps.{keeps}

openings : (s : State) (settings : Settings)
    → (gives ours s (opening settings)).number ≡ first_of (taken_number settings ∷ unless (room_in s) 6 ∷ [])
unfolding gives opening_number_of
openings s settings = opening_gives_lem s.book s.log settings

pub table : Table ours
table =
    record {
      openings = openings;
      calls = λ s cs h told. number_agrees (keeps s cs h told);
      apart = λ s cs h told. apart_agrees (keeps s cs h told);
      asks = λ s cs h told one other. asked_agrees (keeps s cs h told) one other;
    }
