-- `lamps::zone::lamp_of` meets its contract: no cell below the one that is looked at lights the lamp.
use Rattle.std.proofs.Common.{◌≡◌, ℕ, ◌-◌, Bool, List}
use Rattle.book_state.specs.Arrays.{cells}
use Rattle.lamps.specs.Lamps.{lamp_from}
use Rattle.lamps.specs.Groups.{lights_by}
use Rattle.lamps.proofs.zone.lamp_of.Given as goal

-- the test of a cell
abbrev test : (from end : ℕ) (first linked dark : List ℕ) → ℕ → Bool
test from end first linked dark = lights_by (record { from = from; end = end }) first linked dark

abbrev pub invariant-loop-cell : goal.invariant-loop-cell
invariant-loop-cell l =
    let asked = test l.zone.from l.zone.end l.ends.first l.ends.linked l.dark in lamp_from asked 0 cells ≡ lamp_from asked l.cell (cells - l.cell)
