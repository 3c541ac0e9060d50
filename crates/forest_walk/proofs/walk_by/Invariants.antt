-- `forest_walk::walk_by` meets its contract: the loop of a walk (`Climb` of forest), by whatever function gives the closure's steps.
use Rattle.std.proofs.Common.{◌≡◌, ℕ}
use Rattle.forest.proofs.Climb.{Reached}
use Rattle.forest_walk.proofs.walk_by.Given as goal

abbrev pub invariant-loop-steps : goal.invariant-loop-steps
invariant-loop-steps g l =
    record {
      callable : goal.F-pre g l.up l.at;
      reached : (step : ℕ → ℕ) → ((c d : ℕ) → goal.F-pre g l.up c → goal.F-post g l.up c d → d ≡ step c) → Reached step l.limit l.cell l.at l.steps;
    }
