-- `forest_check::labels_within` meets its contract: a pass with a flag (proofs/Every.antt).
use Rattle.std.proofs.Common.{leb}
use Rattle.forest_check.proofs.Every.{Tested}
use Rattle.forest_check.proofs.labels_within.Given as goal

abbrev pub invariant-loop-x : goal.invariant-loop-x
invariant-loop-x l = Tested (λ c x. leb x l.bound) l.label l.fine l.x-index
