-- `forest_check::doubles` meets its contract: a pass (proofs/Every.antt), whose flag is whether the most that a size above lacks is 0
-- (proofs/Extremes.antt, proofs/Doubling.antt).
use Rattle.std.proofs.Common.{eqb}
use Rattle.forest_check.specs.Sound.{doubles_at}
use Rattle.forest_check.proofs.Every.{Tested}
use Rattle.forest_check.proofs.doubles.Given as goal

abbrev pub invariant-loop-i : goal.invariant-loop-i
invariant-loop-i l = Tested (doubles_at l.size) l.parent (eqb l.lacking 0) l.i
