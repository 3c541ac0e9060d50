-- `forest_check::all_within` meets its contract: a pass (proofs/Every.antt), whose flag is whether the least and the greatest so far
-- are within (proofs/Extremes.antt).
use Rattle.std.proofs.Common.{◌&&◌, leb, ltb}
use Rattle.forest_check.specs.Sound.{within}
use Rattle.forest_check.proofs.Every.{Tested}
use Rattle.forest_check.proofs.all_within.Given as goal

abbrev pub invariant-loop-x : goal.invariant-loop-x
invariant-loop-x l = Tested (within l.low l.end) l.numbers (leb l.low l.least && ltb l.greatest l.end) l.x-index
