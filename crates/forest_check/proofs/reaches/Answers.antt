-- `forest_check::reaches` meets its contract: at 64 and more the power is above every number of cells.
use Rattle.std.proofs.Common.{le-leb, le_trans}
use native.Mathlib.Nat.{le_of_lt}
use lib.Pow.{pow_mono}
use Rattle.forest_check.proofs.reaches.Goals as goal

pub returns-then-limit-ge64 : goal.returns-then-limit-ge64
returns-then-limit-ge64 c =
    simp (le-leb _ _ c.if-cells-le-PLACES.true, le-leb _ _ c.if-limit-ge64.true, le-leb _ _ (le_trans (le_of_lt c.ranges.cells.fits) (pow_mono c.if-limit-ge64.true)))
