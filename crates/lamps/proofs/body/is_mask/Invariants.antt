-- `lamps::body::is_mask` meets its contract: after i bytes the flag says whether all of them are 0 or 1.
use Rattle.std.proofs.Common.{◌≡◌}
use Rattle.lamps.specs.Mask.{is_mask_of}
use Rattle.lamps.proofs.body.is_mask.Given as goal

abbrev pub invariant-loop-i : goal.invariant-loop-i
invariant-loop-i l = l.fine ≡ is_mask_of l.i l.mask
