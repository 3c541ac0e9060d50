use Rattle.std.proofs.Common.{arith}
use Rattle.forest_check.proofs.Facts.{quick_sound}
use Rattle.forest_check.proofs.sound.Goals as goal

pub returns-then-doubles : goal.returns-then-doubles
returns-then-doubles c = grind (arith, quick_sound)
