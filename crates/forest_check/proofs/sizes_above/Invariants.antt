-- `forest_check::sizes_above` meets its contract: entry c is filled with the size of the parent of c.
use Rattle.std.proofs.Common.{◌≡◌, ℕ, ◌<◌, length, get_or}
use Rattle.forest.specs.Arrays.{places}
use Rattle.forest_check.proofs.sizes_above.Given as goal

abbrev pub invariant-loop-i : goal.invariant-loop-i
invariant-loop-i l =
    record { long : length l.above ≡ places; filled : (k : ℕ) → k < l.i → get_or l.above k 0 ≡ get_or l.size (get_or l.parent k 0) 0 }
