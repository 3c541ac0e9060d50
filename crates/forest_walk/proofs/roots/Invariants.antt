-- `forest_walk::roots` meets its contract: entry c is filled with the root of c.
use Rattle.std.proofs.Common.{◌≡◌, ℕ, ◌<◌, length, get_or}
use Rattle.forest.specs.Arrays.{places, walk_of}
use Rattle.forest_walk.proofs.roots.Given as goal

abbrev pub invariant-loop-cell : goal.invariant-loop-cell
invariant-loop-cell l =
    record { long : length l.found ≡ places; filled : (k : ℕ) → k < l.cell → get_or l.found k 0 ≡ (walk_of l.parent l.limit k).root }
