-- `forest_cross::list_groups` meets its contract: the loop's invariant is `Listing` (proofs/Listing.antt), and the measure is `cell`.
use Rattle.forest.specs.Arrays.{places, roots_at_of}
use Rattle.forest_cross.specs.Groups.{WalksEnd}
use Rattle.forest_cross.proofs.Listing.{Listing}
use Rattle.forest_cross.proofs.list_groups.Given as goal

abbrev pub invariant-loop-cell : goal.invariant-loop-cell
invariant-loop-cell l =
    WalksEnd l.parent l.label l.limit l.cut × Listing (roots_at_of l.parent l.label l.limit l.cut places) l.roots l.next l.cell
