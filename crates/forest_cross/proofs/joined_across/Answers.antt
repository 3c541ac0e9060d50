-- `forest_cross::joined_across` meets its contract: the roots and lists of each forest are a side of the crossing.
use Rattle.forest_cross.proofs.Listing.{grouped_side}
use Rattle.forest_cross.proofs.joined_across.Goals as goal

pub invariant_of-backward : goal.invariant_of-backward
invariant_of-backward c = record { grouped = grouped_side c.requires.backward_ends c.list_groups.ensures }

pub invariant_of-forward : goal.invariant_of-forward
invariant_of-forward c = record { grouped = grouped_side c.requires.forward_ends c.list_groups-2.ensures }
