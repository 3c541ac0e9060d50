-- `kerblist::print_listing` is safe and ends: what is listed stands within the output.
use lib.Seq.{length-take-le}
use Rattle.std.proofs.Common.{sym}
use Rattle.listing.proofs.Stages.{length_within}
use Rattle.kerblist.proofs.print_listing.Goals as goal

pub slice_bounds-out-end : goal.slice_bounds-out-end
slice_bounds-out-end c = rw c.unwrap_or-length.ensures (length_within _ _ c.list.result c.list.ensures)

pub slice_bounds-write_all-end : goal.slice_bounds-write_all-end
slice_bounds-write_all-end c = sym (length-take-le _ _ (rw c.unwrap_or-length.ensures (length_within _ _ c.list.result c.list.ensures)))
