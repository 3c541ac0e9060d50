use Rattle.std.proofs.Common.{◌∙◌, arith, length}
use lib.Seq.{drop-set-lt}
use Rattle.buckets.proofs.Listing.{list_more}
use Rattle.buckets.proofs.list_entries.Goals as goal

pub loop-entry-preserved : goal.loop-entry-preserved
loop-entry-preserved c =
    let at = c.loop-entry.invariant in
    record {
      listed = list_more (omega arith) (omega arith) c.entry_at-key.ensures at.listed;
      rest = drop-set-lt (length c.args.keys.now) _ _ _ (omega arith) ∙ at.rest;
    }
