-- `best_trail` meets its contract: what the descent asks follows from the numbers (`may_descend`).
use Rattle.chain_fewest.proofs.BestTrail.{may_descend}
use Rattle.chain_fewest.proofs.best_trail.Goals as goal

pub descend-requires : goal.descend-requires
descend-requires c =
    let counted = rw (c.list.ensures.0, c.list.ensures.1) at c.count.ensures in
    rw (c.list.ensures.0, c.list.ensures.1) (may_descend c.requires counted)
