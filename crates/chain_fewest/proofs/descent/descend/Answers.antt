use Rattle.chain_fewest.proofs.Descending.{descending_nearer, descending_turns, descending_ends}
use Rattle.chain_fewest.proofs.descent.descend.Goals as goal

pub next_cell-cell-requires-clause-nearer : goal.next_cell-cell-requires-clause-nearer
next_cell-cell-requires-clause-nearer c = descending_nearer c.loop-cell.invariant c.loop-cell-test.true

pub loop-cell-preserved : goal.loop-cell-preserved
loop-cell-preserved c = descending_turns c.loop-cell.invariant c.loop-cell-test.true c.next_cell-cell.ensures

pub returns : goal.returns
returns c = descending_ends c.loop-cell.invariant c.loop-cell-test.false
