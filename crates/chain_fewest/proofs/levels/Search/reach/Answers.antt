use mathlib.Core.Logic.{inl, inr}
use Rattle.chain_fewest.proofs.Reach.{reach_room, reach_turns}
use Rattle.chain_fewest.proofs.levels.Search.reach.Goals as goal
use Rattle.chain_fewest.proofs.levels.Search.reach.Goals.{then-self-across-eq0, else-self-across-eq0}

pub bounds-self-self : goal.bounds-self-self
bounds-self-self c =
    let inv = c.loop-link.invariant in
    reach_room inv.0 inv.1 c.loop-link-test.true c.entry_at-across.ensures c.if-self-across-eq0.true

pub loop-link-preserved : goal.loop-link-preserved
loop-link-preserved c =
    let inv = c.loop-link.invariant in
    reach_turns inv.0 inv.1 c.loop-link-test.true c.entry_at-across.ensures
    (
    elim c.if-self-across-eq0.branch [
      | then-self-across-eq0 w ↦ inl (w.if-self-across-eq0.true, w.self-is)
      | else-self-across-eq0 w ↦ inr (w.if-self-across-eq0.false, w.self-is)
    ]
    )
    c.entry_at-link-in-loop-link.ensures
