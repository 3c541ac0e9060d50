use Rattle.std.proofs.Common.{◌<◌, sym, arith}
use Rattle.window.specs.Window.{window_slides_of}
use Rattle.chain_newest.proofs.Following.{joining_none, joining_met, joining_more, joining_all}
use Rattle.chain_newest.proofs.Newest.{label_same, searching_none, searched, searching_met, searching_more}
use Rattle.chain_newest.proofs.newest_label.Goals as goal
use Rattle.chain_newest.proofs.newest_label.Goals.{In-loop-age}

young : (c : In-loop-age) → c.loop-age.age < window_slides_of c.args.window.clock
young c = rw c.slides-age-end.ensures at c.loop-age-test.true

pub returns-then-one-other : goal.returns-then-one-other
returns-then-one-other c = (label_same _ _ _ _ _ c.if-one-other.true, omega arith)

pub loop-age-init : goal.loop-age-init
loop-age-init c = searching_none _ _ _ _ _ c.if-one-other.false c.fresh_parents-parent.ensures

pub loop-a-init : goal.loop-a-init
loop-a-init c = joining_none _ c.loop-age.invariant.tracks.stands.falls c.loop-age.invariant.apart

pub returns-then-roots : goal.returns-then-roots
returns-then-roots c =
    let more = young (goal.at.returns-then-roots c).In-loop-age in
    let slide = rw (c.pairs-pairs.ensures.links, c.open_slide-k.ensures) at (joining_met _ c.loop-a.invariant c.loop-a-test.true c.join_pair-roots.ensures c.if-roots.true) in
    (searching_met _ _ _ _ _ c.loop-age.invariant more slide c.if-roots.true, omega (arith, more))

pub loop-a-preserved : goal.loop-a-preserved
loop-a-preserved c = joining_more _ c.loop-a.invariant c.loop-a-test.true c.join_pair-roots.ensures c.if-roots.false

pub loop-age-preserved : goal.loop-age-preserved
loop-age-preserved c =
    let slide = rw (c.pairs-pairs.ensures.links, c.open_slide-k.ensures) at (joining_all _ c.loop-a.invariant c.loop-a-test.false) in
    searching_more _ _ _ _ _ c.loop-age.invariant (young (goal.at.loop-age-preserved c).In-loop-age) slide c.loop-a.invariant.apart

pub returns : goal.returns
returns c = sym (searched _ _ _ _ _ c.loop-age.invariant (rw c.slides-age-end.ensures at c.loop-age-test.false))
