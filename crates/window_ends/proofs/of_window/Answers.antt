use Rattle.std.proofs.Common.{◌≡◌, arith}
use Rattle.std.proofs.lemmas.List.{take_all}
use Rattle.forest_scratch.proofs.Standing.{stands_fresh}
use Rattle.window.specs.Pairs.{links_of_pairs}
use Rattle.window.specs.Window.{window_slides_of, links_from_age, window_links}
use Rattle.window.proofs.Pairs.{pairs_more}
use Rattle.window.proofs.WindowLinks.{newest_more}
use Rattle.window_ends.proofs.Joining.{joins_none, joins_then}
use Rattle.window_ends.proofs.WindowEnds.{ends_are}
use Rattle.window_ends.proofs.of_window.Goals as goal

pub loop-age-init : goal.loop-age-init
unfolding links_from_age
loop-age-init c = joins_none (rw c.fresh_parents-parent.ensures stands_fresh.falls)

pub loop-one-init : goal.loop-one-init
unfolding links_of_pairs
loop-one-init c = joins_none c.loop-age.invariant.falls

pub loop-one-preserved : goal.loop-one-preserved
loop-one-preserved c = rw (pairs_more c.pairs-pairs.result.now c.loop-one.one-index c.loop-one-test.true) (joins_then c.loop-one.invariant c.join_pair.ensures)

pub loop-age-preserved : goal.loop-age-preserved
loop-age-preserved c =
    let window = c.args.window in
    let slide = rw (take_all c.loop-one.one-index c.pairs-pairs.result.now c.loop-one-test.false, c.pairs-pairs.ensures.links, c.open_slide-k.ensures) at c.loop-one.invariant in
    rw (newest_more window.clock window.counts.now window.log.now c.loop-age.age) (joins_then c.loop-age.invariant slide)

pub returns : goal.returns
unfolding window_links
returns c =
    let all : c.loop-age.age ≡ window_slides_of c.args.window.clock = omega (arith, c.slides-age-end.ensures) in
    ends_are _ _ _ (rw (all, c.fresh_parents-parent.ensures) at c.loop-age.invariant) c.to_roots.ensures
