use Rattle.std.proofs.Common.{arith}
use Rattle.window.proofs.Putting.{put_then}
use Rattle.window.proofs.WindowLinks.{slide_few, slides_more}
use Rattle.window.proofs.gather_newest.Goals as goal

pub loop-age-preserved : goal.loop-age-preserved
loop-age-preserved c =
    let window = c.args.window in
    let age = c.loop-age.age in
    let before = c.loop-age.invariant in
    let slide = rw (c.pairs.ensures.links, c.open_slide-k.ensures) at c.put_pairs.ensures in
    record {
      few = omega (arith, before.few, slide.until, slide_few window.clock window.counts.now window.log.now age window.readable.few);
      put = rw (slides_more window.clock window.counts.now window.log.now age) (put_then before.put slide);
    }
