-- `chain::trail_from` meets its contract: the links of the slides from the label on are gathered, and the best trail is over these
-- (proofs/ChainCall.antt).
use Rattle.std.proofs.Common.{arith}
use Rattle.window.proofs.Gathered.{put_first}
use Rattle.chain.proofs.ChainCall.{label_few, slides_fit, asked, given}
use Rattle.chain.proofs.trail_from.Goals as goal

pub overflow_sub-slides : goal.overflow_sub-slides
overflow_sub-slides c = omega (arith, label_few _ _ _ _ _ c.requires.label_value.0)

pub gather_newest-requires : goal.gather_newest-requires
gather_newest-requires c = slides_fit _ _ _ _ _ c.requires.label_value.0 c.requires.label_value.1

pub best_trail-requires : goal.best_trail-requires
best_trail-requires c =
    asked _ _ _ _ _ c.requires.label_value.0 c.requires.label_value.1 c.args.window.readable (put_first c.none-links.ensures c.gather_newest.ensures)
    c.requires.room c.requires.two

pub returns : goal.returns
returns c =
    given _ _ _ _ _ c.requires.label_value.0 c.requires.label_value.1 c.args.window.readable (put_first c.none-links.ensures c.gather_newest.ensures)
    c.best_trail.ensures
