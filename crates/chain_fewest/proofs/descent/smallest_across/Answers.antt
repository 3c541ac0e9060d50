use mathlib.Core.Path.{sym, ◌∙◌}
use Rattle.std.proofs.Common.{rules}
use Rattle.chain_fewest.proofs.Nearest.{finding_takes, finding_passes}
use Rattle.chain_fewest.proofs.descent.smallest_across.Goals as goal
use Rattle.chain_fewest.proofs.descent.smallest_across.Goals.{then-entry_at-number, else-entry_at-number}

pub loop-link-preserved : goal.loop-link-preserved
loop-link-preserved c =
    let across = c.entry_at-across.ensures in
    let on = c.entry_at-link-in-loop-link.ensures in
    elim c.if-entry_at-number.branch [
      | then-entry_at-number w ↦
          finding_takes c.loop-link.invariant c.loop-link-test.true across on (sym c.entry_at.ensures ∙ w.if-entry_at-number.true) (search rules)
      | else-entry_at-number w ↦
          finding_passes c.loop-link.invariant c.loop-link-test.true across on (λ e. w.if-entry_at-number.false (c.entry_at.ensures ∙ e)) w.found-is
    ]
