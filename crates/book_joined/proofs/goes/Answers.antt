-- `book_joined::goes` meets its contract: one step of a walk tells.
use mathlib.Core.Path.{ap, ◌∙◌}
use mathlib.Core.Bool.{not}
use lib.Dec.{eqb}
use Rattle.forest.specs.Arrays.{parent_at_in}
use Rattle.forest.proofs.Climb.{one_step}
use Rattle.book_joined.proofs.goes.Goals as goal

pub returns : goal.returns
returns c =
    let args = c.args in
    ap (λ root. not (eqb root args.cell)) (ap (λ w. w.root) c.walk_at-step.ensures ∙ one_step (parent_at_in args.parent.now args.label.now args.cut) args.cell)
