-- `forest_check::stays` meets its contract: one step of a walk is the step.
use Rattle.std.proofs.Common.{eqb, ap, ◌∙◌}
use Rattle.forest.specs.Arrays.{parent_in}
use Rattle.forest.proofs.Climb.{one_step}
use Rattle.forest_check.proofs.stays.Goals as goal

pub returns : goal.returns
returns c = ap (λ x. eqb x c.args.cell) (c.root.ensures ∙ one_step (parent_in c.args.parent.now) _)
