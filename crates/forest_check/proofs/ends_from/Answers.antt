-- `forest_check::ends_from` meets its contract: a root's walk ends, and any other cell's where its parent's does with a step less.
use Rattle.std.proofs.Common.{◌≡◌, ℕ, ◌-◌, eq-eqb, sym, ap, ◌∙◌}
use Rattle.std.proofs.lemmas.List.{get_or_default}
use Rattle.graph.specs.Forest.{climb}
use Rattle.forest.specs.Arrays.{parent_in}
use Rattle.forest_check.proofs.Ends.{ends_stays, ends_not, ends_above}
use Rattle.forest_check.proofs.ends_from.Goals as goal
use Rattle.forest_check.proofs.ends_from.Goals.{After-from}

abbrev up : (c : After-from) → ℕ → ℕ
up c = parent_in c.args.parent.now

-- what was read is the cell's parent
above : (c : After-from) → up c c.args.cell ≡ c.from.result
above c = sym (c.from.ensures ∙ get_or_default c.args.parent.now _ 0 _ c.requires)

pub returns-then-from-cell : goal.returns-then-from-cell
returns-then-from-cell c =
    let at = (goal.at.returns-then-from-cell c).After-from in
    eq-eqb _ _ c.if-from-cell.true ∙ sym (ends_stays (up at) _ _ (above at ∙ c.if-from-cell.true))

pub returns-then-limit-ne0 : goal.returns-then-limit-ne0
returns-then-limit-ne0 c =
    let at = (goal.at.returns-then-limit-ne0 c).After-from in
    c.stays.ensures
    ∙ ends_above (up at) _ _ (λ e. c.if-from-cell.false (sym (above at) ∙ e)) c.if-limit-ne0.true
    (c.root.ensures ∙ ap (λ x. (climb (up at) (c.args.limit - 1) x).root) (sym c.from.ensures ∙ sym (above at)))

pub returns-else-limit-ne0 : goal.returns-else-limit-ne0
returns-else-limit-ne0 c =
    let at = (goal.at.returns-else-limit-ne0 c).After-from in
    simp (eq-eqb _ _ c.if-limit-ne0.false, ends_not (up at) _ _ (λ e. c.if-from-cell.false (sym (above at) ∙ e)) c.if-limit-ne0.false)
