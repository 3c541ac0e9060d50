-- `book_joined::alone` meets its contract: a cell that takes a step does not stand alone; and the forward forest is the one without a
-- cut.
use Rattle.std.proofs.Common.{sym, ◌∙◌}
use mathlib.Core.Bool.{and-false}
use borrow.Author.Tests.{eqb-false, not-true}
use Rattle.forest.specs.Arrays.{parent_at_in}
use Rattle.book_joined.proofs.Unlinked.{alone_uncut, goes_not_alone}
use Rattle.book_joined.proofs.alone.Goals as goal

pub returns-then-goes : goal.returns-then-goes
returns-then-goes c =
    let args = c.args in
    simp (goes_not_alone (parent_at_in args.book.now.backward_parent args.book.now.backward_label args.cut) c.requires (eqb-false _ _ (not-true _ (sym c.goes.ensures ∙ c.if-goes.true))))

pub returns-then-goes-2 : goal.returns-then-goes-2
returns-then-goes-2 c =
    let b = c.args.book.now in
    let cell = c.args.cell in
    simp (
      sym (alone_uncut b.forward_parent b.backward_label cell) ∙ goes_not_alone (parent_at_in b.forward_parent b.backward_label 0) c.requires (eqb-false _ _ (not-true _ (sym c.goes-2.ensures ∙ c.if-goes-2.true))),
      and-false,
    )
