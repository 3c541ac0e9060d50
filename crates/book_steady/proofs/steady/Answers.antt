-- `book_steady::steady` asks `grown` of a book in order alone.
use mathlib.Core.Path.{sym, ◌∙◌}
use Rattle.book_state.proofs.Checks.{ordered}
use Rattle.book_steady.proofs.steady.Goals as goal

pub grown-requires : goal.grown-requires
grown-requires c = (ordered _ (sym c.in_order.ensures ∙ c.if-in_order.true)).forward
