-- `book_joined::across` meets its contract: the crossing goes by the roots of the two forests, so it decides; and a cell
-- that stands alone is chained with itself alone.
use Rattle.std.proofs.Common.{rules, sym, ◌∙◌}
use Rattle.book_joined.proofs.Asked.{askable}
use Rattle.book_joined.proofs.Unlinked.{one_alone, other_alone}
use Rattle.book_joined.proofs.Crossing.{crossable, across_decides}
use Rattle.book_joined.proofs.across.Goals as goal
use Rattle.book_joined.proofs.across.Goals.{Start, then-alone-via-then-alone, then-alone-via-else-alone+then-alone-2}

pub returns-then-alone : goal.returns-then-alone
returns-then-alone c =
    let a = askable c.args.book.now (search rules) (search rules) (search rules) c.requires.ordered c.requires.above c.requires.two in
    elim c.then-alone.branch [
      | then-alone-via-then-alone w ↦ one_alone a (sym c.alone.ensures ∙ w.if-alone.true)
      | then-alone-via-else-alone+then-alone-2 w ↦ other_alone a (sym w.alone-else-alone.ensures ∙ w.if-alone-2.true)
    ]

pub joined_across-requires : goal.joined_across-requires
joined_across-requires c =
    crossable (askable c.args.book.now (search rules) (search rules) (search rules) c.requires.ordered c.requires.above c.requires.two)

pub returns : goal.returns
returns c =
    across_decides (askable c.args.book.now (search rules) (search rules) (search rules) c.requires.ordered c.requires.above c.requires.two)
    c.joined_across.result c.joined_across.ensures
