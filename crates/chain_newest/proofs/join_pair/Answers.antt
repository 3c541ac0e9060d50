-- `chain_newest::join_pair` meets its contract: a pair of cells is one link, and any other pair is none.
use Rattle.std.proofs.Common.{sym, ◌∙◌}
use Rattle.chain_newest.proofs.Following.{follows_no_link, follows_same, follows_moved}
use Rattle.chain_newest.proofs.join_pair.Goals as goal

pub returns-then-not-are_cells : goal.returns-then-not-are_cells
returns-then-not-are_cells c = follows_no_link (record { one = c.args.one; other = c.args.other }) c.requires (sym c.are_cells.ensures ∙ c.if-not-are_cells.true)

pub returns-then-r : goal.returns-then-r
returns-then-r c = follows_same _ c.requires (sym c.are_cells.ensures ∙ c.if-not-are_cells.false) c.join-r.ensures.value c.join-r.ensures.parent_after c.if-r.true

pub returns : goal.returns
returns c =
    follows_moved _ c.requires (sym c.are_cells.ensures ∙ c.if-not-are_cells.false) c.join-r.ensures.value c.join-r.ensures.parent_after
    c.max-child.ensures c.min-top.ensures (c.moved.ensures, c.moved-2.ensures)
