-- `window_ends::join_pair` meets its contract: a pair of cells is one link, whose ends are marked, and any other pair is none.
use Rattle.std.proofs.Common.{sym, ◌∙◌}
use Rattle.window_ends.proofs.Joining.{joins_link}
use Rattle.window_ends.proofs.join_pair.Goals as goal

pub returns : goal.returns
returns c = joins_link c.args.one c.args.other c.requires (sym c.are_cells.ensures ∙ c.if-not-are_cells.false) c.join.ensures.parent_after
