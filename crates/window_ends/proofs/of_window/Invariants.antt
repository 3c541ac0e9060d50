-- `window_ends::of_window` meets its contract: the newest `age` slides are joined, and of the slide of that age the pairs before the index, and their
-- links' ends marked (proofs/Joining.antt); of the whole window, with each cell's root for its parent, that is what is asked for (proofs/WindowEnds.antt).
use Rattle.std.proofs.Common.{take}
use Rattle.window.specs.Pairs.{links_of_pairs}
use Rattle.window.proofs.WindowLinks.{newest_links}
use Rattle.window_ends.specs.Joins.{Joins}
use Rattle.window_ends.proofs.of_window.Given as goal

abbrev pub invariant-loop-age : goal.invariant-loop-age
invariant-loop-age l = Joins (newest_links l.window.clock l.window.counts.now l.window.log.now l.age) l.initial.parent l.initial.linked l.parent l.linked

abbrev pub invariant-loop-one : goal.invariant-loop-one
invariant-loop-one l = Joins (links_of_pairs (take l.one-index l.pairs)) l.initial.parent l.initial.linked l.parent l.linked
