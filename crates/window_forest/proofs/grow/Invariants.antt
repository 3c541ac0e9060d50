-- `window_forest::grow` meets its contract: the first i links are united (proofs/Growing.antt).
use Rattle.book_state.specs.Arrays.{arrays_of}
use Rattle.window_forest.proofs.Growing.{Growing}
use Rattle.window_forest.proofs.grow.Given as goal

abbrev pub invariant-loop-i : goal.invariant-loop-i
invariant-loop-i l = Growing l.links.ones l.links.others l.links.labels l.links.count (arrays_of l.parent l.size l.label) l.i
