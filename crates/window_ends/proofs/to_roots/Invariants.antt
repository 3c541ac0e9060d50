-- `window_ends::to_roots` meets its contract: the cells below `cell` have their roots for their parents (proofs/Rooting.antt).
use Rattle.window_ends.proofs.Rooting.{Rooting}
use Rattle.window_ends.proofs.to_roots.Given as goal

abbrev pub invariant-loop-cell : goal.invariant-loop-cell
invariant-loop-cell l = Rooting l.initial.parent l.cell l.parent
