-- `window_groups::trees::at_roots` meets its contract: three arrays are filled from the front, entry c with what stands at c's root.
use Prim.Native.Nat.{◌-◌}
use Rattle.forest.proofs.Fill.{Filled}
use Rattle.book_state.specs.Arrays.{cells}
use Rattle.window_groups.specs.Trees.{at_root}
use Rattle.window_groups.proofs.trees.at_roots.Given as goal

abbrev pub invariant-loop-cell : goal.invariant-loop-cell
invariant-loop-cell l =
    Filled (at_root l.root l.tallies.first) cells l.first l.cell
    × Filled (at_root l.root l.tallies.count) cells l.count l.cell
    × Filled (λ c. at_root l.root l.tallies.least c - 1) cells l.hold l.cell
