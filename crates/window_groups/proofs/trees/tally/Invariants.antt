-- `window_groups::trees::tally` meets its contract: what is stored of a tree last is its smallest cell, each cell adds 1 to its tree's
-- number, and its step lowers the tree's label, if its own is smaller.
use lib.ListN.{length}
use Rattle.forest.specs.Arrays.{parent_in, label_in}
use Rattle.window_groups.specs.Groups.{smallest}
use Rattle.window_groups.specs.Trees.{root_in, least_label}
use Rattle.window_groups.proofs.Tally.{Tallied}
use Rattle.window_groups.proofs.trees.tally.Given as goal

abbrev pub invariant-loop-cell : goal.invariant-loop-cell
invariant-loop-cell l =
    Tallied smallest (root_in l.root) l.first l.cell
    × Tallied length (root_in l.root) l.count l.cell
    × Tallied (least_label l.top (parent_in l.forest.parent) (label_in l.forest.label)) (root_in l.root) l.least l.cell
