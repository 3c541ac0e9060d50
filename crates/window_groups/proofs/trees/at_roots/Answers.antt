use Rattle.forest.proofs.Fill.{fill_each}
use Rattle.window_groups.specs.Trees.{groups_at}
use Rattle.window_groups.proofs.trees.at_roots.Goals as goal

pub returns : goal.returns
unfolding groups_at
returns c =
    let filled = c.loop-cell.invariant in
    let all = c.loop-cell-test.false in
    λ i. record {
      first = fill_each _ _ filled.0 all i;
      count = fill_each _ _ filled.1 all i;
      hold = fill_each _ _ filled.2 all i;
      links = c.args.links;
    }
