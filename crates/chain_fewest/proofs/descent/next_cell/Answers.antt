-- `next_cell` meets its contract: what is found from the one side and then from the other is the smallest from either
-- (`next_found`).
use Prim.Native.Nat.{◌-◌}
use mathlib.Core.Path.{ap}
use Rattle.chain_fewest.proofs.Nearest.{next_found}
use Rattle.chain_fewest.proofs.descent.next_cell.Goals as goal

pub returns : goal.returns
returns c =
    next_found c.args.links (ap (λ n. n - 1) c.entry_at-number.ensures) c.smallest_across-found.ensures c.smallest_across.ensures
    c.requires.nearer.1
