use Rattle.forest.specs.Arrays.{places}
use Rattle.chain_fewest.proofs.Counting.{all_blank}
use Rattle.chain_fewest.proofs.levels.Search.new.Goals as goal

pub returns : goal.returns
returns c = all_blank places
