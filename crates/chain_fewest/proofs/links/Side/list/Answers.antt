-- `list` of `Side` meets its contract: the lists begin empty (`none_listed`).
use mathlib.Core.Path.{refl}
use native.Mathlib.Omega.{arith}
use Rattle.forest.specs.Arrays.{places}
use Rattle.buckets.proofs.Listing.{none_listed}
use Rattle.chain_fewest.proofs.links.Side.list.Goals as goal

pub list_entries-requires-clause-empty : goal.list_entries-requires-clause-empty
list_entries-requires-clause-empty c = rw c.requires.empty (none_listed places c.requires.begins (omega arith) refl)
