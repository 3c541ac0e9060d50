-- Which links the structs of `links.rt` hold.
use Rattle.std.specs.Prelude.{ℕ, List}
use Rattle.graph.specs.Link.{Link}
use Rattle.chain_fewest.specs.Lists.{links_of, Leads}
use Rattle.chain_fewest.specs.declared.links.Side.{Side}
use Rattle.chain_fewest.specs.declared.links.Links.{Links}

-- those that are read from a side
abbrev pub side_links : Side → List Link
side_links side = links_of side.from.now side.to.now

-- one of them leads from a to b
abbrev pub LeadsOver : (side : Side) (a b : ℕ) → Type 0
LeadsOver side = Leads side.from.now side.to.now

-- those that are read from both sides
abbrev pub joined_by : Links → List Link
joined_by links = side_links links.forth
