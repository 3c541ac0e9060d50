-- The best trail over links in two lists, as it is asked for and as it is given.
use Rattle.std.specs.Prelude.{ℕ, ◌≤◌, ◌<◌, ◌≡◌, List, length}
use Rattle.forest.specs.Arrays.{places}
use Rattle.numbers.specs.Front.{at_front}
use Rattle.graph.specs.Link.{Chained}
use Rattle.buckets.specs.Listed.{AllBelow}
use Rattle.chain_fewest.specs.Lists.{links_of}

-- at most 4,096 links between cells that have a place in an array of cells, which chain the two, and a buffer as long as such an array
pub record TrailAskable (ones others : List ℕ) (one other : ℕ) (chain : List ℕ) : Type 0 where
  pub few : length ones ≤ 4096
  pub even : length others ≡ length ones
  pub ones_inside : AllBelow places ones
  pub others_inside : AllBelow places others
  pub one_inside : one < places
  pub other_inside : other < places
  pub room : places ≤ length chain
  pub chained : Chained (links_of ones others) one other

-- the number of its cells, and the buffer afterwards: the trail at its front, and later places keep what they had
pub record TrailGiven (cs chain : List ℕ) (cells : ℕ) (after : List ℕ) : Type 0 where
  pub count : cells ≡ length cs
  pub buffer : after ≡ at_front cs chain
