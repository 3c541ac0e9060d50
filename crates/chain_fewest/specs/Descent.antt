-- The best trail, cell by cell (RULES 5): from the first cell always on to the smallest cell across a
-- link from which one cell fewer leads on to the second.
use Rattle.std.specs.Prelude.{ℕ, ◌+◌, ◌≤◌, ◌≡◌, ◌⊎◌, List, length, get_or}
use Rattle.graph.specs.Link.{Link, Linked}
use Rattle.chain_fewest.specs.Joined.{LeadsOver}
use Rattle.chain_fewest.specs.declared.links.Side.{Side}
use Rattle.chain_fewest.specs.Levels.{Counted, Known}

-- the smaller of `best` and the smallest cell across a link of the cell, read from one side, with the number
pub record Smaller (side : Side) (remaining : List ℕ) (cell number best r : ℕ) : Type 0 where
  pub low : r ≤ best
  pub is : (r ≡ best) ⊎ (LeadsOver side cell r × (get_or remaining r 0 ≡ number))
  pub least : (d : ℕ) → LeadsOver side cell d → get_or remaining d 0 ≡ number → r ≤ d

-- d stands across a link of c, and one cell fewer leads on from it
pub record Nearer (ls : List Link) (remaining : List ℕ) (c d : ℕ) : Type 0 where
  pub linked : Linked c d ls
  pub fewer : get_or remaining d 0 + 1 ≡ get_or remaining c 0

-- the smallest such cell
pub record NextCell (ls : List Link) (remaining : List ℕ) (c d : ℕ) : Type 0 where
  pub nearer : Nearer ls remaining c d
  pub least : (x : ℕ) → Nearer ls remaining c x → d ≤ x

-- the numbers are those of the best trails to the second cell, the first cell's is known, and the chain has room for its trail
pub record DescentReady (ls : List Link) (remaining : List ℕ) (one other : ℕ) (chain : List ℕ) : Type 0 where
  pub counted : Counted ls other remaining
  pub known : Known remaining one
  pub room : get_or remaining one 0 ≤ length chain
