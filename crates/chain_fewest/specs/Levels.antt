-- How many cells the best trail from each cell to the second cell has, found level by level: `remaining` holds the number
-- where it is known, and 0 where it is not. Cells whose number is known wait in the queue from `head` to `tail` until those
-- across their links have theirs.
use Rattle.std.specs.Prelude.{ℕ, zero, suc, ◌+◌, ◌≤◌, ◌<◌, ◌≡◌, ◌⊎◌, List, [], ◌∷◌, length, get_or}
use Rattle.numbers.specs.Kinds.{Cell}
use Rattle.graph.specs.Link.{Link, Linked}
use Rattle.graph.specs.Trail.{Trail, trail_of}
use Rattle.chain_fewest.specs.Joined.{side_links, LeadsOver}
use Rattle.chain_fewest.specs.declared.links.Side.{Side}
use Rattle.chain_fewest.specs.declared.levels.Search.{Search}

-- each cell's number is that of the best trail from it to b; 0 where there is no trail
pub record Counted (ls : List Link) (b : ℕ) (remaining : List ℕ) : Type 0 where
  pub counts : (c : ℕ) → get_or remaining c 0 ≡ length (trail_of ls c b)

-- no cell's number is known
abbrev pub Blank : List ℕ → Type 0
Blank remaining = (c : ℕ) → get_or remaining c 0 ≡ 0

-- the cells whose number is not known
unfoldable pub unknown : List ℕ → ℕ
unknown [] = 0
unknown (zero ∷ remaining) = suc (unknown remaining)
unknown (suc n ∷ remaining) = unknown remaining

-- the cell's number is known
abbrev pub Known : (remaining : List ℕ) (cell : Cell) → Type 0
Known remaining c = 1 ≤ get_or remaining c 0

-- the cells across the links of c have their numbers, of which none is higher by more than one
abbrev pub Closed : (links : List Link) (remaining : List ℕ) (cell : Cell) → Type 0
Closed ls remaining c = (d : ℕ) → Linked c d ls → Known remaining d × (get_or remaining d 0 ≤ get_or remaining c 0 + 1)

-- the number of the cell at a place of the queue
abbrev pub remaining_at : (remaining : List ℕ) (queue : List Cell) (i : ℕ) → ℕ
remaining_at remaining queue i = get_or remaining (get_or queue i 0) 0

-- a cell with a number at a place of the queue, and no number is higher by more than one
pub record Waits (remaining queue : List ℕ) (i : ℕ) : Type 0 where
  pub inside : get_or queue i 0 < length remaining
  pub known : Known remaining (get_or queue i 0)
  pub low : remaining_at remaining queue i ≤ i + 1
  pub top : (c : ℕ) → get_or remaining c 0 ≤ remaining_at remaining queue i + 1

-- the cell stands in the queue from `head` to `tail`
abbrev pub Waiting : (queue : List Cell) (head tail : ℕ) (cell : Cell) → Type 0
Waiting queue head tail c = (i : ℕ) × (head ≤ i) × (i < tail) × (get_or queue i 0 ≡ c)

-- the search from b, with the queue passed up to `head` and filled up to `tail`
pub record Searching (ls : List Link) (b : ℕ) (remaining queue : List ℕ) (head tail : ℕ) : Type 0 where
  pub long : length queue ≡ length remaining
  pub begins : get_or queue 0 0 ≡ b
  pub last : get_or remaining b 0 ≡ 1
  pub passed : head ≤ tail
  pub room : unknown remaining + tail ≡ length remaining
  pub trail : (c : ℕ) → Known remaining c → (cs : List ℕ) × Trail ls b c cs × (length cs ≡ get_or remaining c 0)
  pub closed : (c : ℕ) → Known remaining c → Closed ls remaining c ⊎ Waiting queue head tail c
  pub waits : (i : ℕ) → head ≤ i → i < tail → Waits remaining queue i
  pub rises : (i j : ℕ) → head ≤ i → i ≤ j → j < tail → remaining_at remaining queue i ≤ remaining_at remaining queue j

-- the same, as `Search` holds it
abbrev pub Searches : (links : List Link) (b : ℕ) (search : Search) → Type 0
Searches ls b s = Searching ls b s.remaining s.queue s.head s.tail

-- a cell waits at `head`, and its links are read from one side
pub record Ready (side : Side) (s : Search) : Type 0 where
  pub some : s.head < s.tail
  pub searching : Searches (side_links side) (get_or s.queue 0 0) s

-- the numbers of the cells across those links: they are known now, and what was known still is
pub record Reached (side : Side) (before after : Search) : Type 0 where
  pub long : length after.remaining ≡ length before.remaining
  pub some : after.head < after.tail
  pub searching : Searches (side_links side) (get_or before.queue 0 0) after
  pub kept : (c : ℕ) → Known before.remaining c → Known after.remaining c
  pub stays : after.head ≡ before.head
  pub place : get_or after.queue before.head 0 ≡ get_or before.queue before.head 0
  pub reached : (d : ℕ) → LeadsOver side (get_or before.queue before.head 0) d → Known after.remaining d
