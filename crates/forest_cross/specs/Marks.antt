-- The marks of the groups of one side, and what a crossing from a group does with the marks of both sides. All of it is
-- said of an own and another side, so that it serves the backward and the forward groups alike.
use Rattle.std.specs.Prelude.{ℕ, ◌<◌, ◌≤◌, ◌≡◌, ◌⊎◌, List, length, get_or}
use Rattle.numbers.specs.Kinds.{Cell}
use Rattle.forest.specs.Arrays.{places}
use Rattle.forest_cross.specs.Across.{Across, KeysAreCells}
use Rattle.forest_cross.specs.Groups.{ListedFrom}

-- what a crossing is lent of one side: each cell's key is a cell, and its own key; and the cells of each key are listed
pub record OneSide (keys next : List ℕ) : Type 0 where
  pub long : length keys ≡ places
  pub keyed : KeysAreCells keys
  pub rooted : (c : ℕ) → c < length keys → get_or keys (get_or keys c 0) 0 ≡ get_or keys c 0
  pub listed : ListedFrom keys 0 next

-- a group may be entered: it is that of a root, and not marked yet
pub record MayEnter (keys marks : List ℕ) (group : ℕ) : Type 0 where
  pub inside : group < length keys
  pub root : get_or keys group 0 ≡ group
  pub unmarked : get_or marks group 0 ≡ 0

-- the group has its mark
abbrev pub Marked : (marks : List ℕ) (group : ℕ) → Type 0
Marked marks group = 1 ≤ get_or marks group 0

-- the cell's group has its mark
abbrev pub Met : (keys marks : List ℕ) (cell : Cell) → Type 0
Met keys marks c = Marked marks (get_or keys c 0)

-- each cell of the own group leads across to c
abbrev pub Reached : (own other : List ℕ) (group : ℕ) (cell : Cell) → Type 0
Reached own other group c = (a : ℕ) → a < length own → get_or own a 0 ≡ group → Across own other a c

-- how the marks of one side have grown: none is lost; a cell that is newly met is reached, and it is met on the other side too
pub record MarksGrown (Reach : ℕ → Type 0) (keys others before after others_after : List ℕ) : Type 0 where
  pub long : length after ≡ length before
  pub kept : (group : ℕ) → Marked before group → Marked after group
  pub reached : (c : ℕ) → c < length keys → Met keys after c → Met keys before c ⊎ Reach c
  pub closed : (c : ℕ) → c < length keys → Met keys after c → Met keys before c ⊎ Met others others_after c

-- the marks of both sides, before and after a crossing from the own group
pub record Crossed (own other : List ℕ) (group : ℕ) (own_before other_before own_after other_after : List ℕ) : Type 0 where
  pub met : Marked own_after group
  pub own_grown : MarksGrown (Reached own other group) own other own_before own_after other_after
  pub other_grown : MarksGrown (Reached own other group) other own other_before other_after own_after
