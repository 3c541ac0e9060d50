-- Parents that may be shortened. Which cell is whose parent is of no account: what counts is which cells have one root.
--
-- That is said by keys. A key is kept by the parents if each cell and its parent have the same; so all cells of a tree have one. The
-- root of each cell is such a key, and so is the number of its group, and its root in another forest.
use Rattle.std.specs.Prelude.{ℕ, zero, suc, ◌≤◌, min, max, ◌≡◌, cond, List, eqb, length, set}
use Rattle.numbers.specs.Kinds.{Cell, Parents}
use Rattle.forest.specs.Arrays.{places, parent_in}
use Rattle.forest_scratch.specs.declared.Roots.{Roots}

-- an array of parents, none above its cell: so every way up ends
pub record Descends (ps : List ℕ) : Type 0 where
  pub long : length ps ≡ places
  pub low : (c : ℕ) → parent_in ps c ≤ c

-- ---- what the functions give

-- a cell's root, and the parents when it is found
pub record Find : Type 0 where
  pub root : Cell
  pub parents : Parents

-- each cell that is passed on the way up takes its parent's parent for its own; the way has at most `limit` such steps
unfoldable pub find_within : (limit : ℕ) (parents : Parents) (cell : Cell) → Find
find_within zero ps c = record { root = parent_in ps c; parents = ps }
find_within (suc limit) ps c =
    let above : Cell = parent_in ps c in
    let next : Cell = parent_in ps above in
    let further : Find = find_within limit (set ps c next) next in
    cond (eqb next above) (record { root = above; parents = ps }) further

-- as no parent is above its cell, a cell has no more steps than its own number
abbrev pub find_of : (parents : Parents) (cell : Cell) → Find
find_of ps c = find_within c ps c

-- the two roots, found one after the other
abbrev pub both_of : (parents : Parents) (one other : Cell) → Find
both_of ps one other = find_of (find_of ps one).parents other

abbrev pub roots_of : (parents : Parents) (one other : Cell) → Roots
roots_of ps one other = record { one = (find_of ps one).root; other = (both_of ps one other).root }

-- and then the larger under the smaller
abbrev pub joined : (parents : Parents) (roots : Roots) → Parents
joined ps r = cond (eqb r.one r.other) ps (set ps (max r.one r.other) (min r.one r.other))

abbrev pub join_of : (parents : Parents) (one other : Cell) → Parents
join_of ps one other = joined (both_of ps one other).parents (roots_of ps one other)

-- ---- what they mean

-- the cell is its own parent
abbrev pub Root : (parents : Parents) (cell : Cell) → Type 0
Root ps c = parent_in ps c ≡ c

-- each cell and its parent have one key
abbrev pub Kept : (key : ℕ → ℕ) (parents : Parents) → Type 0
Kept key ps = (c : ℕ) → key (parent_in ps c) ≡ key c

-- two cells have one root exactly when they have one key
pub record Stands (key : ℕ → ℕ) (ps : List ℕ) : Type 0 where
  pub falls : Descends ps
  pub kept : Kept key ps
  pub apart : (a b : ℕ) → Root ps a → Root ps b → key a ≡ key b → a ≡ b

-- r is the root of c, and has its key
pub record RootOf (key : ℕ → ℕ) (ps : List ℕ) (c r : ℕ) : Type 0 where
  pub root : Root ps r
  pub one_key : key r ≡ key c
