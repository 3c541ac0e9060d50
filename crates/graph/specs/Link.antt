-- Links between cells, and which cells they chain together (RULES intro).
-- `Chained` is the meaning; `chains` decides it.
use Rattle.std.specs.Prelude.{ℕ, ◌≡◌, Bool, cond, List, [], ◌∷◌, eqb}
use Rattle.numbers.specs.Kinds.{Cell}

-- two cells that were one surface
pub record Link : Type 0 where
  pub one : ℕ
  pub other : ℕ

-- l is a link of a and b, whichever of the two it names first
pub data Between (a b : ℕ) (l : Link) : Type 0 where
  along : l.one ≡ a → l.other ≡ b → Between a b l
  against : l.one ≡ b → l.other ≡ a → Between a b l

-- some link of the list is one of a and b
pub data Linked (a b : ℕ) : List Link → Type 0 where
  here : {l : Link} {ls : List Link} → Between a b l → Linked a b (l ∷ ls)
  there : {l : Link} {ls : List Link} → Linked a b ls → Linked a b (l ∷ ls)

-- a and b are the same cell, or links of the list lead from a to b
pub data Chained (ls : List Link) (a : ℕ) : ℕ → Type 0 where
  same : {b : ℕ} → a ≡ b → Chained ls a b
  more : {b c : ℕ} → Chained ls a b → Linked b c ls → Chained ls a c

-- a number for each cell's group: with each link, the group of its one end takes the number of the other's
unfoldable pub group : (links : List Link) (cell : Cell) → ℕ
group [] = λ c. c
group (l ∷ ls) =
    let g : ℕ → ℕ = group ls in
    let from : ℕ = g l.one in
    let to : ℕ = g l.other in
    λ c.
    let now : ℕ = g c in
    cond (eqb now from) to now

-- whether the links chain a and b
unfoldable pub chains : (links : List Link) (a b : Cell) → Bool
unfolding group
chains ls a b =
    let g : ℕ → ℕ = group ls in
    eqb (g a) (g b)
