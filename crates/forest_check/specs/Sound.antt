-- Number 1 (RULES 7.8), for one forest in arrays: what each of its tests asks of the lists of parents, sizes and labels.
-- The lists may have any length, which is the number of cells.
use Rattle.std.specs.Prelude.{ℕ, suc, ◌+◌, ◌*◌, ◌≤◌, ◌<◌, ◌≡◌, Bool, true, ◌&&◌, ◌||◌, List, [], ◌∷◌, eqb, leb, ltb, length, get_or}
use Rattle.numbers.specs.Kinds.{Cell, Labels, Parents, Sizes}
use Rattle.graph.specs.Forest.{climb}
use Rattle.forest.specs.Arrays.{places, parent_in}

-- f holds of every entry of the list, given its place and the entry; the first place is i
unfoldable pub every : (test : ℕ → ℕ → Bool) (first : ℕ) (entries : List ℕ) → Bool
every f i [] = true
every f i (x ∷ xs) = f i x && every f (suc i) xs

-- the entry is at least low and below the end
abbrev pub within : (low end : ℕ) (cell : Cell) (entry : ℕ) → Bool
within low end c x = leb low x && ltb x end

-- a walk without a cut does not exceed `limit` steps: after these it stands at a cell that is its own parent
abbrev pub ends : (up : Cell → Cell) (limit : ℕ) (cell : Cell) → Bool
ends up limit c =
    let r : ℕ = (climb up limit c).root in
    eqb (up r) r

-- the same of cell c with the parent p; a root needs no walk
abbrev pub ends_from_of : (parents : Parents) (limit : ℕ) (cell : Cell) (parent : ℕ) → Bool
ends_from_of ps limit c p =
    let walks : Bool = ends (parent_in ps) limit c in
    eqb p c || walks

-- number 1 of one forest: as many sizes as parents; each parent a cell; each size from 1 to the number of cells; and no
-- cell's walk exceeds `limit` steps
abbrev pub sound_of : (parents : Parents) (sizes : Sizes) (limit : ℕ) → Bool
sound_of ps ss limit =
    let cells : ℕ = length ps in
    eqb (length ss) cells && every (within 0 cells) 0 ps && every (within 1 (cells + 1)) 0 ss && every (ends_from_of ps limit) 0 ps

-- each label is at most the bound
abbrev pub labels_within_of : (labels : Labels) (bound : ℕ) → Bool
labels_within_of ls bound = every (λ c x. leb x bound) 0 ls

-- what the quick way takes: no more cells than an array has places, as many sizes as parents, and all of them in their ranges
pub record Comparable (ps ss : List ℕ) : Type 0 where
  pub few : length ps ≤ places
  pub long : length ss ≡ length ps
  pub parents : every (within 0 (length ps)) 0 ps ≡ true
  pub sizes : every (within 1 (length ps + 1)) 0 ss ≡ true

-- each place has the size of the cell's parent
abbrev pub Above : (parents : Parents) (sizes : Sizes) (above : List ℕ) → Type 0
Above ps ss above = (c : ℕ) → c < length ps → get_or above c 0 ≡ get_or ss (get_or ps c 0) 0

-- each tree but a root's has at most half the cells of its parent's
abbrev pub doubles_at : (sizes : Sizes) (cell : Cell) (parent : ℕ) → Bool
doubles_at ss c p = eqb p c || leb (2 * get_or ss c 0) (get_or ss p 0)
