-- Trails (RULES 5): lists of cells, each neighbouring two linked; the one with the fewest links
-- that comes first by cell numbers (`Best`), and a finder of it (`trail_of`). And lists that hold no cell twice.
--
-- The finder rests on `fewest_links`, which grows with the list of links: a shortest trail passes a further link not at
-- all, or once, in one of its two directions.
use Rattle.std.specs.Prelude.{ℕ, zero, suc, ◌+◌, ◌≤◌, ◌<◌, min, ◌≡◌, Bool, true, false, cond, List, [], ◌∷◌, eqb, length, get_or}
use Rattle.std.proofs.Math.Option.{Option, none, some}
use Rattle.numbers.specs.Kinds.{Cell}
use Rattle.graph.specs.Link.{Link, Linked}

-- the list leads from a to b: it starts with a and ends with b, and each neighbouring two are linked
pub data Trail (ls : List Link) (b : ℕ) : ℕ → List ℕ → Type 0 where
  arrive : {a : ℕ} → a ≡ b → Trail ls b a (a ∷ [])
  step : {a c : ℕ} {cs : List ℕ} → Linked a c ls → Trail ls b c cs → Trail ls b a (a ∷ cs)

-- of two lists that are equally long, the left comes first when the numbers are compared from the start, or they are equal
pub data First : List ℕ → List ℕ → Type 0 where
  even : First [] []
  lower : {c d : ℕ} {cs ds : List ℕ} → c < d → First (c ∷ cs) (d ∷ ds)
  later : {c d : ℕ} {cs ds : List ℕ} → c ≡ d → First cs ds → First (c ∷ cs) (d ∷ ds)

-- the trail from a to b with the fewest links, and among those the first by cell numbers
pub record Best (ls : List Link) (a b : ℕ) (cs : List ℕ) : Type 0 where
  pub trail : Trail ls b a cs
  pub fewest : (ds : List ℕ) → Trail ls b a ds → length cs ≤ length ds
  pub first : (ds : List ℕ) → Trail ls b a ds → length ds ≡ length cs → First cs ds

-- no cell stands in the list twice: any two places hold different cells
abbrev pub NoneTwice : (cells : List Cell) → Type 0
NoneTwice cs = (i j : ℕ) → i < j → j < length cs → get_or cs i 0 ≡ get_or cs j 0 → ⊥

-- the smaller of two numbers, of which either may be missing
unfoldable pub smaller : Option ℕ → Option ℕ → Option ℕ
smaller none y = y
smaller (some m) none = some m
smaller (some m) (some n) = some (min m n)

-- as many links as the two parts have, and the one between them
unfoldable pub through : Option ℕ → Option ℕ → Option ℕ
through none y = none
through (some m) none = none
through (some m) (some n) = some (m + 1 + n)

-- the fewest links of a trail from a to b, if there is one
unfoldable pub fewest_links : (links : List Link) (a b : Cell) → Option ℕ
unfolding smaller through
fewest_links [] a b = cond (eqb a b) (some 0) none
fewest_links (l ∷ ls) a b =
    smaller (fewest_links ls a b)
    (smaller (through (fewest_links ls a l.one) (fewest_links ls l.other b))
    (through (fewest_links ls a l.other) (fewest_links ls l.one b)))

-- the number is there and is k
unfoldable pub is_some : (m : Option ℕ) (k : ℕ) → Bool
is_some none k = false
is_some (some m) k = eqb m k

-- c, if it stands across a link from a and k links of `all` lead on from it to b
unfoldable pub offered : (all : List Link) (b : Cell) (k : ℕ) (across : Bool) (cell : Cell) → Option ℕ
unfolding fewest_links is_some
offered all b k false c = none
offered all b k true c = cond (is_some (fewest_links all c b) k) (some c) none

-- the smallest cell that a link of the list joins with a and from which k links of `all` lead on to b
unfoldable pub next_cell_of : (all : List Link) (b : Cell) (k : ℕ) (a : Cell) (links : List Link) → Option ℕ
unfolding offered smaller
next_cell_of all b k a [] = none
next_cell_of all b k a (l ∷ ls) =
    smaller (offered all b k (eqb l.one a) l.other)
    (smaller (offered all b k (eqb l.other a) l.one) (next_cell_of all b k a ls))

-- from a cell k links away from b, always to the smallest cell that is one link nearer
unfoldable pub descend : (links : List Link) (b : Cell) (k : ℕ) (from : Option ℕ) → List Cell
unfolding next_cell_of
descend ls b zero none = []
descend ls b zero (some a) = a ∷ []
descend ls b (suc k) none = []
descend ls b (suc k) (some a) = a ∷ descend ls b k (next_cell_of ls b k a ls)

-- the best trail from a to b, by the number of its links
unfoldable pub trail_of_links : (links : List Link) (a b : Cell) (count : Option ℕ) → List Cell
unfolding descend
trail_of_links ls a b none = []
trail_of_links ls a b (some k) = descend ls b k (some a)

-- the best trail from a to b; the empty list where there is none
unfoldable pub trail_of : (links : List Link) (a b : Cell) → List Cell
unfolding trail_of_links fewest_links
trail_of ls a b = trail_of_links ls a b (fewest_links ls a b)
