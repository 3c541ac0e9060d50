-- Links as two lists of cells: link i joins the i-th cell of the one list with the i-th of the other. Each of the two can
-- be read from its own cells to those across, so all here is said of a list `from` and a list `to`, and used twice.
--
-- The links of each cell as a list (the crate buckets): a link is an entry, and its cell in `from` is the entry's key.
use Rattle.std.specs.Prelude.{ℕ, ◌<◌, ◌≡◌, List, [], ◌∷◌, length, get_or}
use Rattle.numbers.specs.Kinds.{Cell}
use Rattle.graph.specs.Link.{Link}
use Rattle.buckets.specs.Listed.{AllBelow, Listed}

-- the links of two lists of cells
unfoldable pub links_of : (ones : List ℕ) (others : List Cell) → List Link
links_of [] others = []
links_of (a ∷ ones) [] = []
links_of (a ∷ ones) (b ∷ others) = record { one = a; other = b } ∷ links_of ones others

-- some link leads from a, in the list `from`, to b, in the list `to`
pub record Leads (from to : List ℕ) (a b : ℕ) : Type 0 where
  pub link : ℕ
  pub within : link < length from
  pub starts : get_or from link 0 ≡ a
  pub arrives : get_or to link 0 ≡ b

-- the links as read from `from`: the cells across are below the same bound
pub record OneWay (cells : ℕ) (from to first next : List ℕ) : Type 0 where
  pub even : length to ≡ length from
  pub across : AllBelow cells to
  pub listed : Listed from cells 0 first next
