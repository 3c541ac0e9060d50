-- What the code knows of each cell: the smallest cell of its group, whether it is an end of a link, and which groups have a body cell,
-- marked at their smallest cells.
use Rattle.std.specs.Prelude.{ℕ, ◌<◌, ◌≡◌, Bool, cond, not, ◌&&◌, List, eqb, length, get_or}
use Rattle.numbers.specs.Kinds.{Bytes, Cell}
use Rattle.cells.specs.Cell.{sectors}
use Rattle.book_state.specs.Arrays.{cells}
use Rattle.lamps.specs.Mask.{is_body}
use Rattle.lamps.specs.Zones.{Zone, in_zone_of}
use Rattle.lamps.specs.Lamps.{some_below}

-- the smallest cells of groups are cells
abbrev pub Firsts : (first : List ℕ) → Type 0
Firsts first = (c : ℕ) → c < cells → get_or first c 0 < cells

-- a body cell below the bound is of the group whose smallest cell is g
abbrev pub body_in : (first : List Cell) (mask : Bytes) (bound g : ℕ) → Bool
body_in first mask bound g = some_below bound (λ b. is_body mask b && eqb (get_or first b 0) g)

-- 1 at the smallest cells of the groups that have a body cell below the bound, 0 at all others
pub record Marks (first mask : List ℕ) (bound : ℕ) (dark : List ℕ) : Type 0 where
  pub long : length dark ≡ cells
  pub marked : (g : ℕ) → g < cells → get_or dark g 0 ≡ cond (body_in first mask bound g) 1 0

-- a cell lights the lamp of a zone
abbrev pub lights_by : (zone : Zone) (first linked dark : List ℕ) (cell : Cell) → Bool
lights_by zone first linked dark c =
    in_zone_of sectors zone c && not (eqb (get_or linked c 0) 0) && eqb (get_or dark (get_or first c 0) 0) 0
