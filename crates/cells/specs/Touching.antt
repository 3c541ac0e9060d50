-- When two cells touch (RULES 1.8): they are different, their rings differ by at most 1, and so do their sectors, round the circle. Rings
-- end with the first and the last; sectors go round, so that the last and the first are next to each other.
--
-- It is said over the number of sectors of a ring, as everything in Cell. Callers go by the laws (Touching/Laws, proofs/Touching), and a computed case
-- opens the definition.
pub mod Laws
use Rattle.std.specs.Prelude.{ℕ, ◌+◌, ◌-◌, Bool, not, ◌&&◌, ◌||◌, eqb, leb}
use Rattle.numbers.specs.Kinds.{Cell}
use Rattle.cells.specs.Cell.{ring_of, sector_of, sectors}

-- by how much two numbers differ
abbrev pub difference : (one other : ℕ) → ℕ
difference one other = (one - other) + (other - one)

-- sectors are next to each other, or the same, where they differ by 0, by 1 or by all but one
abbrev pub is_near : (sectors difference : ℕ) → Bool
is_near sectors d = leb d 1 || eqb (d + 1) sectors

-- different cells, whose rings differ by at most 1 and whose sectors are near
unfoldable pub touch_over : (sectors : ℕ) (one other : Cell) → Bool
touch_over sectors one other =
    not (eqb one other)
    && leb (difference (ring_of sectors one) (ring_of sectors other)) 1
    && is_near sectors (difference (sector_of sectors one) (sector_of sectors other))

-- with 64 sectors
abbrev pub touch : (one other : Cell) → Bool
touch = touch_over sectors
