-- The two zones of the lamps (RULES 11.1), in the lorry's numbers: rings 0 to 5, and of the sectors on the right those between dead ahead and
-- dead astern, on the left those between dead astern and dead ahead. Dead ahead and dead astern themselves are in neither.
--
-- It is said over the number of sectors of a ring, as everything in cells. Callers go by the laws (Zones/Laws).
pub mod Laws
use Rattle.std.specs.Prelude.{ℕ, ◌+◌, ◌/◌, Bool, ◌&&◌, leb, ltb}
use Rattle.numbers.specs.Kinds.{Cell}
use Rattle.cells.specs.Cell.{ring_of, sector_of}

-- sectors from the first up to, and without, the end
pub record Zone : Type 0 where
  pub from : ℕ
  pub end : ℕ

-- rings 0 to 5
abbrev pub zone_rings : ℕ
zone_rings = 6

-- sector 0 is dead ahead, and the one half way round dead astern: of 64 sectors, 1 to 31 are on the right
abbrev pub right_zone : (sectors : ℕ) → Zone
right_zone sectors = record { from = 1; end = sectors / 2 }

-- and 33 to 63 on the left
abbrev pub left_zone : (sectors : ℕ) → Zone
left_zone sectors = record { from = sectors / 2 + 1; end = sectors }

unfoldable pub in_zone_of : (sectors : ℕ) (zone : Zone) (cell : Cell) → Bool
in_zone_of sectors z c =
    ltb (ring_of sectors c) zone_rings
    && leb z.from (sector_of sectors c)
    && ltb (sector_of sectors c) z.end
