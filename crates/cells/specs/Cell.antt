-- Cells and mounting (RULES 1): rings of sectors, and the lorry's number of a unit's cell.
--
-- The mirror rule is `mirror_sector`, and nothing else says it. It and `mirror_over` are shut: only the modules below this one
-- open them. Everyone else goes by the laws (Cell/Laws, and proofs/Mirroring). All but the examples, those on the axis, what sector 0 and the others
-- become (`rule_zero`, `rule_other`, for proofs/Touching) and the number worked out (`mirror_number`, for the code) hold of any rule
-- that keeps to the sectors and, taken twice, changes nothing. All is said over the number of sectors of a ring; the unit of RULES
-- 1.1, of 64, comes last.
pub mod Laws
use Rattle.std.specs.Prelude.{ℕ, ◌+◌, ◌*◌, ◌-◌, ◌/◌, ◌%◌, cond, eqb, ltb}
use Rattle.numbers.specs.Kinds.{Cell}
use Rattle.cells.specs.declared.Fitting.{Fitting}

-- there are 16 rings
abbrev pub rings : ℕ
rings = 16

-- the number of cells; they are numbered from 0
abbrev pub cells_over : ℕ → ℕ
cells_over sectors = rings * sectors

-- cell = 64 × ring + sector
abbrev pub cell_at : (sectors ring sector : ℕ) → Cell
cell_at sectors ring sector = sectors * ring + sector

-- the ring of a cell
abbrev pub ring_of : (sectors : ℕ) (cell : Cell) → ℕ
ring_of sectors c = c / sectors

-- the sector of a cell
abbrev pub sector_of : (sectors : ℕ) (cell : Cell) → ℕ
sector_of sectors c = c % sectors

-- on a mirrored unit sector s of the unit is sector (64 - s) mod 64 of the lorry
pub mirror_sector : (sectors s : ℕ) → ℕ
mirror_sector sectors s = (sectors - s) % sectors

-- in the same ring; a number that is no cell stays as it is
pub mirror_over : (sectors : ℕ) (cell : Cell) → Cell
unfolding mirror_sector
mirror_over sectors c =
    cond (ltb c (cells_over sectors)) (cell_at sectors (ring_of sectors c) (mirror_sector sectors (sector_of sectors c))) c

-- the lorry's number of the unit's cell c: its mirror for mounting 2, and c itself for mounting 1 and any other number
unfoldable pub lorry_cell_over : (sectors mounting : ℕ) (cell : Cell) → Cell
lorry_cell_over sectors mounting c = cond (eqb mounting 2) (mirror_over sectors c) c

-- each ring has 64 sectors
abbrev pub sectors : ℕ
sectors = 64

-- there are 1,024 cells, 0 to 1023
abbrev pub cells : ℕ
cells = cells_over sectors

abbrev pub mirror : ℕ → ℕ
mirror = mirror_over sectors

-- by the way the unit is fitted
abbrev pub lorry_cell_of : (fitting : Fitting) (cell : Cell) → Cell
lorry_cell_of fitting = lorry_cell_over sectors fitting.mounting

-- the unit's number of a lorry's cell: as mirroring twice changes nothing, the same way leads back (proofs/Mirroring, `there_and_back`)
abbrev pub unit_cell_of : (fitting : Fitting) (cell : Cell) → Cell
unit_cell_of = lorry_cell_of
