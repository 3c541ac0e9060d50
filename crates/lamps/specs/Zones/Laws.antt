-- The laws of the zones, over any number of sectors; and examples before them, computed.
use Rattle.std.specs.Prelude.{ℕ, ◌*◌, ◌≤◌, ◌<◌, ◌≡◌, refl, Bool, false, List, [], ◌∷◌, map, ◌↔◌, ltb}
use Rattle.std.proofs.Math.Bool.{true, and-eq-true_iff}
use Rattle.std.proofs.Common.{div-lt_iff_lt-mul}
use borrow.Author.Tests.{leb-true, ltb-true, le-leb, lt-ltb}
use Rattle.cells.specs.Cell.{sectors, cell_at, ring_of, sector_of}
use Rattle.lamps.specs.Zones.{Zone, zone_rings, left_zone, right_zone, in_zone_of}

-- ---- examples

-- of some sectors of a ring, which are in the zone
abbrev told : (sectors : ℕ) (zone : Zone) (ring : ℕ) (which : List ℕ) → List Bool
told sectors zone ring which = map (λ s. in_zone_of sectors zone (cell_at sectors ring s)) which

abbrev no : Bool
no = false

abbrev yes : Bool
yes = true

-- dead ahead, the right zone from end to end, dead astern, the left zone from end to end
abbrev around : List ℕ
around = 0 ∷ 1 ∷ 31 ∷ 32 ∷ 33 ∷ 63 ∷ []

-- the same of the maker's finer unit, of 128 sectors
abbrev around_fine : List ℕ
around_fine = 0 ∷ 1 ∷ 63 ∷ 64 ∷ 65 ∷ 127 ∷ []

pub right_sectors : told sectors (right_zone sectors) 0 around ≡ no ∷ yes ∷ yes ∷ no ∷ no ∷ no ∷ []
unfolding in_zone_of
right_sectors = refl

pub left_sectors : told sectors (left_zone sectors) 0 around ≡ no ∷ no ∷ no ∷ no ∷ yes ∷ yes ∷ []
unfolding in_zone_of
left_sectors = refl

pub fine_sectors :
    (told 128 (right_zone 128) 0 around_fine ≡ no ∷ yes ∷ yes ∷ no ∷ no ∷ no ∷ [])
    × (told 128 (left_zone 128) 0 around_fine ≡ no ∷ no ∷ no ∷ no ∷ yes ∷ yes ∷ [])
unfolding in_zone_of
fine_sectors = (refl, refl)

-- ring 5 is in, and ring 6 is not
pub last_ring :
    (told sectors (right_zone sectors) 5 (1 ∷ 31 ∷ []) ≡ yes ∷ yes ∷ [])
    × (told sectors (left_zone sectors) 5 (33 ∷ 63 ∷ []) ≡ yes ∷ yes ∷ [])
unfolding in_zone_of
last_ring = (refl, refl)

pub beyond :
    (told sectors (right_zone sectors) 6 (1 ∷ 31 ∷ []) ≡ no ∷ no ∷ [])
    × (told sectors (left_zone sectors) 6 (33 ∷ 63 ∷ []) ≡ no ∷ no ∷ [])
unfolding in_zone_of
beyond = (refl, refl)

-- ---- laws

module _ (sectors : ℕ) (zone : Zone) (c : ℕ) where
  -- what it is to be in a zone
  pub in_zone_lem : (in_zone_of sectors zone c ≡ true) ↔ ((ring_of sectors c < zone_rings) × (zone.from ≤ sector_of sectors c) × (sector_of sectors c < zone.end))
  unfolding in_zone_of
  in_zone_lem = (asked, answered)
    where
      asked : in_zone_of sectors zone c ≡ true → (ring_of sectors c < zone_rings) × (zone.from ≤ sector_of sectors c) × (sector_of sectors c < zone.end)
      asked e =
          let w = (and-eq-true_iff _ (ltb (sector_of sectors c) zone.end)).0 e in
          let v = (and-eq-true_iff (ltb (ring_of sectors c) zone_rings) _).0 w.0 in
          (ltb-true _ _ v.0, leb-true _ _ v.1, ltb-true _ _ w.1)

      answered : (ring_of sectors c < zone_rings) × (zone.from ≤ sector_of sectors c) × (sector_of sectors c < zone.end) → in_zone_of sectors zone c ≡ true
      answered w = rw (lt-ltb _ _ w.0, le-leb _ _ w.1, lt-ltb _ _ w.2)

  -- its cells are those of the first six rings
  pub zone_low : 0 < sectors → in_zone_of sectors zone c ≡ true → c < zone_rings * sectors
  zone_low pos e = (div-lt_iff_lt-mul pos).0 (in_zone_lem.0 e).0
