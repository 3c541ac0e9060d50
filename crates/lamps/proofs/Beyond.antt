-- No cell from ring 6 on lights a lamp.
use Rattle.std.proofs.Common.{◌≡◌, ℕ, ◌≤◌, Bool, true, false, not, ◌&&◌, List, None, refl, eqb, get_or, arith}
use Rattle.cells.specs.Cell.{sectors}
use Rattle.lamps.specs.Zones.{Zone, in_zone_of}
use Rattle.lamps.specs.Zones.Laws.{zone_low}
use Rattle.lamps.specs.Lamps.{lamp_from}
use Rattle.lamps.specs.Groups.{lights_by}
use Rattle.lamps.proofs.Search.{lamp_none}

module _ (zone : Zone) (first linked dark : List ℕ) where
  dark_beyond : (c : ℕ) → 384 ≤ c → lights_by zone first linked dark c ≡ false
  dark_beyond c h = go (in_zone_of sectors zone c) refl
    where
      go : (b : Bool) → in_zone_of sectors zone c ≡ b → (b && not (eqb (get_or linked c 0) 0) && eqb (get_or dark (get_or first c 0) 0) 0) ≡ false
      go true e = absurd (omega (arith, zone_low sectors zone c (omega arith) e))
      go false e = refl

  pub lamp_beyond : (c count : ℕ) → 384 ≤ c → lamp_from (lights_by zone first linked dark) c count ≡ None
  lamp_beyond c count h = lamp_none (lights_by zone first linked dark) c count (λ d k. dark_beyond d (omega arith))
