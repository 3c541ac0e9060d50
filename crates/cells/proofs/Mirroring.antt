-- The laws of mirroring, for every number of sectors: callers use these, and never the rule's text.
--
-- Three facts about the rule carry them all: it keeps to the sectors (`rule_below`), twice it changes nothing (`rule_twice`),
-- and it leaves just the axis as it is (`rule_axis`). The last two look at sector 0, which stays, and at any other s, which
-- becomes the number of sectors less s. A mirrored cell then has the ring it had and the mirrored sector, which is all that
-- there is to know of a cell.
use Rattle.std.specs.Prelude.{ℕ, ◌+◌, ◌-◌, ◌<◌, ◌≡◌, ◌↔◌, ◌⊎◌}
use Rattle.std.proofs.Common.{◌∙◌, sym, ap, inl, inr, ⊎_elim, add-zero, div-lt_iff_lt-mul, eq-zero-or-pos, arith}
use Rattle.std.proofs.Math.Path.{refl}
use Rattle.std.proofs.Math.Logic.{⊎_map}
use Rattle.std.proofs.Math.Decide.{dec_lt}
use Rattle.std.proofs.Math.Nat.{div-add-mod, div-eq_of_lt, mod-eq_of_lt, mod-lt, mul-add-div, mul-add-mod_self_left}
use Rattle.cells.specs.declared.Fitting.{Fitting}
use Rattle.cells.specs.Cell.{cells_over, ring_of, sector_of, mirror_sector, mirror_over, lorry_cell_over, sectors, cells, mirror, lorry_cell_of, unit_cell_of}
use Rattle.cells.specs.Cell.Laws.{rule_zero, rule_other, rule_below, mirror_at, mirror_other, by_mounting}

-- what undoes itself is injective
injective : (f : ℕ → ℕ) → ((c : ℕ) → f (f c) ≡ c) → (a b : ℕ) → f a ≡ f b → a ≡ b
injective f twice a b e = sym (twice a) ∙ ap f e ∙ twice b

module _ (sectors : ℕ) where
  -- twice it changes nothing
  rule_twice : (s : ℕ) → s < sectors → mirror_sector sectors (mirror_sector sectors s) ≡ s
  rule_twice s h =
      elim (eq-zero-or-pos s) [
        | inl z ↦ rw (z, rule_zero sectors, rule_zero sectors)
        | inr pos ↦ rw (rule_other sectors s pos h, rule_other sectors (sectors - s) (omega arith) (omega arith)) (omega arith)
      ]

  -- and it leaves just the axis as it is: sector 0, dead ahead, and the one half the way round, dead astern
  rule_axis : (s : ℕ) → s < sectors → (mirror_sector sectors s ≡ s) ↔ ((s ≡ 0) ⊎ (s + s ≡ sectors))
  rule_axis s h = (on_axis, stays)
    where
      on_axis : mirror_sector sectors s ≡ s → (s ≡ 0) ⊎ (s + s ≡ sectors)
      on_axis e = ⊎_map (λ z. z) (λ pos. omega (arith, sym (rule_other sectors s pos h) ∙ e)) (eq-zero-or-pos s)

      stays : (s ≡ 0) ⊎ (s + s ≡ sectors) → mirror_sector sectors s ≡ s
      stays = ⊎_elim (λ z. rw (z, rule_zero sectors)) (λ half. rw (rule_other sectors s (omega arith) h) (omega arith))

  module _ (c : ℕ) (h : c < cells_over sectors) where
    sectors_pos : 0 < sectors
    sectors_pos = omega arith

    pub sector_below : sector_of sectors c < sectors
    sector_below = mod-lt c sectors_pos

    -- in the same ring
    pub mirror_ring : ring_of sectors (mirror_over sectors c) ≡ ring_of sectors c
    mirror_ring = rw (mirror_at sectors c h, mul-add-div sectors_pos, div-eq_of_lt (rule_below sectors _ sector_below), add-zero)

    -- at the mirrored sector
    pub mirror_sector_lem : sector_of sectors (mirror_over sectors c) ≡ mirror_sector sectors (sector_of sectors c)
    mirror_sector_lem = rw (mirror_at sectors c h, mul-add-mod_self_left, mod-eq_of_lt (rule_below sectors _ sector_below))

    -- the mirror of a cell is a cell
    pub mirror_is_cell : mirror_over sectors c < cells_over sectors
    mirror_is_cell = (div-lt_iff_lt-mul sectors_pos).0 (rw mirror_ring ((div-lt_iff_lt-mul sectors_pos).1 h))

    -- it is the same cell exactly on the axis
    pub mirror_axis : (mirror_over sectors c ≡ c) ↔ ((sector_of sectors c ≡ 0) ⊎ (sector_of sectors c + sector_of sectors c ≡ sectors))
    mirror_axis =
        let (on_axis, stays) = rule_axis (sector_of sectors c) sector_below in
        (λ e. on_axis (sym mirror_sector_lem ∙ ap (sector_of sectors) e), λ a. rw (mirror_at sectors c h, stays a, div-add-mod))

  twice_at : (c : ℕ) → c < cells_over sectors → mirror_over sectors (mirror_over sectors c) ≡ c
  twice_at c h =
      rw (mirror_at sectors (mirror_over sectors c) (mirror_is_cell c h), mirror_ring c h, mirror_sector_lem c h)
      (rw (rule_twice _ (sector_below c h), div-add-mod))

  -- mirroring twice changes nothing
  pub mirror_twice : (c : ℕ) → mirror_over sectors (mirror_over sectors c) ≡ c
  mirror_twice c =
      elim (dec_lt c (cells_over sectors)) [
        | yes h ↦ twice_at c h
        | no h ↦ rw (mirror_other sectors c (omega arith), mirror_other sectors c (omega arith))
      ]

  -- different numbers have different mirrors
  pub mirror_injective : (a b : ℕ) → mirror_over sectors a ≡ mirror_over sectors b → a ≡ b
  mirror_injective = injective (mirror_over sectors) mirror_twice

  -- the lorry's number of a cell is a cell
  pub lorry_is_cell : (mounting c : ℕ) → c < cells_over sectors → lorry_cell_over sectors mounting c < cells_over sectors
  lorry_is_cell = by_mounting sectors (λ f. (c : ℕ) → c < cells_over sectors → f c < cells_over sectors) (λ c h. h) mirror_is_cell

  -- different cells have different numbers on the lorry
  pub lorry_injective : (mounting a b : ℕ) → lorry_cell_over sectors mounting a ≡ lorry_cell_over sectors mounting b → a ≡ b
  lorry_injective = by_mounting sectors (λ f. (a b : ℕ) → f a ≡ f b → a ≡ b) (λ a b e. e) mirror_injective

-- RULES 1.4: the cells that mirror to themselves are exactly those of sectors 0 and 32
pub axis : (c : ℕ) → c < cells → (mirror c ≡ c) ↔ ((sector_of sectors c ≡ 0) ⊎ (sector_of sectors c ≡ 32))
axis c h =
    let (on_axis, stays) = mirror_axis sectors c h in
    (λ e. ⊎_map (λ z. z) (λ half. omega arith) (on_axis e), λ a. stays (⊎_map (λ z. z) (λ half. omega arith) a))

-- from the unit's number to the lorry's and back, and the other way round
pub there_and_back : (fitting : Fitting) (c : ℕ) → (unit_cell_of fitting (lorry_cell_of fitting c) ≡ c) × (lorry_cell_of fitting (unit_cell_of fitting c) ≡ c)
there_and_back fitting c = (back, back)
  where
    back : lorry_cell_of fitting (lorry_cell_of fitting c) ≡ c
    back = by_mounting sectors (λ f. f (f c) ≡ c) refl (mirror_twice sectors c) fitting.mounting
