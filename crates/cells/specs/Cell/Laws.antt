-- What opens the rule of mirroring, for every number of sectors; the laws that follow from it are in proofs/Mirroring. Callers use these, and
-- never the rule's text.
use Rattle.std.specs.Prelude.{ℕ, ◌-◌, ◌%◌, ◌≤◌, ◌<◌, ◌≡◌, [], ◌∷◌, map, eqb}
use Rattle.std.proofs.Common.{arith, lt-ltb, le-ltb}
use Rattle.std.proofs.Math.Path.{refl}
use Rattle.std.proofs.Math.Bool.{true, false, cond}
use Rattle.std.proofs.Math.Nat.{mod-eq_of_lt, mod-lt, mod_self, sub-zero}
use Rattle.cells.specs.Cell.{cells_over, cell_at, ring_of, sector_of, mirror_sector, mirror_over, lorry_cell_over, mirror}

-- RULES 1.4: 0 becomes 0, 64 becomes 64, 63 becomes 1, 1023 becomes 961
pub examples : map mirror (0 ∷ 64 ∷ 63 ∷ 1023 ∷ []) ≡ 0 ∷ 64 ∷ 1 ∷ 961 ∷ []
unfolding mirror_over
examples = refl

module _ (sectors : ℕ) where
  -- sector 0 stays
  pub rule_zero : mirror_sector sectors 0 ≡ 0
  unfolding mirror_sector
  rule_zero = rw (sub-zero, mod_self)

  -- and every other becomes the number of sectors less it
  pub rule_other : (s : ℕ) → 0 < s → s < sectors → mirror_sector sectors s ≡ sectors - s
  unfolding mirror_sector
  rule_other s pos h = mod-eq_of_lt (omega arith)

  -- the rule keeps to the sectors
  pub rule_below : (s : ℕ) → s < sectors → mirror_sector sectors s < sectors
  unfolding mirror_sector
  rule_below s h = mod-lt (sectors - s) (omega arith)

  module _ (c : ℕ) (h : c < cells_over sectors) where
    -- a mirrored cell has the ring it had and the mirrored sector
    pub mirror_at : mirror_over sectors c ≡ cell_at sectors (ring_of sectors c) (mirror_sector sectors (sector_of sectors c))
    unfolding mirror_over
    mirror_at = simp (lt-ltb _ _ h)

    -- its number, worked out: the rule's text after all, for the one function that runs it
    pub mirror_number : mirror_over sectors c ≡ cell_at sectors (ring_of sectors c) ((sectors - sector_of sectors c) % sectors)
    unfolding mirror_over mirror_sector
    mirror_number = simp (lt-ltb _ _ h)

  -- a number that is no cell is its own mirror
  pub mirror_other : (c : ℕ) → cells_over sectors ≤ c → mirror_over sectors c ≡ c
  unfolding mirror_over
  mirror_other c h = simp (le-ltb _ _ h)

  -- mounting 1 numbers cells as the lorry does
  pub lorry_plain : (c : ℕ) → lorry_cell_over sectors 1 c ≡ c
  unfolding lorry_cell_over
  lorry_plain c = refl

  -- mounting 2 mirrors
  pub lorry_mirrored : (c : ℕ) → lorry_cell_over sectors 2 c ≡ mirror_over sectors c
  unfolding lorry_cell_over
  lorry_mirrored c = refl

  -- what holds of the plain and of the mirrored numbers holds of the lorry's, whatever the mounting
  pub by_mounting : (P : (ℕ → ℕ) → Type 0) → P (λ c. c) → P (mirror_over sectors) → (mounting : ℕ) → P (lorry_cell_over sectors mounting)
  unfolding lorry_cell_over
  by_mounting P plain mirrored mounting =
      elim (eqb mounting 2) as (λ b. P (λ c. cond b (mirror_over sectors c) c)) [ true ↦ mirrored | false ↦ plain ]
