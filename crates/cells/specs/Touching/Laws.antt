-- The laws of touching, for every number of sectors: callers use these, and never the definition's text. That both mountings judge alike is
-- in proofs/Touching.
use Rattle.std.specs.Prelude.{ℕ, ◌+◌, ◌≤◌, ◌<◌, ◌≡◌, refl, true, false, eqb}
use Rattle.std.proofs.Common.{◌∙◌, sym, arith}
use Rattle.std.proofs.Math.Decide.{ℕ_discrete}
use borrow.Author.Tests.{eq-eqb, ne_eqb, le-leb, lt-leb}
use Rattle.cells.specs.Cell.{ring_of, sector_of}
use Rattle.cells.specs.Touching.{difference, touch_over, touch}

-- RULES 1.8: sectors go round, from ring to ring too,
pub round : (touch 63 0 ≡ true) × (touch 63 64 ≡ true) × (touch 0 127 ≡ true)
unfolding touch_over
round = (refl, refl, refl)

-- and rings do not: 15 is not next to 0; nor is 2, and no cell touches itself
pub apart : (touch 0 960 ≡ false) × (touch 0 128 ≡ false) × (touch 5 5 ≡ false)
unfolding touch_over
apart = (refl, refl, refl)

-- ---- tests that come to the same

difference_either_way : (a b : ℕ) → difference a b ≡ difference b a
difference_either_way a b = omega arith

same_either_way : (a b : ℕ) → eqb a b ≡ eqb b a
same_either_way a b =
    elim (ℕ_discrete a b) [
      | yes e ↦ eq-eqb _ _ e ∙ sym (eq-eqb _ _ (sym e))
      | no d ↦ ne_eqb _ _ d ∙ sym (ne_eqb _ _ (λ e. d (sym e)))
    ]

module _ (sectors : ℕ) where
  -- ---- by its tests

  -- no cell touches itself
  pub touch_itself : (c : ℕ) → touch_over sectors c c ≡ false
  unfolding touch_over
  touch_itself c = rw (eq-eqb c c refl)

  module _ (a b : ℕ) (different : a ≡ b → ⊥) where
    -- two rings apart, or more
    pub touch_far : 1 < difference (ring_of sectors a) (ring_of sectors b) → touch_over sectors a b ≡ false
    unfolding touch_over
    touch_far far = simp (ne_eqb _ _ different, lt-leb _ _ far)

    module _ (rings : difference (ring_of sectors a) (ring_of sectors b) ≤ 1) where
      -- in the same sector or in the next one
      pub touch_near : difference (sector_of sectors a) (sector_of sectors b) ≤ 1 → touch_over sectors a b ≡ true
      unfolding touch_over
      touch_near near = simp (ne_eqb _ _ different, le-leb _ _ rings, le-leb _ _ near)

      -- else the sectors have to be the last and the first
      pub touch_round : 1 < difference (sector_of sectors a) (sector_of sectors b)
          → touch_over sectors a b ≡ eqb (difference (sector_of sectors a) (sector_of sectors b) + 1) sectors
      unfolding touch_over
      touch_round far = simp (ne_eqb _ _ different, le-leb _ _ rings, lt-leb _ _ far)

  -- ---- one cell and another

  -- whichever of the two is named first
  pub touch_symmetric : (a b : ℕ) → touch_over sectors a b ≡ touch_over sectors b a
  unfolding touch_over
  touch_symmetric a b =
      rw (same_either_way a b, difference_either_way (ring_of sectors a) (ring_of sectors b), difference_either_way (sector_of sectors a) (sector_of sectors b))
