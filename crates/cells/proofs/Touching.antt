-- Both mountings judge alike which cells touch, for every number of sectors.
--
-- Mirroring keeps the ring, and different cells stay different. Two sectors keep their difference, or, where just one of them is sector 0,
-- it becomes the rest of the circle (`difference_mirrored`); and then 1 and all but one change places (`near_round`).
use Rattle.std.specs.Prelude.{ℕ, ◌+◌, ◌≤◌, ◌<◌, ◌≡◌, refl, ◌⊎◌, eqb, leb}
use Rattle.std.proofs.Common.{◌∙◌, sym, ap, inl, inr, ⊎_elim, eq-zero-or-pos, arith}
use Rattle.std.proofs.Math.Bool.{or_comm}
use Rattle.std.proofs.Math.Decide.{dec_le, ℕ_discrete}
use borrow.Author.Tests.{eq-eqb, ne_eqb, le-leb, lt-leb}
use Rattle.cells.specs.Cell.{cells_over, sector_of, mirror_sector, mirror_over, lorry_cell_over}
use Rattle.cells.specs.Cell.Laws.{rule_zero, rule_other, rule_below, by_mounting}
use Rattle.cells.specs.Touching.{difference, is_near, touch_over}
use Rattle.cells.proofs.Mirroring.{sector_below, mirror_ring, mirror_sector_lem, mirror_injective}

same_mapped : (f : ℕ → ℕ) → ((a b : ℕ) → f a ≡ f b → a ≡ b) → (a b : ℕ) → eqb (f a) (f b) ≡ eqb a b
same_mapped f injective a b =
    elim (ℕ_discrete a b) [
      | yes e ↦ eq-eqb _ _ (ap f e) ∙ sym (eq-eqb _ _ e)
      | no d ↦ ne_eqb _ _ (λ e. d (injective a b e)) ∙ sym (ne_eqb _ _ d)
    ]

within_is_same : (a b c d : ℕ) → (a ≤ b → c ≡ d) → (c ≡ d → a ≤ b) → leb a b ≡ eqb c d
within_is_same a b c d there back =
    elim (dec_le a b) [
      | yes h ↦ le-leb _ _ h ∙ sym (eq-eqb _ _ (there h))
      | no n ↦ lt-leb a b (omega arith) ∙ sym (ne_eqb _ _ (λ e. n (back e)))
    ]

module _ (sectors : ℕ) where
  -- the two ways round the circle: what is near one way is near the other
  near_round : (d e : ℕ) → d < sectors → e < sectors → d + e ≡ sectors → is_near sectors d ≡ is_near sectors e
  near_round d e hd he whole =
      rw (within_is_same d 1 (e + 1) sectors (λ h. omega arith) (λ h. omega arith), within_is_same e 1 (d + 1) sectors (λ h. omega arith) (λ h. omega arith))
      (or_comm (eqb (e + 1) sectors) (eqb (d + 1) sectors))

  -- mirrored sectors have the same difference, or the rest of the circle
  difference_mirrored : (s t : ℕ) → s < sectors → t < sectors
      → (difference (mirror_sector sectors s) (mirror_sector sectors t) ≡ difference s t)
      ⊎ (difference (mirror_sector sectors s) (mirror_sector sectors t) + difference s t ≡ sectors)
  difference_mirrored s t hs ht =
      elim (eq-zero-or-pos s) [
        | inl s0 ↦
            let ms = ap (mirror_sector sectors) s0 ∙ rule_zero sectors in
            elim (eq-zero-or-pos t) [
              | inl t0 ↦ inl (omega (arith, ms, ap (mirror_sector sectors) t0 ∙ rule_zero sectors))
              | inr t1 ↦ inr (omega (arith, ms, rule_other sectors t t1 ht))
            ]
        | inr s1 ↦
            let ms = rule_other sectors s s1 hs in
            elim (eq-zero-or-pos t) [
              | inl t0 ↦ inr (omega (arith, ms, ap (mirror_sector sectors) t0 ∙ rule_zero sectors))
              | inr t1 ↦ inl (omega (arith, ms, rule_other sectors t t1 ht))
            ]
      ]

  near_mirrored : (s t : ℕ) → s < sectors → t < sectors
      → is_near sectors (difference (mirror_sector sectors s) (mirror_sector sectors t)) ≡ is_near sectors (difference s t)
  near_mirrored s t hs ht =
      ⊎_elim (λ e. ap (is_near sectors) e)
      (λ e. near_round _ _ (omega (arith, rule_below sectors s hs, rule_below sectors t ht)) (omega arith) e)
      (difference_mirrored s t hs ht)

  -- mirrored cells touch exactly when the cells do
  pub mirror_touch : (a b : ℕ) → a < cells_over sectors → b < cells_over sectors
      → touch_over sectors (mirror_over sectors a) (mirror_over sectors b) ≡ touch_over sectors a b
  unfolding touch_over
  mirror_touch a b ha hb =
      rw (same_mapped (mirror_over sectors) (mirror_injective sectors) a b, mirror_ring sectors a ha, mirror_ring sectors b hb, mirror_sector_lem sectors a ha, mirror_sector_lem sectors b hb)
      (rw (near_mirrored (sector_of sectors a) (sector_of sectors b) (sector_below sectors a ha) (sector_below sectors b hb)))

  -- the lorry's numbers of two cells touch exactly when the unit's do, whatever the mounting
  pub lorry_touch : (mounting a b : ℕ) → a < cells_over sectors → b < cells_over sectors
      → touch_over sectors (lorry_cell_over sectors mounting a) (lorry_cell_over sectors mounting b) ≡ touch_over sectors a b
  lorry_touch =
      by_mounting sectors (λ f. (a b : ℕ) → a < cells_over sectors → b < cells_over sectors → touch_over sectors (f a) (f b) ≡ touch_over sectors a b)
      (λ a b ha hb. refl) mirror_touch
