-- From a cell on to the smallest cell that is nearer, and then the best trail from there, is the best trail.
--
-- With each number that of the best trail, a trail that goes on over a link and is as short as can be goes on to a nearer
-- cell (`goes_nearer`). So there is one (`some_nearer`), and the best trail goes on to the smallest (`trail_onward`).
use Prim.Native.Nat.{ℕ, ◌+◌, ◌≤◌}
use native.Mathlib.Omega.{arith}
use mathlib.Core.Path.{◌≡◌, sym, ◌∙◌, ap}
use mathlib.Core.List.{List, ◌∷◌}
use lib.ListN.{length, get_or}
use Rattle.graph.specs.Link.{Link, Linked}
use Rattle.graph.specs.Trail.{Trail, arrive, step, Best, trail_of}
use Rattle.graph.proofs.Chains.{chained?}
use Rattle.graph.proofs.Trails.{trail_chained, trail_one, trail_single, best_step}
use Rattle.graph.proofs.Finder.{trail_of_best, trail_of_none, best_trail_of}
use Rattle.chain_fewest.specs.Levels.{Counted, Known}
use Rattle.chain_fewest.specs.Descent.{Nearer, NextCell}

module _ {ls : List Link} {b : ℕ} {remaining : List ℕ} (k : Counted ls b remaining) where
  -- where a number is known, it is that of the best trail
  pub counted_best : {c : ℕ} → Known remaining c → Best ls c b (trail_of ls c b)
  counted_best {c} known =
      elim (chained? ls c b) [
        | yes x ↦ trail_of_best x
        | no x ↦ absurd (omega (arith, k.counts c, ap length (trail_of_none ls c b x)))
      ]

  -- and no trail has fewer cells
  counted_least : {c : ℕ} {cs : List ℕ} → Trail ls b c cs → get_or remaining c 0 ≤ length cs
  counted_least {c} {cs} t = rw (k.counts c) ((trail_of_best (trail_chained t)).fewest cs t)

  trail_known : {c : ℕ} {cs : List ℕ} → Trail ls b c cs → Known remaining c
  trail_known {c} t = rw (k.counts c) (trail_one (trail_of_best (trail_chained t)).trail)

  goes_nearer :
      {c d : ℕ} {ds : List ℕ} →
      Linked c d ls → Trail ls b d ds → length ds + 1 ≡ get_or remaining c 0 → Nearer ls remaining c d
  goes_nearer {c} {d} h t short =
      let best = (counted_best (trail_known t)).trail in
      record { linked = h; fewer = omega (arith, k.counts d, counted_least t, counted_least (step h best)) }

  pub some_nearer : {c : ℕ} → Known remaining c → (c ≡ b → ⊥) → (d : ℕ) × Nearer ls remaining c d
  some_nearer {c} known apart = go (counted_best known).trail (k.counts c)
    where
      go : {cs : List ℕ} → Trail ls b c cs → get_or remaining c 0 ≡ length cs → (d : ℕ) × Nearer ls remaining c d
      go (arrive e) long = absurd (apart e)
      go (step {c = d} h t) long = (d, goes_nearer h t (omega arith))

  pub trail_onward : {c d : ℕ} → Known remaining d → NextCell ls remaining c d → trail_of ls c b ≡ c ∷ trail_of ls d b
  trail_onward {c} {d} known next =
      best_trail_of
      (best_step next.nearer.linked (counted_best known)
      (λ ds t. omega (arith, k.counts d, next.nearer.fewer, counted_least t))
      (λ x ds h t long. next.least x (goes_nearer h t (omega (arith, k.counts d, next.nearer.fewer)))))

  -- one cell leads on from the second alone
  pub one_left : {c : ℕ} → get_or remaining c 0 ≡ 1 → c ≡ b
  one_left {c} e = trail_single (counted_best (omega (arith, e))).trail (sym (k.counts c) ∙ e)
