-- Walks by any parent function `up`: one leads on until a cell that stays (`Way`).
--
-- Where each step doubles a size that is from 1 to 2 ^ k (`Doubles`), a walk that may take k steps reaches such a cell:
-- there is no size to go on to. Where a cell that stayed is put under another, the walks that ended at it go on by one
-- step, and every other walk is as before.
use Prim.Native.Nat.{ℕ, zero, suc, ◌+◌, ◌*◌, ◌^◌, ◌≤◌}
use mathlib.Core.Path.{◌≡◌, refl, sym, ◌∙◌, ap}
use native.Mathlib.Omega.{arith}
use native.Mathlib.Decide.{ℕ_discrete, dec_le}
use native.Mathlib.Nat.{le_trans, le_of_suc-le-suc, not-suc-le-zero, lt_of_not-le, mul_assoc, mul-le-mul_left}
use native.Mathlib.Nat.{le-mul_of_pos_right, pow-suc, pow-le-pow_right, one-le-pow}
use borrow.Author.Tests.{eq-eqb, ne_eqb}
use Rattle.graph.specs.Forest.{Walk, onward, climb, put}

-- the walk of a cell that stays
abbrev pub stay : ℕ → Walk
stay c = record { root = c; steps = 0 }

-- the walk leads from the cell to one that stays
pub data Way (up : ℕ → ℕ) : ℕ → Walk → Type 0 where
  arrived : {c : ℕ} → up c ≡ c → Way up c (stay c)
  onwards : {c next : ℕ} {w : Walk} → up c ≡ next → ¬ (next ≡ c) → Way up next w → Way up c (onward w)

pub way_ends : {up : ℕ → ℕ} {c : ℕ} {w : Walk} → Way up c w → up w.root ≡ w.root
way_ends (arrived e) = e
way_ends (onwards e n way) = way_ends way

pub way_keeps : {up : ℕ → ℕ} {c : ℕ} {w : Walk} (Q : ℕ → Type 0) → ((x : ℕ) → Q x → Q (up x)) →
    Way up c w → Q c → Q w.root
way_keeps Q step (arrived e) q = q
way_keeps Q step (onwards e n way) q = way_keeps Q step way (rw e at (step _ q))

-- with enough steps allowed, it is the walk that `climb` finds
pub way_climb : {up : ℕ → ℕ} {c : ℕ} {w : Walk} → Way up c w → (limit : ℕ) → w.steps ≤ limit → climb up limit c ≡ w
unfolding climb
way_climb (arrived e) zero le = refl
way_climb {up} {c} (arrived e) (suc limit) le = rw (eq-eqb (up c) c e)
way_climb (onwards e n way) zero le = absurd (not-suc-le-zero le)
way_climb {up} {c} (onwards {next} e n way) (suc limit) le =
    rw (e, ne_eqb next c n) (ap onward (way_climb way limit (le_of_suc-le-suc le)))

pow_le : (a b : ℕ) → 2 ^ a ≤ 2 ^ b → a ≤ b
pow_le a b le = go (dec_le a b)
  where
    go : Dec (a ≤ b) → a ≤ b
    go (yes h) = h
    go (no h) =
        let more : 2 ^ suc b ≤ 2 ^ a = pow-le-pow_right (omega arith) (lt_of_not-le h) in
        absurd (omega (arith, pow-suc 2 b, one-le-pow b 2 (omega arith)))

-- each step doubles the size, and sizes are from 1 to 2 ^ k
pub record Doubles (k : ℕ) (up size : ℕ → ℕ) : Type 0 where
  pub doubling : (c : ℕ) → ¬ (up c ≡ c) → 2 * size c ≤ size (up c)
  pub positive : (c : ℕ) → 1 ≤ size c
  pub bounded : (c : ℕ) → size c ≤ 2 ^ k

module _ {k : ℕ} {up size : ℕ → ℕ} (d : Doubles k up size) where
  way_grows : {c : ℕ} {w : Walk} → Way up c w → 2 ^ w.steps * size c ≤ size w.root
  way_grows (arrived e) = omega arith
  way_grows (onwards {c} e n way) =
      rw (pow-suc, mul_assoc) (le_trans (mul-le-mul_left _ (rw e at (d.doubling c (λ q. n (sym e ∙ q))))) (way_grows way))

  pub way_size : {c : ℕ} {w : Walk} → Way up c w → 2 ^ w.steps ≤ size w.root
  way_size way = le_trans (le-mul_of_pos_right _ (d.positive _)) (way_grows way)

  pub way_short : {c : ℕ} {w : Walk} → Way up c w → w.steps ≤ k
  way_short way = pow_le _ k (le_trans (way_size way) (d.bounded _))

  -- from a cell of size 2 ^ j or more it is at most k - j steps
  climb_from : (limit j c : ℕ) → 2 ^ j ≤ size c → k ≤ j + limit → Way up c (climb up limit c)
  unfolding climb
  climb_from zero j c big le = arrived (go (ℕ_discrete (up c) c))
    where
      go : Dec (up c ≡ c) → up c ≡ c
      go (yes e) = e
      go (no n) =
          let small : 2 ^ k ≤ 2 ^ j = pow-le-pow_right (omega arith) (omega arith) in
          absurd (omega (arith, d.doubling c n, d.bounded (up c), one-le-pow j 2 (omega arith)))
  climb_from (suc limit) j c big le = go (ℕ_discrete (up c) c) (λ big. climb_from limit (suc j) (up c) big (omega arith))
    where
      go : Dec (up c ≡ c) → (2 ^ suc j ≤ size (up c) → Way up (up c) (climb up limit (up c))) →
          Way up c (climb up (suc limit) c)
      go (yes e) on = rw (eq-eqb (up c) c e) (arrived e)
      go (no n) on = rw (ne_eqb (up c) c n) (onwards refl n (on (omega (arith, d.doubling c n, pow-suc 2 j))))

  pub climb_way : (limit c : ℕ) → k ≤ limit → Way up c (climb up limit c)
  climb_way limit c le = climb_from limit 0 c (d.positive c) (omega arith)

pub put_here : (c v : ℕ) (f : ℕ → ℕ) (x : ℕ) → x ≡ c → put c v f x ≡ v
put_here c v f x e = rw (eq-eqb x c e)

pub put_other : (c v : ℕ) (f : ℕ → ℕ) (x : ℕ) → ¬ (x ≡ c) → put c v f x ≡ f x
put_other c v f x n = rw (ne_eqb x c n)

pub put_cases : (Q : ℕ → Type 0) (c v : ℕ) (f : ℕ → ℕ) (x : ℕ) → (x ≡ c → Q v) → (¬ (x ≡ c) → Q (f x)) → Q (put c v f x)
put_cases Q c v f x here other = go (ℕ_discrete x c)
  where
    go : Dec (x ≡ c) → Q (put c v f x)
    go (yes e) = rw (put_here c v f x e) (here e)
    go (no n) = rw (put_other c v f x n) (other n)

-- two cells stay, and the one is put under the other
module _ (up : ℕ → ℕ) {child top : ℕ} (from : up child ≡ child) (to : up top ≡ top) (apart : ¬ (child ≡ top)) where
  -- a walk that ended at the child ends at the top, and every other where it did
  pub way_put : {c : ℕ} {w : Walk} → Way up c w →
      (v : Walk) × Way (put child top up) c v × (v.root ≡ put child top (λ r. r) w.root)
  way_put (arrived {c} e) = go (ℕ_discrete c child)
    where
      go : Dec (c ≡ child) → (v : Walk) × Way (put child top up) c v × (v.root ≡ put child top (λ r. r) c)
      go (yes q) = (
        onward (stay top),
        onwards (put_here child top up c q) (λ s. apart (sym (s ∙ q)))
            (arrived (put_other child top up top (λ s. apart (sym s)) ∙ to)),
        sym (put_here child top (λ r. r) c q),
      )
      go (no n) = (stay c, arrived (put_other child top up c n ∙ e), sym (put_other child top (λ r. r) c n))
  way_put (onwards {c} e n way) =
      let (v, on, r) = way_put way in
      (onward v, onwards (put_other child top up c (λ q. n (sym e ∙ ap up q ∙ from ∙ sym q)) ∙ e) n on, r)
