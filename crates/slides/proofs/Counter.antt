-- The laws of the unit's counter.
--
-- From one tick the counter goes less than a turn to another, and stands there then (`ahead_short`, `ahead_lands`): the difference is the one number
-- of which both are true (`ahead_is`). Where the second tick is not below the first, it is their plain difference (`ahead_plain`); and only the place
-- on the turn counts (`ahead_turns`).
use Prim.Native.Nat.{ℕ, ◌+◌, ◌-◌, ◌%◌, ◌≤◌, ◌<◌}
use mathlib.Core.Path.{◌≡◌, sym, ap, ◌∙◌}
use native.Mathlib.Nat.{add_assoc, add-sub_of_le, mod-lt, mod-mod, mod-add-mod, add-mod-mod, add-mod_right, mod-eq_of_lt}
use native.Mathlib.Omega.{arith}
use Rattle.slides.specs.Counter.{tick_limit, ahead, counter_at_of}

turn : 0 < tick_limit
turn = omega arith

module _ (from to : ℕ) where
  pub ahead_short : ahead from to < tick_limit
  unfolding ahead
  ahead_short = mod-lt _ turn

  pub ahead_lands : (from + ahead from to) % tick_limit ≡ to % tick_limit
  unfolding ahead
  ahead_lands =
      add-mod-mod from (to + (tick_limit - from % tick_limit)) tick_limit
      ∙ sym (mod-add-mod from tick_limit (to + (tick_limit - from % tick_limit)))
      ∙ ap (λ x. x % tick_limit) (omega (arith, mod-lt from turn))
      ∙ add-mod_right to tick_limit

  -- what is added comes off again
  undone : (x : ℕ) → x < tick_limit → ((from + x) % tick_limit + (tick_limit - from % tick_limit)) % tick_limit ≡ x
  undone x short =
      mod-add-mod (from + x) tick_limit (tick_limit - from % tick_limit)
      ∙ ap (λ y. y % tick_limit) (add_assoc from x (tick_limit - from % tick_limit))
      ∙ sym (mod-add-mod from tick_limit (x + (tick_limit - from % tick_limit)))
      ∙ ap (λ y. y % tick_limit) (omega (arith, mod-lt from turn))
      ∙ add-mod_right x tick_limit
      ∙ mod-eq_of_lt short

  pub ahead_is : (x : ℕ) → x < tick_limit → (from + x) % tick_limit ≡ to % tick_limit → ahead from to ≡ x
  unfolding ahead
  ahead_is x short lands =
      sym (mod-add-mod to tick_limit (tick_limit - from % tick_limit))
      ∙ ap (λ y. (y + (tick_limit - from % tick_limit)) % tick_limit) (sym lands)
      ∙ undone x short

  pub ahead_plain : from ≤ to → to - from < tick_limit → ahead from to ≡ to - from
  ahead_plain le short = ahead_is (to - from) short (ap (λ x. x % tick_limit) (add-sub_of_le le))

  -- only where the first tick stands on the turn counts
  pub ahead_turns : ahead (from % tick_limit) to ≡ ahead from to
  unfolding ahead
  ahead_turns = ap (λ x. (to + (tick_limit - x)) % tick_limit) (mod-mod from tick_limit)

-- from a tick to itself the counter need not move
pub ahead_same : (from : ℕ) → ahead from from ≡ 0
ahead_same from = ahead_is from from 0 turn (ap (λ x. x % tick_limit) (omega arith))

module _ (t0 total : ℕ) where
  pub counter_below : counter_at_of t0 total < tick_limit
  unfolding counter_at_of
  counter_below = mod-lt _ turn

  -- the counter stands at a tick once it has gone there
  pub counter_ahead : (tick : ℕ) → counter_at_of t0 (total + ahead (counter_at_of t0 total) tick) ≡ tick % tick_limit
  unfolding counter_at_of
  counter_ahead tick =
      ap (λ x. x % tick_limit) (sym (add_assoc t0 total (ahead ((t0 + total) % tick_limit) tick)))
      ∙ sym (mod-add-mod (t0 + total) tick_limit (ahead ((t0 + total) % tick_limit) tick))
      ∙ ahead_lands ((t0 + total) % tick_limit) tick
