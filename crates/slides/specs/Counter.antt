-- The unit's counter: ticks have 32 bits, and after the last of them comes 0 again (RULES 2.2).
use Rattle.std.specs.Prelude.{ℕ, ◌+◌, ◌-◌, ◌^◌, ◌%◌}
use Rattle.numbers.specs.Kinds.{Tick, Total}

-- ticks are below this limit
abbrev pub tick_limit : ℕ
tick_limit = 2 ^ 32

-- half a turn of the counter: a tick that is as far ahead, or farther, counts as one before (RULES 2.3)
abbrev pub half_turn : ℕ
half_turn = 2 ^ 31

-- how far the counter goes from one tick to another: (to - from) mod 2^32 (RULES 2.3). Numbers have no sign here, so that a whole turn is
-- added first
unfoldable pub ahead : (from to : Tick) → ℕ
ahead from to = (to + (tick_limit - from % tick_limit)) % tick_limit

-- where the counter stands when so many ticks have passed since T0
unfoldable pub counter_at_of : (t0 : Tick) (total : Total) → Tick
counter_at_of t0 total = (t0 + total) % tick_limit
