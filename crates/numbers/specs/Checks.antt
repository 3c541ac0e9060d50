-- The numbers a call can give (RULES 7): of the checks in the order of the table the first that fails gives the number, and 0
-- means that none does. Each call's own list of checks stands with the call.
use Rattle.std.specs.Prelude.{ℕ, zero, suc, Bool, true, false, cond, List, [], ◌∷◌}
use Rattle.numbers.specs.Kinds.{Number}

-- the first number that is not 0
unfoldable pub first_of : (numbers : List Number) → Number
first_of [] = 0
first_of (zero ∷ ks) = first_of ks
first_of (suc k ∷ ks) = suc k

-- the number, unless the check is passed
abbrev pub unless : (passed : Bool) (number : Number) → Number
unless passed number = cond passed 0 number

-- the list has n entries at least
unfoldable pub has : (n : ℕ) (l : List ℕ) → Bool
has zero l = true
has (suc n) [] = false
has (suc n) (x ∷ l) = has n l
