-- The least and the greatest of a list decide whether all its entries are within a range; and where the greatest is 0, all are.
-- Of two numbers the one that is kept passes a test exactly where both do.
use Rattle.std.proofs.Common.{◌≡◌, ℕ, min, max, ◌&&◌, leb, ltb, eqb, arith}
use Rattle.std.proofs.lemmas.Bool.Decides.{nat_tests}

pub both_more : (low end least greatest x : ℕ)
    → (leb low (min least x) && ltb (max greatest x) end) ≡ ((leb low least && ltb greatest end) && (leb low x && ltb x end))
both_more low end least greatest x = grind (arith, nat_tests)

pub none_more : (a x : ℕ) → eqb (max a x) 0 ≡ (eqb a 0 && eqb x 0)
none_more a x = grind (arith, nat_tests)
