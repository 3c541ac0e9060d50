-- The body mask (RULES 11.2): a byte for each cell in the lorry's numbers, 1 for the lorry's own bodywork and 0 for all else.
use Rattle.std.specs.Prelude.{ℕ, zero, suc, Bool, true, false, ◌&&◌, [], ◌∷◌, eqb, leb, get_or}
use Rattle.numbers.specs.Kinds.{Bytes, Cell}

-- it has `count` bytes at least, and each of the first `count` is 0 or 1; later ones are not looked at
unfoldable pub is_mask_of : (count : ℕ) (mask : Bytes) → Bool
is_mask_of zero mask = true
is_mask_of (suc more) [] = false
is_mask_of (suc more) (x ∷ mask) = leb x 1 && is_mask_of more mask

-- the cell is bodywork
abbrev pub is_body : (mask : Bytes) (cell : Cell) → Bool
is_body mask c = eqb (get_or mask c 0) 1
