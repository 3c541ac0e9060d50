-- The numbers of the two mountings (RULES 1.3).
use Rattle.std.specs.Prelude.{◌≡◌, ◌≢◌, ℕ, Result, MatchResult}
use Rattle.cells.specs.declared.Mounting.{Mounting}
use Rattle.cells.specs.declared.Mounting.TheVariants.{Plain, Mirrored}
use Rattle.cells.specs.declared.NoMounting.{NoMounting}

-- 1 plain, 2 mirrored
abbrev pub mounting_number : Mounting → ℕ
mounting_number Plain = 1
mounting_number Mirrored = 2

-- a number is a mounting's, or no mounting has it
abbrev pub Mounts : ℕ → Result Mounting NoMounting → Type 0
Mounts number mounting =
    MatchResult mounting (λ m. mounting_number m ≡ number) (λ none. (none.0 ≡ number) × (number ≢ 1) × (number ≢ 2))
