-- The values that settings may have (RULES 2 and 1).
--
-- Three names, equal today: what number 2 judges in a file that is read, what opening and the writer take, and what a
-- book may hold. A rule that is for one of the three alone changes that name.
use Rattle.std.specs.Prelude.{ℕ, Bool, cond, ◌&&◌, ◌||◌, eqb, leb, replicate}
use Rattle.cells.specs.declared.Fitting.{Fitting}
use Rattle.settings.specs.declared.Settings.{Settings}

-- n is 1 to 16, B at least 1, and the mounting 1 or 2; mounting 0 means that it was never set
abbrev pub in_range : (n b mounting : ℕ) → Bool
in_range n b mounting = leb 1 n && leb n 16 && leb 1 b && (eqb mounting 1 || eqb mounting 2)

-- number 2, or 0: what the reader judges
abbrev pub settings_number : Settings → ℕ
settings_number s = cond (in_range s.n s.b s.mounting) 0 2

-- what opening and the writer take
abbrev pub taken_number : Settings → ℕ
taken_number = settings_number

-- what a book may hold
abbrev pub held_in_range : ℕ → ℕ → ℕ → Bool
held_in_range = in_range

-- how the unit is fitted (RULES 1.3)
abbrev pub fitting_of : Settings → Fitting
fitting_of s = record { mounting = s.mounting; pad = replicate 7 0 }
