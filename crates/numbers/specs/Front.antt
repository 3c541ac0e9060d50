-- What a lent buffer holds after a call that writes to its front (RULES 7.4): what was written, and behind it what was there.
use Rattle.std.specs.Prelude.{ℕ, List, ◌++◌, length, drop}

-- `written` at the front of the buffer; later places keep what they had
abbrev pub at_front : (written buffer : List ℕ) → List ℕ
at_front written buffer = written ++ drop (length written) buffer
