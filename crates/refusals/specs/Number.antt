-- The numbers of the table (RULES 7.1): what a refusal is in it, and 0 for a call that is done.
use Rattle.std.specs.Prelude.{Result, Ok, Err}
use Rattle.numbers.specs.Kinds.{Number}
use Rattle.refusals.specs.declared.Refusal.{Refusal}
use Rattle.refusals.specs.declared.Refusal.TheVariants.{OutOfOrder, Settings, NoCell, Late, Full, Short, NoTrail, Length, Letters, Offset, Pad, Form, Apart, Mask}

-- the number of a refusal
abbrev pub code_of : Refusal → Number
code_of OutOfOrder = 1
code_of Settings = 2
code_of NoCell = 3
code_of Late = 4
code_of Full = 5
code_of Short = 6
code_of NoTrail = 7
code_of Length = 9
code_of Letters = 10
code_of Offset = 11
code_of Pad = 12
code_of Form = 13
code_of Apart = 14
code_of Mask = 15

-- the number of an answer: 0 where nothing is refused
abbrev pub number_of : {A : Type 0} → Result A Refusal → Number
number_of (Ok given) = 0
number_of (Err refusal) = code_of refusal
