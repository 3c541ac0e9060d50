-- What the joined call tells through the interface: the number of the table, and with 0 what was found.
use Rattle.std.specs.Prelude.{false, Result, Ok, Err}
use Rattle.refusals.specs.declared.Refusal.{Refusal}
use Rattle.refusals.specs.Number.{code_of}
use Rattle.book_joined.specs.declared.Joined.{Joined}
use Rattle.book_joined.specs.declared.JoinedAnswer.{JoinedAnswer}

abbrev pub told : Result Joined Refusal → JoinedAnswer
told (Ok joined) = record { number = 0; yes = joined.yes; steps = joined.steps }
told (Err refusal) = record { number = code_of refusal; yes = false; steps = 0 }
