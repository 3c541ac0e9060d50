-- `put_fields` meets its contract: after the word, one value is written in each turn.
use mathlib.Core.Path.{◌≡◌}
use lib.ListN.{take}
use Rattle.text.specs.Text.{fields}
use Rattle.text.specs.Output.{wrote}
use Rattle.text.proofs.Output.put_fields.Given as goal

abbrev pub invariant-loop-x : goal.invariant-loop-x
invariant-loop-x l = l.self ≡ wrote (fields (take l.x-index l.values)) l.initial.self
