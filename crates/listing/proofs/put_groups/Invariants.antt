-- `listing::put_groups` meets its contract: the lines of the cells so far, one after the other.
use Rattle.std.proofs.Common.{◌≡◌}
use Rattle.forest.specs.Arrays.{count_from}
use Rattle.text.specs.Output.{wrote}
use Rattle.listing.specs.Lines.{lines_of, line_from_arrays}
use Rattle.listing.proofs.put_groups.Given as goal

abbrev pub invariant-loop-cell : goal.invariant-loop-cell
invariant-loop-cell l =
    l.output ≡ wrote (lines_of (line_from_arrays l.groups.first l.groups.count l.groups.hold) (count_from 0 l.cell)) l.initial.output
