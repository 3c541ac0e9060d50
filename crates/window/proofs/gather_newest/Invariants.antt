-- `window::gather_newest` meets its contract: the links of the newest `age` slides are put. The window has no more than 16 slides, each with at
-- most 256 links.
use Rattle.std.proofs.Common.{◌*◌, ◌≤◌}
use Rattle.window.specs.Window.{links_from_age}
use Rattle.window.specs.Gathered.{Put}
use Rattle.window.proofs.gather_newest.Given as goal

abbrev pub invariant-loop-age : goal.invariant-loop-age
invariant-loop-age l =
    record {
      few : l.links.count ≤ l.age * 256;
      put : Put (links_from_age l.window.clock l.window.counts.now l.window.log.now 0 l.age) 0 l.fn.links l.links;
    }
