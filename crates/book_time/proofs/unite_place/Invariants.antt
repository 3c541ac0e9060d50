-- `book_time::unite_place` meets its contract: the pairs from i on are united (proofs/Scan.antt).
use mathlib.Core.Path.{◌≡◌}
use Rattle.book_state.specs.Arrays.{arrays_of, united_all}
use Rattle.book_state.proofs.Passes.{pairs_from}
use Rattle.forest_beside.specs.Beside.{Beside}
use Rattle.book_time.proofs.unite_place.Given as goal

abbrev pub invariant-loop-i : goal.invariant-loop-i
invariant-loop-i l =
    record {
      scanned : arrays_of l.parent l.size l.label ≡ united_all (arrays_of l.initial.parent l.initial.size l.initial.label) (pairs_from l.place l.log l.start l.count l.i);
      beside : Beside (arrays_of l.parent l.size l.label) l.scratch;
    }
