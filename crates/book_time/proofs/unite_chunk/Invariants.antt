-- `book_time::unite_chunk` meets its contract: the places from `place` on are united (proofs/Scan.antt), down to place 1.
use Prim.Native.Nat.{◌-◌, ◌≤◌}
use mathlib.Core.Path.{◌≡◌}
use Rattle.book_state.specs.Arrays.{arrays_of, united_all}
use Rattle.book_state.specs.Log.{chunk_links}
use Rattle.forest_beside.specs.Beside.{Beside}
use Rattle.book_time.proofs.unite_chunk.Given as goal

abbrev pub invariant-loop-place : goal.invariant-loop-place
invariant-loop-place l =
    record {
      least : 1 ≤ l.place;
      scanned : arrays_of l.parent l.size l.label ≡ united_all (arrays_of l.initial.parent l.initial.size l.initial.label) (chunk_links l.counts l.log l.half l.place (l.n - l.place));
      beside : Beside (arrays_of l.parent l.size l.label) l.scratch;
    }
