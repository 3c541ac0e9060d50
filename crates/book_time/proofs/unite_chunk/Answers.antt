use native.Mathlib.Omega.{arith}
use Rattle.book_state.proofs.Passes.{place_parts}
use Rattle.forest_beside.proofs.Advancing.{beside_fresh}
use Rattle.book_time.proofs.Scan.{none_scanned, one_scanned}
use Rattle.book_time.proofs.unite_chunk.Goals as goal

pub loop-place-init : goal.loop-place-init
loop-place-init c =
    record {
      least = c.requires.readable.n_least;
      scanned = none_scanned (place_parts _ _ _ _);
      beside = beside_fresh c.requires.fresh;
    }

pub loop-place-preserved : goal.loop-place-preserved
loop-place-preserved c =
    let inv = c.loop-place.invariant in
    let made = c.unite_place.ensures in
    record {
      least = omega arith;
      scanned = one_scanned (place_parts _ _ _ _) _ _ (omega arith) c.loop-place.auto.place inv.scanned made.label_after;
      beside = made.beside_after;
    }
