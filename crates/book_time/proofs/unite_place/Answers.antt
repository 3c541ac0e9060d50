use Rattle.book_state.proofs.Passes.{pair_parts}
use Rattle.book_time.proofs.Scan.{none_scanned, one_scanned}
use Rattle.book_time.proofs.unite_place.Goals as goal

pub loop-i-init : goal.loop-i-init
loop-i-init c = record { scanned = none_scanned (pair_parts _ _ _ _); beside = c.requires.beside }

pub loop-i-preserved : goal.loop-i-preserved
loop-i-preserved c =
    let inv = c.loop-i.invariant in
    let made = c.unite_pair.ensures in
    record { scanned = one_scanned (pair_parts _ _ _ _) _ _ c.loop-i-test.true c.loop-i.auto.i inv.scanned made.label_after; beside = made.beside_after }
