-- `chain::between` meets its contract: a book in order has an open slide of which a window's labels can be counted on, and L is no less
-- than 0.
use Rattle.std.proofs.Common.{sym, arith}
use Rattle.slides.proofs.Slides.{open_fits}
use Rattle.numbers.proofs.Checks.{first_passed, unless_passed}
use Rattle.book_state.proofs.Checks.{in_order_range}
use Rattle.chain.proofs.ChainCall.{newest_is}
use Rattle.chain.proofs.between.Goals as goal

pub overflow_add-newest : goal.overflow_add-newest
overflow_add-newest c =
    let ordered = unless_passed _ _ (first_passed _ _ (sym c.in_ok-window.ensures.number)).0 in
    let few = open_fits c.in_ok-window.window.clock (rw c.in_ok-window.ensures.given.0 (in_order_range _ ordered).total_most_lem) in
    record { fits = omega (arith, few, c.open_slide-k.ensures) }

pub overflow_sub-newest : goal.overflow_sub-newest
overflow_sub-newest c = omega (arith, c.open_slide-k.ensures, newest_is _ _ _ _ _ c.in-Some.ensures.0 c.in-Some.ensures.1)
