-- The chain call gives 1 for a book that was never opened, since that is not in order.
use Prim.Native.Nat.{ℕ}
use mathlib.Core.Path.{◌≡◌}
use mathlib.Core.List.{List}
use Rattle.numbers.proofs.Checks.{fails}
use Rattle.book_state.specs.Order.{never_opened_of}
use Rattle.book_state.proofs.Checks.{never_in_order}
use Rattle.chain.specs.Chain.{chain_number}

pub never_chain : (log chain : List ℕ) (one other : ℕ) → chain_number never_opened_of log chain one other ≡ 1
unfolding chain_number
never_chain log chain one other = fails 0 _ never_in_order
