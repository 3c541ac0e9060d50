-- What joined finds in a book in order when it is asked for two cells, at a cut above place 0. That the arrays have a place for each cell is
-- what their type says.
use Rattle.std.proofs.Common.{◌≡◌, ℕ, true, ◌≤◌, length}
use Rattle.book_state.specs.declared.Book.{Book}
use Rattle.book_state.specs.Arrays.{cells}
use Rattle.book_state.specs.Numbers.{are_cells_of}
use Rattle.book_state.specs.Order.{in_order_of}
use Rattle.book_state.proofs.Checks.{Ordered, ordered, two_cells}
use Rattle.book_joined.specs.Askable.{Askable}

pub askable : (b : Book) {cut one other : ℕ} → length b.backward_parent ≡ cells → length b.backward_label ≡ cells → length b.forward_parent ≡ cells
    → in_order_of b ≡ true → 1 ≤ cut → are_cells_of one other ≡ true → Askable b.backward_parent b.backward_label b.forward_parent cut one other
askable b backward labels forward e above are =
    let o : Ordered b = ordered b e in
    record {
      backward_sound = record { sizes = b.backward_size; sound = o.backward; long = backward };
      labels_long = labels;
      forward_sound = record { sizes = b.forward_size; sound = o.forward; long = forward };
      above = above;
      one_cell = (two_cells are).0;
      other_cell = (two_cells are).1;
    }
