-- When number 1 cannot come from a book, whatever links it takes. Playing a file asks this once, and then number 1 at no record.
use Rattle.std.specs.Prelude.{ℕ, zero, suc, ◌+◌, Bool, cond, ◌&&◌, eqb, length}
use Rattle.numbers.specs.Kinds.{Parents, Sizes}
use Rattle.forest.specs.Arrays.{places, parent_in, size_in}
use Rattle.forest_check.specs.Sound.{every, doubles_at}
use Rattle.book_state.specs.Arrays.{cells}
use Rattle.book_state.specs.declared.Book.{Book}
use Rattle.book_state.specs.Order.{in_order_of}

-- the sizes of the roots below n, together
unfoldable pub root_cells : (parents : Parents) (sizes : Sizes) (n : ℕ) → ℕ
root_cells ps ss zero = 0
root_cells ps ss (suc n) = root_cells ps ss n + cond (eqb (parent_in ps n) n) (size_in ss n) 0

-- a forest of all cells with sizes that links make (RULES 3.5): each tree but a root's has at most half the cells of its parent's, and the
-- roots' trees have all cells between them
abbrev pub grown_of : (parents : Parents) (sizes : Sizes) → Bool
grown_of ps ss = eqb (length ps) places && every (doubles_at ss) 0 ps && eqb (root_cells ps ss places) cells

-- the book is in order and stays so
unfoldable pub steady_of : (book : Book) → Bool
steady_of b = in_order_of b && grown_of b.forward_parent b.forward_size
