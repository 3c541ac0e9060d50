-- What a crate above the book may rely on: for a book and a log that calls have left, the links of the window that they hold are the
-- links of the history's window. Lamps, a judge and whoever else reads the window off a book need nothing more of it.
use Rattle.std.specs.Prelude.{ℕ, ◌-◌, ◌≤◌, ◌<◌, ◌≡◌, true, List, reverse, ◌↔◌, get_or}
use Rattle.numbers.specs.Kinds.{Cell}
use Rattle.graph.specs.Link.{Link, Linked, Chained}
use Rattle.book_state.specs.Numbers.{are_cells_of}
use Rattle.window.specs.Window.{links_of_age}
use Rattle.window_ends.specs.Ends.{links_in}
use Rattle.window_groups.specs.Groups.{groups_of}
use Rattle.demands.specs.History.{History, open_slide_in, slide_links, links_of, window_of}
use Rattle.demands.specs.Implementation.{State}

-- the links of the window that a book and its log hold
abbrev pub held_links : State → List Link
held_links s = links_in s.book.clock s.book.counts s.log

-- the smallest cell of a cell's group
abbrev pub first_of_group : (state : State) (cell : Cell) → ℕ
first_of_group s c = get_or (groups_of s.book.clock s.book.counts s.log).first c 0

pub record WindowIs (s : State) (h : History) : Type 0 where
  -- slide by slide the links are the same, repeats too, in order of arrival (RULES 2.5, 2.12); an age counts slides back from k
  pub slides : (age : ℕ) → age < h.clock.n → age ≤ open_slide_in h →
      links_of_age s.book.clock s.book.counts s.log age ≡ reverse (links_of (slide_links (open_slide_in h - age) h.links))
  -- so they link the same cells and chain the same cells
  pub linked : (a b : ℕ) → Linked a b (held_links s) ↔ Linked a b (window_of h)
  pub chained : (a b : ℕ) → Chained (held_links s) a b ↔ Chained (window_of h) a b
  -- and two cells have the same group exactly when they are chained (RULES 8.4)
  pub grouped : (a b : ℕ) → are_cells_of a b ≡ true → (first_of_group s a ≡ first_of_group s b) ↔ Chained (window_of h) a b
