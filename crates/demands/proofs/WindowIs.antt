-- The links of the window that a book and its log hold are those of the history's window, after any calls.
--
-- Calls keep a book and its log in agreement with the history (Keeps). There the links of each slide of the window stand in the log,
-- and all links of the window have a label of 1 or more, so that none is left out where links are taken by label (Window). What
-- links the same cells chains the same cells, and groups are told by chains (the crate window_groups).
use Prim.Native.Nat.{ℕ}
use mathlib.Core.Path.{◌≡◌}
use mathlib.Core.Bool.{true}
use mathlib.Core.Logic.{◌↔◌}
use native.Mathlib.Omega.{arith}
use Rattle.graph.specs.Link.{Chained}
use Rattle.graph.proofs.Chains.{Relinks, chained_relink}
use Rattle.book_state.specs.Numbers.{are_cells_of}
use Rattle.book_state.proofs.Checks.{two_cells}
use Rattle.window.proofs.WindowLinks.{window_all}
use Rattle.window_groups.proofs.SameGroup.{same_first}
use Rattle.demands.specs.History.{History, window_of}
use Rattle.demands.specs.Implementation.{ours, State}
use Rattle.demands.specs.Demands.{AfterCalls}
use Rattle.demands.specs.WindowIs.{held_links, first_of_group, WindowIs}
use Rattle.demands.specs.Agrees.{Agrees}
use Rattle.demands.proofs.Closings.{closed_now}
use Rattle.demands.proofs.Keeps.{keeps}
use Rattle.demands.proofs.Window.{links_of_age_lem, book_window, window_book}

module _ {h : History} {s : State} (agrees : Agrees h s) where
  held_told : Relinks (held_links s) (window_of h)
  held_told = rw (← (window_all s.book.clock s.book.counts s.log), ← (closed_now h)) (book_window agrees 0)

  told_held : Relinks (window_of h) (held_links s)
  told_held = rw (← (window_all s.book.clock s.book.counts s.log), ← (closed_now h)) (window_book agrees 0)

  same_chains : (a b : ℕ) → Chained (held_links s) a b ↔ Chained (window_of h) a b
  same_chains a b = (chained_relink held_told, chained_relink told_held)

  same_groups : (a b : ℕ) → are_cells_of a b ≡ true → (first_of_group s a ≡ first_of_group s b) ↔ Chained (window_of h) a b
  same_groups a b are =
      let two = two_cells are in
      let told = rw (window_all s.book.clock s.book.counts s.log) at (same_first s.book.clock s.book.counts s.log a b two.0 two.1) in
      (λ e. (same_chains a b).0 (told.0 e), λ x. told.1 ((same_chains a b).1 x))

  pub agrees_window : WindowIs s h
  agrees_window =
      record {
        slides = λ age young past. links_of_age_lem agrees age _ (omega arith) young;
        linked = λ a b. (held_told a b, told_held a b);
        chained = same_chains;
        grouped = same_groups;
      }

pub window_is : AfterCalls ours WindowIs
window_is s cs h told = agrees_window (keeps s cs h told)
