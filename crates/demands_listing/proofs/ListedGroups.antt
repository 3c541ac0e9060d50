-- The groups that are read off a book and its log are those of the history, after any calls: the same cells, the same holds, as many links.
--
-- The links of the book's window with label c + 1 or more link the same cells as those of the history's window c closings later (Window). With
-- c = 0 that gives the groups; and the largest such c, which is the hold, is found by the same search on both sides.
use Prim.Native.Nat.{ℕ, zero, suc, ◌-◌}
use mathlib.Core.Path.{◌≡◌, refl, ◌∙◌, ap, ap₂}
use mathlib.Core.Bool.{Bool, true, false, cond}
use mathlib.Core.List.{List}
use native.Mathlib.Omega.{arith}
use lib.ListN.{length}
use Rattle.graph.specs.Link.{Link, chains}
use Rattle.graph.specs.Forest.{Labelled}
use Rattle.graph.proofs.Chains.{Relinks, chained_relink, chains_true, true_chains}
use Rattle.forest.specs.Arrays.{count_from}
use Rattle.numbers.proofs.Checks.{passes}
use Rattle.book_state.specs.Arrays.{cells}
use Rattle.window.specs.Window.{window_links, links_from_label, highest}
use Rattle.window_groups.specs.Groups.{filter, smallest, group_of, hold_of, least_hold, least_over, of_cells, groups_of}
use Rattle.groups.specs.Call.{groups_by_number, groups_given}
use Rattle.listing.specs.Lines.{group_line, lines_of, group_lines}
use Rattle.demands.specs.History.{History}
use Rattle.demands.specs.Implementation.{State}
use Rattle.demands_listing.specs.Listed.{group_in, hold_within, hold_in, least_hold_in, groups_in, GroupsTold, group_line_in}
use Rattle.demands.specs.Agrees.{Agrees}
use Rattle.demands.proofs.Closings.{closed, closed_now}
use Rattle.demands.proofs.InOrder.{agrees_in_order}
use Rattle.demands.proofs.Lists.{same_test}
use Rattle.demands_listing.proofs.ListedCount.{count_told}
use Rattle.demands.proofs.Window.{book_window, window_book}

-- links that link the same cells chain the same cells
same_chains : {ls ms : List Link} → Relinks ls ms → Relinks ms ls → (one other : ℕ) → chains ls one other ≡ chains ms one other
same_chains {ls} {ms} there back one other =
    same_test _ _ (λ e. true_chains (chained_relink there (chains_true ls one other e))) (λ e. true_chains (chained_relink back (chains_true ms one other e)))

module _ {h : History} {s : State} (agrees : Agrees h s) where
  abbrev pub held : List Labelled
  held = window_links s.book.clock s.book.counts s.log

  later_chains : (c one other : ℕ) → chains (links_from_label (suc c) held) one other ≡ chains (closed h c) one other
  later_chains c = same_chains (book_window agrees c) (window_book agrees c)

  -- ---- holds

  hold_within_lem : (most one other : ℕ) → highest (suc most) held one other - 1 ≡ hold_within most h one other
  unfolding highest hold_within
  hold_within_lem zero one other = go (chains (links_from_label 1 held) one other)
    where
      go : (t : Bool) → cond t 1 0 - 1 ≡ 0
      go true = refl
      go false = refl
  hold_within_lem (suc c) one other = rw (later_chains (suc c) one other) (go (chains (closed h (suc c)) one other) (hold_within_lem c one other))
    where
      go : (t : Bool) → highest (suc c) held one other - 1 ≡ hold_within c h one other
          → cond t (suc (suc c)) (highest (suc c) held one other) - 1 ≡ cond t (suc c) (hold_within c h one other)
      go true e = omega arith
      go false e = e

  pub hold_told : (one other : ℕ) → hold_of s.book.clock.n held one other ≡ hold_in h one other
  hold_told one other = hold_within_lem _ one other ∙ ap (λ clock. hold_within clock.n h one other) agrees.clock

  -- ---- groups

  pub group_told : (c : ℕ) → group_of held c ≡ group_in h c
  group_told c =
      ap (λ test. filter test (count_from 0 cells)) (λ i d. (later_chains 0 c d ∙ ap (λ ls. chains ls c d) (closed_now h)) i)

  pub least_told : (c : ℕ) → least_hold s.book.clock.n held (group_of held c) ≡ least_hold_in h c
  least_told c =
      ap (λ (hold : ℕ → ℕ → ℕ). least_over s.book.clock.n hold (group_of held c)) (λ i one other. hold_told one other i)
      ∙ ap₂ (λ n group. least_over n (hold_in h) group) (ap (λ clock. clock.n) agrees.clock) (group_told c)

  -- ---- what is told of them

  groups_are : groups_of s.book.clock s.book.counts s.log ≡ groups_in h
  unfolding groups_of
  groups_are = λ i.
      record {
        first = of_cells (λ c. smallest (group_told c i));
        count = of_cells (λ c. length (group_told c i));
        hold = of_cells (λ c. least_told c i);
        links = count_told agrees i;
      }

  -- the book is in order, and its log has its places
  pub groups_told : GroupsTold s h
  unfolding groups_given
  groups_told first size hold =
      ap₂ (λ number groups. groups_by_number number groups first size hold) (passes 1 _ (agrees_in_order agrees) ∙ passes 6 _ agrees.room) groups_are

  pub lines_told : group_lines s.book.clock.n held ≡ lines_of (group_line_in h) (count_from 0 cells)
  lines_told = λ i. lines_of (λ c. group_line c (smallest (group_told c i)) (length (group_told c i)) (least_told c i)) (count_from 0 cells)
