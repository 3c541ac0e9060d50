-- Lines of groups: a cell that no link of the window names is a group of its own and has no line; and the lines of cells one after the other,
-- taken apart.
use Prim.Native.Nat.{ℕ, zero, suc, ◌+◌, ◌≤◌}
use mathlib.Core.Path.{◌≡◌, refl, sym}
use mathlib.Core.Bool.{Bool, true, false, ◌&&◌}
use mathlib.Core.List.{List, [], ◌++◌, append_assoc, Memᴰ}
use native.Mathlib.Nat.{add-zero, zero-add, suc-add}
use native.Mathlib.Omega.{arith}
use lib.Dec.{eqb}
use lib.ListN.{length}
use borrow.Author.Tests.{le-ltb}
use Rattle.graph.specs.Link.{Linked}
use Rattle.graph.proofs.Chains.{chained_alone}
use Rattle.forest.specs.Arrays.{count_from}
use Rattle.window_groups.specs.Groups.{smallest}
use Rattle.listing.specs.Lines.{group_line_if, lines_of}
use Rattle.demands.specs.History.{History, window_of}
use Rattle.demands_listing.specs.Listed.{group_in, least_hold_in, group_line_in, Rising, none, next}
use Rattle.demands_listing.proofs.ListedMeans.{members, group_rises}

-- a rising list that has no cell but c has one at most
only_one : {k c : ℕ} {cs : List ℕ} → Rising k cs → ((d : ℕ) → Memᴰ d cs → c ≡ d) → length cs ≤ 1
only_one none only = omega arith
only_one (next h none) only = omega arith
only_one (next {x = x} h (next {x = y} k on)) only =
    absurd (omega (arith, only x (Memᴰ.head refl), only y (Memᴰ.tail (Memᴰ.head refl))))

-- a cell that no link of the window names
pub no_line : (h : History) (c : ℕ) → ((d : ℕ) → Linked c d (window_of h) → ⊥) → group_line_in h c ≡ []
unfolding group_line_if
no_line h c unnamed = rw (le-ltb 1 (length (group_in h c)) alone) (go (eqb (smallest (group_in h c)) c))
  where
    alone : length (group_in h c) ≤ 1
    alone = only_one (group_rises h c) (λ d m. chained_alone unnamed ((members h c d).0 m).1)

    go : (t : Bool) → group_line_if (t && false) c (length (group_in h c)) (least_hold_in h c) ≡ []
    go true = refl
    go false = refl

pub no_lines : (text : ℕ → List ℕ) (i n : ℕ) → ((c : ℕ) → i ≤ c → text c ≡ []) → lines_of text (count_from i n) ≡ []
unfolding lines_of count_from
no_lines text i zero quiet = refl
no_lines text i (suc n) quiet = rw (quiet i (omega arith)) (no_lines text (suc i) n (λ c h. quiet c (omega arith)))

pub lines_apart : (text : ℕ → List ℕ) (i n m : ℕ) → lines_of text (count_from i (n + m)) ≡ lines_of text (count_from i n) ++ lines_of text (count_from (i + n) m)
unfolding lines_of count_from
lines_apart text i zero m = rw (zero-add m, add-zero i)
lines_apart text i (suc n) m =
    let next : suc i + n ≡ i + suc n = omega arith in
    rw (suc-add n m, lines_apart text (suc i) n m, next) (sym (append_assoc (text i) _ _))
