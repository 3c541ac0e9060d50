-- The ranges of a forest's lists, entry by entry.
use Prim.Native.Nat.{ℕ, ◌≤◌, ◌<◌}
use mathlib.Core.Bool.{Bool, true, false, cond}
use mathlib.Core.List.{List}
use lib.Dec.{ltb}
use lib.ListN.{length}
use Rattle.forest.specs.Arrays.{parent_in, parent_at_in, label_in, size_in, ParentsAreCells}

-- lists with a place for each of n cells, or more: each cell's parent is a cell, and its size is from 1 to n
pub record Ranged (n : ℕ) (ps ss : List ℕ) : Type 0 where
  pub parents_long : n ≤ length ps
  pub sizes_long : n ≤ length ss
  pub parent_below : (c : ℕ) → c < n → parent_in ps c < n
  pub size_from : (c : ℕ) → c < n → 1 ≤ size_in ss c
  pub size_to : (c : ℕ) → c < n → size_in ss c ≤ n

-- at a cut too a cell's parent is a cell
pub cut_inside : {ps ls : List ℕ} → ParentsAreCells ps ls → (cut : ℕ) {c : ℕ} → c < length ps → parent_at_in ps ls cut c < length ps
cut_inside {ps} {ls} r cut {c} h = either (ltb (label_in ls c) cut)
  where
    either : (t : Bool) → cond t c (parent_in ps c) < length ps
    either true = h
    either false = r.inside c h
