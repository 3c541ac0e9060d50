-- Links joined and their ends marked: no link, one link, and some links after others. So go the pairs of a slide, and the slides of the window.
use Prim.Native.Nat.{ℕ}
use mathlib.Core.Path.{◌≡◌, refl, sym, ap, ◌∙◌}
use mathlib.Core.Bool.{true}
use mathlib.Core.List.{List, [], ◌++◌, foldl, foldl-append}
use Rattle.graph.specs.Link.{Link}
use Rattle.book_state.specs.Log.{keep}
use Rattle.book_state.specs.Numbers.{are_cells_of}
use Rattle.book_state.proofs.Checks.{two_cells}
use Rattle.forest_scratch.specs.Scratch.{Descends}
use Rattle.forest_scratch.proofs.Joined.{joined_descends}
use Rattle.window_ends.specs.Joins.{with_link, with_ends, Joins}

pub joins_none : {ps marks : List ℕ} → Descends ps → Joins [] ps marks ps marks
joins_none falls = record { falls = falls; joined = refl; marked = refl }

abbrev pair : ℕ → ℕ → Link
pair one other = record { one = one; other = other }

-- a pair of cells is one link
module _ (one other : ℕ) {ps marks : List ℕ} (falls : Descends ps) where
  pub joins_link : {ps' : List ℕ} → are_cells_of one other ≡ true → ps' ≡ with_link ps (pair one other)
      → Joins (keep (pair one other) []) ps marks ps' (with_ends marks (pair one other))
  joins_link e made = rw e (record { falls = rw made (joined_descends falls (two_cells e)); joined = made; marked = refl })

-- some links after others
pub joins_then : {xs ys : List Link} {ps marks ps' marks' ps'' marks'' : List ℕ} → Joins xs ps marks ps' marks' → Joins ys ps' marks' ps'' marks''
    → Joins (xs ++ ys) ps marks ps'' marks''
joins_then {xs} {ys} {ps} {marks} f g =
    record {
      falls = g.falls;
      joined = g.joined ∙ ap (λ qs. foldl with_link qs ys) f.joined ∙ sym (foldl-append with_link ps xs ys);
      marked = g.marked ∙ ap (λ ms. foldl with_ends ms ys) f.marked ∙ sym (foldl-append with_ends marks xs ys);
    }
