-- The lines of the groups, one after the other. The lines from the arrays that window_groups gives are those of the groups,
-- since the arrays hold for each cell what the definition takes from its group; and a line has at most 19 bytes.
use Prim.Native.Nat.{ℕ, zero, suc, ◌+◌, ◌*◌, ◌≤◌, ◌<◌}
use mathlib.Core.Path.{◌≡◌, refl, ap, ◌∙◌}
use mathlib.Core.Bool.{Bool, true, false}
use mathlib.Core.List.{List, [], ◌∷◌, ◌++◌, append_assoc, append-nil}
use native.Mathlib.Nat.{add-zero, zero-add}
use native.Mathlib.Numerals.{add-one}
use native.Mathlib.Omega.{arith}
use lib.ListN.{length, get_or, length-append}
use Rattle.graph.specs.Forest.{Labelled}
use Rattle.forest.specs.Arrays.{count_from}
use Rattle.forest.proofs.Fill.{get_d_each}
use Rattle.slides.specs.declared.Clock.{Clock}
use Rattle.book_state.specs.Arrays.{cells}
use Rattle.window.specs.Window.{window_links}
use Rattle.window_groups.specs.declared.Groups.{Groups}
use Rattle.window_groups.specs.Groups.{group_of, hold_of, groups_of}
use Rattle.window_groups.proofs.Cells.{group_few}
use Rattle.window_groups.proofs.LeastHold.{hold_n}
use Rattle.listing.specs.Lines.{leads, group_line_if, lines_of, group_lines, line_from_arrays, lines_from_arrays, FewDigits}
use Rattle.listing.proofs.Printed.{group_line_short}

-- ---- one after the other

count_more : (i n : ℕ) → count_from i (suc n) ≡ count_from i n ++ (i + n) ∷ []
unfolding count_from
count_more i zero = rw add-zero
count_more i (suc n) =
    ap (λ (l : List ℕ). i ∷ l) (count_more (suc i) n ∙ ap (λ (k : ℕ). count_from (suc i) n ++ k ∷ []) (omega arith))

pub lines_none : (text : ℕ → List ℕ) → lines_of text (count_from 0 0) ≡ []
unfolding lines_of count_from
lines_none text = refl

pub lines_more : (text : ℕ → List ℕ) (c : ℕ) → lines_of text (count_from 0 (c + 1)) ≡ lines_of text (count_from 0 c) ++ text c
unfolding lines_of
lines_more text c = rw (add-one c, count_more 0 c, zero-add c) (append (count_from 0 c))
  where
    append : (cs : List ℕ) → lines_of text (cs ++ c ∷ []) ≡ lines_of text cs ++ text c
    append [] = append-nil _
    append (d ∷ cs) = rw (append cs, append_assoc)

lines_agree : (f g : ℕ → List ℕ) (i n : ℕ) → ((c : ℕ) → c < i + n → f c ≡ g c) → lines_of f (count_from i n) ≡ lines_of g (count_from i n)
unfolding lines_of count_from
lines_agree f g i zero e = refl
lines_agree f g i (suc n) e = rw (lines_agree f g (suc i) n (λ c h. e c (omega arith)), e i (omega arith))

-- ---- a line is short

pub array_line_short : (firsts : List ℕ) {counts holds : List ℕ} → FewDigits counts holds → (c : ℕ) → c < cells → length (line_from_arrays firsts counts holds c) ≤ 19
unfolding group_line_if
array_line_short firsts {counts} {holds} small c h = go (leads c (get_or firsts c 0) (get_or counts c 0))
  where
    go : (t : Bool) → length (group_line_if t c (get_or counts c 0) (get_or holds c 0)) ≤ 19
    go true = group_line_short c (get_or counts c 0) (get_or holds c 0) h (small.count_most c h) (small.hold_most c h)
    go false = omega arith

-- and so are the lines of the first cells
pub lines_short : (firsts : List ℕ) {counts holds : List ℕ} → FewDigits counts holds → (n : ℕ) → n ≤ cells
    → length (lines_of (line_from_arrays firsts counts holds) (count_from 0 n)) ≤ 19 * n
lines_short firsts {counts} {holds} small zero h = rw lines_none (omega arith)
lines_short firsts {counts} {holds} small (suc n) h =
    let line = array_line_short firsts small n (omega arith) in
    let before = lines_short firsts small n (omega arith) in
    rw (← (add-one n), lines_more (line_from_arrays firsts counts holds) n, length-append) (omega (arith, line, before))

-- ---- the groups of a window

module _ (clock : Clock) (counts log : List ℕ) {g : Groups} (is : g ≡ groups_of clock counts log) where
  abbrev xs : List Labelled
  xs = window_links clock counts log

  pub groups_small : clock.n ≤ 16 → FewDigits g.count g.hold
  unfolding groups_of
  groups_small n =
      rw is record {
        count_most = λ c h. rw (get_d_each _ cells c 0 h) (group_few xs c);
        hold_most = λ c h. rw (get_d_each _ cells c 0 h) (omega (arith, hold_n clock.n (hold_of clock.n xs) (group_of xs c)));
      }

  pub groups_lines : lines_from_arrays g.first g.count g.hold ≡ group_lines clock.n xs
  unfolding groups_of
  groups_lines = rw is (lines_agree _ _ 0 cells (λ c h. rw (get_d_each _ cells c 0 (omega arith), get_d_each _ cells c 0 (omega arith), get_d_each _ cells c 0 (omega arith))))

  pub groups_links : g.links ≡ length xs
  unfolding groups_of
  groups_links = ap (λ h. h.links) is
