-- Two cells have the same group exactly when the window's links chain them; and one of them tells it by its group's smallest cell.
-- So whoever has the groups of a window knows, without a search, which cells are joined.
use Prim.Native.Nat.{ℕ, ◌<◌, zero-le}
use mathlib.Core.Path.{◌≡◌, refl, ap, subst⁻¹}
use mathlib.Core.List.{List, [], ◌∷◌, Memᴰ}
use mathlib.Core.Logic.{◌↔◌}
use native.Mathlib.Omega.{arith}
use lib.Dec.{eqb}
use lib.ListN.{get_or}
use Rattle.graph.specs.Link.{Chained, same, group, chains}
use Rattle.graph.specs.Forest.{Labelled}
use Rattle.graph.proofs.Chains.{chained_group, chained_sym, chained_trans, chains_true, true_chains}
use Rattle.forest.specs.Arrays.{count_from}
use Rattle.forest.proofs.Fill.{get_d_each}
use Rattle.book_state.specs.Arrays.{cells}
use Rattle.slides.specs.declared.Clock.{Clock}
use Rattle.window.specs.Window.{window_links, links_from_label}
use Rattle.window_groups.specs.Groups.{group_of, smallest, groups_of}
use Rattle.window_groups.proofs.Cells.{in_count, count_in, in_filter, filter_in, filter_agree}

smallest_in : (cs : List ℕ) {c : ℕ} → Memᴰ c cs → Memᴰ (smallest cs) cs
unfolding smallest
smallest_in [] m = elim m [ ]
smallest_in (c ∷ cs) m = Memᴰ.head refl

module _ (xs : List Labelled) where
  -- a cell is in its own group
  own : (c : ℕ) → c < cells → Memᴰ c (group_of xs c)
  own c h = in_filter _ (in_count 0 cells zero-le (omega arith)) (true_chains (same refl))

  -- it is chained with the smallest cell of its group
  chained_smallest : (c : ℕ) → c < cells → Chained (links_from_label 1 xs) c (smallest (group_of xs c))
  chained_smallest c h = chains_true _ c _ (filter_in _ (count_from 0 cells) (smallest_in (group_of xs c) (own c h))).0

  -- and that is a cell
  pub smallest_below : (c : ℕ) → c < cells → smallest (group_of xs c) < cells
  smallest_below c h = (count_in 0 cells (filter_in _ (count_from 0 cells) (smallest_in (group_of xs c) (own c h))).1).1

  pub same_group : (c d : ℕ) → Chained (links_from_label 1 xs) c d → group_of xs c ≡ group_of xs d
  unfolding chains
  same_group c d k = filter_agree _ _ 0 cells (λ e _ _. ap (λ g. eqb g (group (links_from_label 1 xs) e)) (chained_group k))

  pub same_smallest : (c d : ℕ) → c < cells → d < cells → (smallest (group_of xs c) ≡ smallest (group_of xs d)) ↔ Chained (links_from_label 1 xs) c d
  same_smallest c d h k = (
    λ e. chained_trans (chained_smallest c h) (subst⁻¹ (λ m. Chained (links_from_label 1 xs) m d) e (chained_sym (chained_smallest d k))),
    λ x. ap smallest (same_group c d x),
  )

-- of the groups that `of_window` gives
pub same_first : (clock : Clock) (counts log : List ℕ) (c d : ℕ) → c < cells → d < cells →
    (get_or (groups_of clock counts log).first c 0 ≡ get_or (groups_of clock counts log).first d 0) ↔ Chained (links_from_label 1 (window_links clock counts log)) c d
unfolding groups_of
same_first clock counts log c d h k =
    rw (get_d_each (λ e. smallest (group_of (window_links clock counts log) e)) cells c 0 h, get_d_each (λ e. smallest (group_of (window_links clock counts log) e)) cells d 0 k)
    (same_smallest (window_links clock counts log) c d h k)
