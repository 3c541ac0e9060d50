-- The forest of a window's links, as the code holds it: what its trees tell at each cell's root are the groups that the definition
-- asks for (proofs/GroupTrees.antt).
use Prim.Native.Nat.{ℕ, ◌+◌, ◌-◌, ◌≤◌}
use mathlib.Core.Path.{◌≡◌, sym, ap, ap₂, ◌∙◌}
use mathlib.Core.List.{List, reverse}
use native.Mathlib.Nat.{le_refl}
use lib.ListN.{length}
use Rattle.graph.specs.Forest.{Labelled, Each, EndsBelow, climb, forest_of}
use Rattle.graph.proofs.Forests.{parent_below}
use Rattle.graph.proofs.Cut.{each_map, label_of_step}
use Rattle.forest.specs.Arrays.{parent_in, label_in}
use Rattle.slides.specs.declared.Clock.{Clock}
use Rattle.book_state.specs.Arrays.{cells, step_limit}
use Rattle.book_state.proofs.Built.{each_reverse}
use Rattle.window.specs.Window.{window_links}
use Rattle.window.proofs.Falling.{falls_reverse}
use Rattle.window.proofs.WindowLinks.{window_ends_lem, window_labels, window_falls}
use Rattle.window_forest.specs.LinkForest.{grown_from}
use Rattle.window_forest.specs.declared.LinkForest.{LinkForest}
use Rattle.window_forest.proofs.WindowForest.{chained_reverse, parents_are, labels_are, parents_long}
use Rattle.window_groups.specs.declared.trees.Tallies.{Tallies}
use Rattle.window_groups.specs.Groups.{smallest, group_of, least_hold, groups_of}
use Rattle.window_groups.specs.Trees.{tree_of, least_label, groups_at}
use Rattle.window_groups.proofs.Cells.{of_cells_agree}
use Rattle.window_groups.proofs.GroupTrees.{Ordered, group_is_tree, tree_hold}
use Rattle.window_groups.proofs.AtRoots.{Grown, AtRoots, first_at, count_at, least_at}

module _ (clock : Clock) (counts log : List ℕ) where
  abbrev united : List Labelled
  united = reverse (window_links clock counts log)

  ends : EndsBelow cells (window_links clock counts log)
  ends = window_ends_lem clock counts log

  ordered : Ordered clock.n (window_links clock counts log) united
  ordered =
      record {
        ends = each_reverse ends;
        falls = falls_reverse (window_falls clock counts log);
        labels = each_reverse (window_labels clock counts log);
        chain = λ j one other. let both = chained_reverse j (window_links clock counts log) in (both.1, both.0);
      }

  module _ {f : LinkForest} (is : f ≡ grown_from (window_links clock counts log)) where
    pub forest_grown : Grown f.parent f.label
    forest_grown =
        record {
          long = parents_long ends is;
          inside = λ c h. rw (parent_is c) (parent_below (le_refl 10) ordered.ends c h);
          from_one = λ c. rw (parent_is c, label_is c) (label_of_step (le_refl 10) ordered.ends (λ l. 1 ≤ l) from_one c);
        }
      where
        parent_is : (c : ℕ) → parent_in f.parent c ≡ (forest_of step_limit united).parent c
        parent_is c = ap (λ p. p c) (parents_are ends is)

        label_is : (c : ℕ) → label_in f.label c ≡ (forest_of step_limit united).label c
        label_is c = ap (λ l. l c) (labels_are ends is)

        from_one : Each (λ y. 1 ≤ y.label) united
        from_one = each_map (λ y p. p.0) ordered.labels

    -- the tree of a cell, by parents
    abbrev tree : (ℕ → ℕ) → ℕ → List ℕ
    tree parent c = tree_of (λ d. (climb parent step_limit d).root) (climb parent step_limit c).root

    tree_is : (c : ℕ) → tree (parent_in f.parent) c ≡ group_of (window_links clock counts log) c
    tree_is c = ap (λ p. tree p c) (parents_are ends is) ∙ sym (group_is_tree ordered c)

    hold_is : (c : ℕ)
        → least_label (clock.n + 1) (parent_in f.parent) (label_in f.label) (tree (parent_in f.parent) c) - 1
        ≡ least_hold clock.n (window_links clock counts log) (group_of (window_links clock counts log) c)
    hold_is c =
        ap₂ (λ p l. least_label (clock.n + 1) p l (tree p c) - 1) (parents_are ends is) (labels_are ends is)
        ∙ sym (ap (least_hold clock.n (window_links clock counts log)) (group_is_tree ordered c) ∙ tree_hold ordered _)

    pub forest_groups : {roots : List ℕ} {t : Tallies} {count : ℕ} → AtRoots clock.n f.parent f.label roots t
        → count ≡ length (window_links clock counts log) → groups_at roots t count ≡ groups_of clock counts log
    unfolding groups_at groups_of
    forest_groups told many = λ i.
        record {
          first = of_cells_agree _ _ (λ c h. first_at told h ∙ ap smallest (tree_is c)) i;
          count = of_cells_agree _ _ (λ c h. count_at told h ∙ ap length (tree_is c)) i;
          hold = of_cells_agree _ _ (λ c h. ap (λ l. l - 1) (least_at told h) ∙ hold_is c) i;
          links = many i;
        }
