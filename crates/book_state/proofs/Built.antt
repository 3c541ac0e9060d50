-- A forest built in lists: links united into fresh lists one after the other leave lists that hold the forest of those links.
-- At each link the lists are in their ranges, since they hold a forest of links between cells; so one link more is graph's
-- `unite` (the crate forest).
use Prim.Native.Nat.{ℕ, ◌≤◌, ◌<◌}
use mathlib.Core.Path.{◌≡◌, ◌∙◌, ap, subst⁻¹}
use Rattle.std.specs.Prelude.{Option}
use mathlib.Core.Bool.{true}
use mathlib.Core.List.{List, [], ◌∷◌, reverse, reverse_aux}
use native.Mathlib.Omega.{arith}
use native.Mathlib.Nat.{le_refl}
use borrow.Author.Tests.{le-leb}
use lib.Dec.{leb}
use lib.ListN.{length, length-replicate}
use Rattle.graph.specs.Forest.{Labelled, Each, empty, also, EndsBelow, unite, forest_of}
use Rattle.graph.proofs.Cut.{label_bounded}
use Rattle.graph.proofs.Forests.{grown}
use Rattle.graph.proofs.Sizes.{Grown}
use Rattle.forest.specs.Arrays.{places, parent_in, size_in, label_in, held}
use Rattle.forest_unite.specs.United.{merge_of_lem}
use Rattle.forest_check.specs.Sound.{sound_of, labels_within_of}
use Rattle.forest_check.proofs.Every.{each_every}
use Rattle.forest_unite.specs.declared.Merge.{Merge}
use Rattle.forest.proofs.Fill.{length_count_from}
use Rattle.forest.proofs.Ranged.{Ranged}
use Rattle.forest.proofs.Held.{held_fresh}
use Rattle.forest_unite.proofs.United.{held_unite, merged_parents_length, merged_sizes_length, merged_labels_length}
use Rattle.book_state.specs.Arrays.{cells, step_limit, Arrays, fresh_arrays, united, united_all}
use Rattle.book_state.proofs.Grown.{GrownIn, relabelled, grown_ranged, grown_sound}

-- ---- each of a list, from its end

each_onto : {P : Labelled → Type 0} {xs ys : List Labelled} → Each P xs → Each P ys → Each P (reverse_aux xs ys)
each_onto empty on = on
each_onto (also p ps) on = each_onto ps (also p on)

pub each_reverse : {P : Labelled → Type 0} {xs : List Labelled} → Each P xs → Each P (reverse xs)
each_reverse ps = each_onto ps empty

-- ---- lists that hold a forest

module _ (ps ss : List ℕ) {xs : List Labelled} (long : (length ps ≡ places) × (length ss ≡ places))
    (parents : parent_in ps ≡ (forest_of step_limit xs).parent) (sizes : size_in ss ≡ (forest_of step_limit xs).size) (below : EndsBelow cells xs) where
  forest_grown : GrownIn ps ss
  forest_grown =
      record {
        parents_long = long.0;
        sizes_long = long.1;
        grown =
            subst⁻¹ (λ up. Grown step_limit (record { parent = up; size = size_in ss; label = label_in [] })) parents
            (subst⁻¹ (λ size. Grown step_limit (record { parent = (forest_of step_limit xs).parent; size = size; label = label_in [] })) sizes
            (relabelled (label_in []) (grown (le_refl step_limit) below)));
      }

  pub forest_sound : sound_of ps ss step_limit ≡ true
  forest_sound = grown_sound forest_grown

-- labels are those of the links
pub forest_labels : (ls : List ℕ) {xs : List Labelled} → label_in ls ≡ (forest_of step_limit xs).label → EndsBelow cells xs
    → (m : ℕ) → Each (λ x. x.label ≤ m) xs → labels_within_of ls m ≡ true
forest_labels ls labels below m small =
    each_every (λ c x. leb x m) ls
    (λ c h. le-leb _ m (subst⁻¹ (λ label. label c ≤ m) labels (label_bounded (le_refl step_limit) below m small c)))

-- ---- links united one after the other

-- the lists hold the forest of the links
pub record Holds (xs : List Labelled) (a : Arrays) : Type 0 where
  pub parents_long : length a.parents ≡ places
  pub sizes_long : length a.sizes ≡ places
  pub labels_long : length a.labels ≡ places
  pub holds : held a.parents a.sizes a.labels ≡ forest_of step_limit xs

pub holds_fresh : Holds [] fresh_arrays
unfolding forest_of
holds_fresh =
    record {
      parents_long = length_count_from 0 places;
      sizes_long = length-replicate {A = ℕ} places 1;
      labels_long = length-replicate {A = ℕ} places 0;
      holds = held_fresh places;
    }

-- one link more
module _ (x : Labelled) {xs : List Labelled} {a : Arrays} (cell : (x.link.one < cells) × (x.link.other < cells))
    (ends : EndsBelow cells xs) (on : Holds xs a) where
  ranged : Ranged cells a.parents a.sizes
  ranged =
      grown_ranged
      (forest_grown a.parents a.sizes (on.parents_long, on.sizes_long) (ap (λ f. f.parent) on.holds) (ap (λ f. f.size) on.holds) ends)

  as_forest : unite step_limit (held a.parents a.sizes a.labels) x ≡ forest_of step_limit (x ∷ xs)
  unfolding forest_of
  as_forest = ap (λ f. unite step_limit f x) on.holds

  pub holds_more : Holds (x ∷ xs) (united a x)
  unfolding united
  holds_more =
      record {
        parents_long = merged_parents_length a.parents h ∙ on.parents_long;
        sizes_long = merged_sizes_length a.sizes h ∙ on.sizes_long;
        labels_long = merged_labels_length a.labels h x.label ∙ on.labels_long;
        holds =
            held_unite a.parents a.sizes a.labels x.label ranged (omega arith) (omega (arith, on.labels_long)) step_limit x.link
            cell.0 cell.1
            ∙ as_forest;
      }
    where
      h : Option Merge
      h = merge_of_lem a.parents a.sizes step_limit x.link.one x.link.other

pub holds_all : {xs : List Labelled} → EndsBelow cells xs → Holds xs (united_all fresh_arrays xs)
unfolding united_all
holds_all empty = holds_fresh
holds_all (also {x} cell ends) = holds_more x cell ends (holds_all ends)
