-- Lists that hold a grown forest (`Grown` of the crate graph): each step of a walk at least doubles the size, and the sizes of the roots
-- add up to the cells. Number 1 lets such lists pass, and one link more leaves such lists, whatever made them. So number 1 never comes
-- from them, however many links are united into them. Of lists that are merely in order this is not true: with sizes that are too
-- small a link can make a walk too long.
use Prim.Native.Nat.{ℕ, ◌<◌}
use mathlib.Core.Path.{◌≡◌, sym, ◌∙◌, subst⁻¹}
use Rattle.std.specs.Prelude.{Option}
use mathlib.Core.Bool.{true}
use mathlib.Core.List.{List, []}
use native.Mathlib.Omega.{arith}
use native.Mathlib.Nat.{le_refl}
use lib.ListN.{length, length-replicate}
use borrow.Author.Tests.{eq-eqb}
use Rattle.graph.specs.Forest.{Forest, Labelled, unite}
use Rattle.graph.proofs.Walks.{way_ends, climb_way}
use Rattle.graph.proofs.Sizes.{Grown, fresh_grown}
use Rattle.graph.proofs.Forests.{united, united_grown}
use Rattle.forest.specs.Arrays.{places, parent_in, label_in, fresh_parents_of, fresh_sizes_of, fresh_labels_of, held}
use Rattle.forest.proofs.Fill.{length_count_from}
use Rattle.forest.proofs.Held.{held_fresh}
use Rattle.forest.proofs.Ranged.{Ranged}
use Rattle.forest_check.specs.Sound.{sound_of, ends}
use Rattle.forest_check.proofs.Facts.{ranged_sound}
use Rattle.forest_unite.specs.declared.Merge.{Merge}
use Rattle.forest_unite.specs.United.{merge_of_lem, merged_parents, merged_sizes}
use Rattle.forest_unite.proofs.United.{held_unite, merged_parents_length, merged_sizes_length}
use Rattle.book_state.specs.Arrays.{cells, step_limit}

pub record GrownIn (ps ss : List ℕ) : Type 0 where
  pub parents_long : length ps ≡ places
  pub sizes_long : length ss ≡ places
  pub grown : Grown step_limit (held ps ss [])

-- labels make no difference
pub relabelled : {f : Forest} (label : ℕ → ℕ) → Grown step_limit f → Grown step_limit (record { parent = f.parent; size = f.size; label = label })
relabelled label g = record { doubles = g.doubles; inside = g.inside; whole = g.whole }

pub grown_fresh : GrownIn (fresh_parents_of places) (fresh_sizes_of places)
grown_fresh =
    record {
      parents_long = length_count_from 0 places;
      sizes_long = length-replicate {A = ℕ} places 1;
      grown = relabelled (label_in []) (subst⁻¹ (Grown step_limit) (held_fresh places) (fresh_grown step_limit));
    }

module _ {ps ss : List ℕ} (g : GrownIn ps ss) where
  pub grown_ranged : Ranged cells ps ss
  grown_ranged =
      record {
        parents_long = omega (arith, g.parents_long);
        sizes_long = omega (arith, g.sizes_long);
        parent_below = g.grown.inside;
        size_from = λ c h. g.grown.doubles.positive c;
        size_to = λ c h. g.grown.doubles.bounded c;
      }

  grown_ends : (c : ℕ) → ends (parent_in ps) step_limit c ≡ true
  grown_ends c = eq-eqb _ _ (way_ends (climb_way g.grown.doubles step_limit c (le_refl step_limit)))

  pub grown_sound : sound_of ps ss step_limit ≡ true
  grown_sound = ranged_sound ps ss step_limit (g.sizes_long ∙ sym g.parents_long) (rw g.parents_long grown_ranged) (λ c h. grown_ends c)

  -- one link more
  module _ (one other : ℕ) (a : one < cells) (b : other < cells) where
    abbrev h : Option Merge
    h = merge_of_lem ps ss step_limit one other

    abbrev x : Labelled
    x = record { label = 0; link = record { one = one; other = other } }

    abbrev f : Forest
    f = held ps ss (fresh_labels_of places)

    after : Grown step_limit (unite step_limit f x)
    after =
        let before : Grown step_limit f = relabelled (label_in (fresh_labels_of places)) g.grown in
        let enough = le_refl step_limit in
        united_grown enough before (united enough before x (a, b))

    pub grown_united : GrownIn (merged_parents ps h) (merged_sizes ss h)
    grown_united =
        record {
          parents_long = merged_parents_length ps h ∙ g.parents_long;
          sizes_long = merged_sizes_length ss h ∙ g.sizes_long;
          grown =
              relabelled (label_in [])
              (subst⁻¹ (Grown step_limit)
              (held_unite ps ss (fresh_labels_of places) 0 grown_ranged (omega arith) (omega (arith, length-replicate {A = ℕ} places 0)) step_limit x.link a b)
              after);
        }
