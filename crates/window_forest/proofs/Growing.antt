-- Links of three arrays united into a fresh forest, the first of them first: to unite all of them from where it began is to
-- unite what is left from where the loop stands.
use Prim.Native.Nat.{ℕ, suc, ◌+◌, ◌-◌, ◌≤◌, ◌<◌}
use mathlib.Core.Path.{◌≡◌, refl, sym, ap, ◌∙◌}
use mathlib.Core.List.{List, [], ◌∷◌, reverse, reverse-cons}
use native.Mathlib.Omega.{arith}
use lib.ListN.{get_or}
use Rattle.graph.specs.Forest.{Labelled}
use Rattle.forest.specs.Arrays.{fresh_parents_of, fresh_sizes_of, fresh_labels_of}
use Rattle.forest_unite.specs.United.{United}
use Rattle.book_state.specs.Arrays.{cells, step_limit, Arrays, arrays_of, united, united_all}
use Rattle.book_state.proofs.Passes.{Parts, counted_parts, united_append}
use Rattle.window.specs.Gathered.{array_link, array_links_at, array_links}
use Rattle.window_forest.specs.LinkForest.{grown_arrays, grown_from}

module _ (ones others labels : List ℕ) (count : ℕ) where
  -- the links from link i on
  abbrev rest : ℕ → List Labelled
  rest i = array_links_at ones others labels i (count - i)

  parts : Parts count (λ i. array_link ones others labels i ∷ []) rest
  unfolding array_links_at
  parts = counted_parts count _ (array_links_at ones others labels) (λ i. refl) (λ i more. let on : i + 1 ≡ suc i = omega arith in rw on)

  -- the first i links are united
  pub record Growing (now : Arrays) (i : ℕ) : Type 0 where
    pub within : i ≤ count
    pub left : united_all now (reverse (rest i)) ≡ grown_arrays (array_links ones others labels count)

  pub growing_none : {ps ss ls : List ℕ} → ps ≡ fresh_parents_of cells → ss ≡ fresh_sizes_of cells → ls ≡ fresh_labels_of cells → Growing (arrays_of ps ss ls) 0
  growing_none p s l = let all : count - 0 ≡ count = omega arith in record { within = omega arith; left = rw (all, p, s, l) }

  pub growing_one : {ps ss ls ps' ss' ls' : List ℕ} {i : ℕ} → Growing (arrays_of ps ss ls) i → i < count
      → United ps ss ls step_limit (get_or ones i 0) (get_or others i 0) (get_or labels i 0) ps' ss' ls' → Growing (arrays_of ps' ss' ls') (i + 1)
  unfolding united united_all
  growing_one {ps} {ss} {ls} {ps'} {ss'} {ls'} {i} g h u = record { within = omega arith; left = sym one ∙ g.left }
    where
      x : Labelled
      x = array_link ones others labels i

      made : united (arrays_of ps ss ls) x ≡ arrays_of ps' ss' ls'
      made = simp (u.parents, u.sizes, u.labels)

      one : united_all (arrays_of ps ss ls) (reverse (rest i)) ≡ united_all (arrays_of ps' ss' ls') (reverse (rest (i + 1)))
      one =
          ap (λ xs. united_all (arrays_of ps ss ls) (reverse xs)) (parts.next i h)
          ∙ ap (united_all (arrays_of ps ss ls)) (reverse-cons x (rest (i + 1)))
          ∙ united_append (arrays_of ps ss ls) (reverse (rest (i + 1))) (x ∷ [])
          ∙ ap (λ a. united_all a (reverse (rest (i + 1)))) made

  pub growing_all : {ps ss ls : List ℕ} {i : ℕ} → Growing (arrays_of ps ss ls) i → count ≤ i
      → record { parent = ps; label = ls } ≡ grown_from (array_links ones others labels count)
  unfolding united_all grown_from
  growing_all {ps} {ss} {ls} {i} g h = λ j. record { parent = (all j).parents; label = (all j).labels }
    where
      none : rest i ≡ []
      none = let e : i ≡ count = omega (arith, g.within) in rw e parts.none

      all : arrays_of ps ss ls ≡ grown_arrays (array_links ones others labels count)
      all = sym (ap (λ xs. united_all (arrays_of ps ss ls) (reverse xs)) none) ∙ g.left
