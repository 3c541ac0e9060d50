-- The labelled forest that the code grows from the window's links is graph's forest of them, taken from the last link to the first;
-- chains do not depend on the order of the links.
use Prim.Native.Nat.{ℕ}
use mathlib.Core.Path.{◌≡◌, refl, ◌∙◌, ap}
use mathlib.Core.Bool.{Bool, true, false, cond}
use mathlib.Core.List.{List, [], ◌∷◌, map, reverse, reverse_aux}
use mathlib.Core.Logic.{◌↔◌, ◌⊎◌, inl, inr, ⊎_elim}
use lib.Dec.{ltb}
use lib.ListN.{length}
use Rattle.graph.specs.Link.{Link, Linked, here, there, Chained}
use Rattle.graph.specs.Forest.{Forest, Labelled, forest_of, at_least, EndsBelow}
use Rattle.graph.proofs.Chains.{chained_relink}
use Rattle.forest.specs.Arrays.{parent_in, label_in}
use Rattle.book_state.specs.Arrays.{cells, step_limit}
use Rattle.book_state.proofs.Built.{each_reverse, Holds, holds_all}
use Rattle.window.specs.Window.{links_from_label}
use Rattle.window_forest.specs.LinkForest.{grown_arrays, grown_from}
use Rattle.window_forest.specs.declared.LinkForest.{LinkForest}

-- ---- the order of links

links_onto : (cut : ℕ) (xs ys : List Labelled) → links_from_label cut (reverse_aux xs ys) ≡ reverse_aux (links_from_label cut xs) (links_from_label cut ys)
unfolding at_least
links_onto cut [] ys = refl
links_onto cut (x ∷ xs) ys = links_onto cut xs (x ∷ ys) ∙ go (ltb x.label cut)
  where
    go : (t : Bool) → reverse_aux (links_from_label cut xs) (map (λ y. y.link) (cond t (at_least cut ys) (x ∷ at_least cut ys)))
        ≡ reverse_aux (map (λ y. y.link) (cond t (at_least cut xs) (x ∷ at_least cut xs))) (links_from_label cut ys)
    go true = refl
    go false = refl

linked_onto : {a b : ℕ} (ls ms : List Link) → Linked a b (reverse_aux ls ms) → Linked a b ls ⊎ Linked a b ms
linked_onto [] ms h = inr h
linked_onto (l ∷ ls) ms h = ⊎_elim (λ k. inl (there k)) first (linked_onto ls (l ∷ ms) h)
  where
    first : {a b : ℕ} → Linked a b (l ∷ ms) → Linked a b (l ∷ ls) ⊎ Linked a b ms
    first (here e) = inl (here e)
    first (there k) = inr k

onto_linked : {a b : ℕ} (ls : List Link) {ms : List Link} → Linked a b ls ⊎ Linked a b ms → Linked a b (reverse_aux ls ms)
onto_linked [] (inl h) = elim h [ ]
onto_linked [] (inr h) = h
onto_linked (l ∷ ls) (inl (here e)) = onto_linked ls (inr (here e))
onto_linked (l ∷ ls) (inl (there h)) = onto_linked ls (inl h)
onto_linked (l ∷ ls) (inr h) = onto_linked ls (inr (there h))

pub chained_reverse : (cut : ℕ) (xs : List Labelled) {a b : ℕ} → Chained (links_from_label cut (reverse xs)) a b ↔ Chained (links_from_label cut xs) a b
unfolding at_least
chained_reverse cut xs = rw (links_onto cut xs []) (chained_relink (λ x y. back), chained_relink (λ x y h. onto_linked (links_from_label cut xs) (inl h)))
  where
    back : {x y : ℕ} → Linked x y (reverse (links_from_label cut xs)) → Linked x y (links_from_label cut xs)
    back h = ⊎_elim (λ k. k) (λ k. elim k [ ]) (linked_onto (links_from_label cut xs) [] h)

-- ---- the forest

-- links between cells, whose forest the code has grown
module _ {xs : List Labelled} (ends : EndsBelow cells xs) {f : LinkForest} (is : f ≡ grown_from xs) where
  -- the forest, taken from the last link to the first as `forest_of` does
  abbrev grown : Forest
  grown = forest_of step_limit (reverse xs)

  holds : Holds (reverse xs) (grown_arrays xs)
  holds = holds_all (each_reverse ends)

  pub parents_are : parent_in f.parent ≡ grown.parent
  unfolding grown_from
  parents_are = ap (λ g. parent_in g.parent) is ∙ ap (λ g. g.parent) holds.holds

  pub labels_are : label_in f.label ≡ grown.label
  unfolding grown_from
  labels_are = ap (λ g. label_in g.label) is ∙ ap (λ g. g.label) holds.holds

  pub parents_long : length f.parent ≡ cells
  unfolding grown_from
  parents_long = ap (λ g. length g.parent) is ∙ holds.parents_long
