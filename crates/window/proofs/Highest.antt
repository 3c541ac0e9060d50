-- The highest label: the links with label i or more chain two cells exactly when i is not above it.
--
-- With a lower label there are more links, so what is chained stays chained. So the first label from above at which the two
-- are chained is the largest, and they are chained at every label below it.
use Prim.Native.Nat.{ℕ, zero, suc, ◌≤◌, ◌<◌}
use mathlib.Core.Path.{◌≡◌, refl}
use mathlib.Core.Bool.{Bool, true, false, cond}
use mathlib.Core.List.{List, [], ◌∷◌}
use mathlib.Core.Logic.{◌↔◌, ⊎_elim}
use native.Mathlib.Omega.{arith}
use native.Mathlib.Nat.{le_refl, eq-or-lt_of_le}
use native.Mathlib.Decide.{dec_le, dec_lt}
use borrow.Author.Tests.{lt-ltb, le-ltb}
use Rattle.graph.specs.Link.{Linked, here, there, Chained, chains}
use Rattle.graph.specs.Forest.{Labelled, at_least}
use Rattle.graph.proofs.Chains.{chained_relink, chains_true, chains_false}
use Rattle.window.specs.Window.{links_from_label, highest}

-- with a lower label there are more links
linked_lower : (xs : List Labelled) {i j a b : ℕ} → i ≤ j → Linked a b (links_from_label j xs) → Linked a b (links_from_label i xs)
unfolding at_least
linked_lower [] h = λ l. l
linked_lower (x ∷ xs) {i} {j} {a} {b} h = go (dec_lt x.label i) (dec_lt x.label j) (linked_lower xs h)
  where
    kept : (Linked a b (links_from_label j xs) → Linked a b (links_from_label i xs))
        → Linked a b (x.link ∷ links_from_label j xs) → Linked a b (x.link ∷ links_from_label i xs)
    kept on (here e) = here e
    kept on (there l) = there (on l)

    go : Dec (x.label < i) → Dec (x.label < j) → (Linked a b (links_from_label j xs) → Linked a b (links_from_label i xs))
        → Linked a b (links_from_label j (x ∷ xs)) → Linked a b (links_from_label i (x ∷ xs))
    go (yes p) (yes q) on = rw (lt-ltb x.label i p, lt-ltb x.label j q) on
    go (yes p) (no q) on = absurd (omega arith)
    go (no p) (yes q) on = rw (le-ltb x.label i (omega arith), lt-ltb x.label j q) (λ l. there (on l))
    go (no p) (no q) on = rw (le-ltb x.label i (omega arith), le-ltb x.label j (omega arith)) (kept on)

module _ (xs : List Labelled) (a b : ℕ) where
  chained_lower : {i j : ℕ} → i ≤ j → Chained (links_from_label j xs) a b → Chained (links_from_label i xs) a b
  chained_lower h = chained_relink (λ x y. linked_lower xs h)

  -- where the links with label i or more chain the two, i is not above the highest label
  pub chained_highest : (j i : ℕ) → i ≤ j → Chained (links_from_label i xs) a b → i ≤ highest j xs a b
  unfolding highest
  chained_highest zero i h x = h
  chained_highest (suc j) i h x = go (chains (links_from_label (suc j) xs) a b) refl (λ l. chained_highest j i l x)
    where
      go : (t : Bool) → chains (links_from_label (suc j) xs) a b ≡ t → (i ≤ j → i ≤ highest j xs a b) → i ≤ cond t (suc j) (highest j xs a b)
      go true e on = h
      go false e on = ⊎_elim (λ q. absurd (chains_false _ a b e (rw q at x))) (λ l. on (omega arith)) (eq-or-lt_of_le h)

  -- from the highest label on, and from any below it, links chain the two
  pub highest_chained : (j i : ℕ) → 1 ≤ i → i ≤ highest j xs a b → Chained (links_from_label i xs) a b
  unfolding highest
  highest_chained zero i h l = absurd (omega arith)
  highest_chained (suc j) i h l = go (chains (links_from_label (suc j) xs) a b) refl (highest_chained j i h) l
    where
      go : (t : Bool) → chains (links_from_label (suc j) xs) a b ≡ t → (i ≤ highest j xs a b → Chained (links_from_label i xs) a b)
          → i ≤ cond t (suc j) (highest j xs a b) → Chained (links_from_label i xs) a b
      go true e on l = chained_lower l (chains_true _ a b e)
      go false e on l = on l

  -- both together
  pub highest_exactly : (j i : ℕ) → 1 ≤ i → i ≤ j → Chained (links_from_label i xs) a b ↔ (i ≤ highest j xs a b)
  highest_exactly j i low high = (chained_highest j i high, highest_chained j i low)

  pub highest_most : (j : ℕ) → highest j xs a b ≤ j
  unfolding highest
  highest_most zero = omega arith
  highest_most (suc j) = go (chains (links_from_label (suc j) xs) a b) (highest_most j)
    where
      go : (t : Bool) → highest j xs a b ≤ j → cond t (suc j) (highest j xs a b) ≤ suc j
      go true h = omega arith
      go false h = omega arith

  -- where links from no label above m on chain the two, the highest is not above m
  pub highest_below : (j m : ℕ) → ((i : ℕ) → m < i → Chained (links_from_label i xs) a b → ⊥) → highest j xs a b ≤ m
  highest_below j m apart = elim (dec_le (highest j xs a b) m) [
    | yes h ↦ h
    | no h ↦ absurd (apart (highest j xs a b) (omega arith) (highest_chained j _ (omega arith) (le_refl _)))
  ]
