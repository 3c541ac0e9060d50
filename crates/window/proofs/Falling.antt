-- Labels that never rise along a list: none is above the first, and read from the list's end they never fall, which is the
-- order that the cut of a forest wants (graph, Cut).
use Prim.Native.Nat.{ℕ, ◌≤◌, ◌<◌}
use mathlib.Core.Path.{◌≡◌, refl}
use mathlib.Core.List.{List, [], ◌∷◌, ◌++◌, map, reverse, reverse_aux}
use native.Mathlib.Nat.{le_refl, le_trans, lt_of_le_of_lt}
use borrow.Author.Tests.{lt-ltb}
use Rattle.graph.specs.Link.{Link}
use Rattle.graph.specs.Forest.{Labelled, at_least, Each, empty, also, NeverRise, start, lowest}
use Rattle.graph.proofs.Cut.{each_map}
use Rattle.book_state.specs.Log.{labelled}
use Rattle.window.specs.LabelsFall.{LabelsFall, none, next}

pub falls_higher : {m n : ℕ} {xs : List Labelled} → m ≤ n → LabelsFall m xs → LabelsFall n xs
falls_higher h none = none
falls_higher h (next l on) = next (le_trans l h) on

-- links of one label, and then lower ones
pub falls_slide : {m : ℕ} (label : ℕ) (ls : List Link) {xs : List Labelled} → label ≤ m → LabelsFall label xs
    → LabelsFall m (map (labelled label) ls ++ xs)
falls_slide label [] h on = falls_higher h on
falls_slide label (l ∷ ls) h on = next h (falls_slide label ls (le_refl label) on)

falls_onto : {m : ℕ} {xs ys : List Labelled} → LabelsFall m xs → Each (λ y. m ≤ y.label) ys → NeverRise ys → NeverRise (reverse_aux xs ys)
falls_onto none above rises = rises
falls_onto (next {x} l on) above rises =
    let low : Each (λ y. x.label ≤ y.label) _ = each_map (λ y. le_trans l) above in
    falls_onto on (also (le_refl x.label) low) (lowest low rises)

pub falls_reverse : {m : ℕ} {xs : List Labelled} → LabelsFall m xs → NeverRise (reverse xs)
falls_reverse on = falls_onto on empty start

-- none has a label above the first
pub falls_none : {m : ℕ} {xs : List Labelled} → LabelsFall m xs → (j : ℕ) → m < j → at_least j xs ≡ []
unfolding at_least
falls_none none j h = refl
falls_none (next {x} l on) j h = rw (lt-ltb x.label j (lt_of_le_of_lt l h)) (falls_none on j (lt_of_le_of_lt l h))
