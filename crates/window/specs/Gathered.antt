-- Links in three arrays, as the functions of this crate hand them on: link i joins ones[i] and others[i] and has the label
-- labels[i].
use Rattle.std.specs.Prelude.{ℕ, zero, suc, ◌+◌, ◌≡◌, List, [], ◌∷◌, map, length, get_or, replicate}
use Rattle.std.proofs.lemmas.List.Edits.{sets}
use Rattle.numbers.specs.Kinds.{Cell, Labels}
use Rattle.graph.specs.Forest.{Labelled}
use Rattle.book_state.specs.Log.{labelled}
use Rattle.window.specs.declared.arrays.Links.{Links}

abbrev pub ones_of : (links : List Labelled) → List Cell
ones_of xs = map (λ x. x.link.one) xs

abbrev pub others_of : (links : List Labelled) → List Cell
others_of xs = map (λ x. x.link.other) xs

abbrev pub labels_of : (links : List Labelled) → Labels
labels_of xs = map (λ x. x.label) xs

-- the three arrays after the links were put into them, the first at place `at`; `end` is the place after the last
pub record LinksPut (links : List Labelled) (at : ℕ) (ones others labels : List ℕ) (end : ℕ) (ones' others' labels' : List ℕ) : Type 0 where
  pub until : end ≡ at + length links
  pub first : ones' ≡ sets ones at (ones_of links)
  pub second : others' ≡ sets others at (others_of links)
  pub third : labels' ≡ sets labels at (labels_of links)

-- the same of the arrays as they stand together
abbrev pub Put : (links : List Labelled) (at : ℕ) (before after : Links) → Type 0
Put xs at before after = LinksPut xs at before.ones before.others before.labels after.count after.ones after.others after.labels

-- an array before links are put into it
abbrev pub blank : List ℕ
blank = replicate 4096 0

pub record NoLinks (links : Links) : Type 0 where
  pub until : links.count ≡ 0
  pub first : links.ones ≡ blank
  pub second : links.others ≡ blank
  pub third : links.labels ≡ blank

-- link i of the arrays
abbrev pub array_link : (ones others : List Cell) (labels : Labels) (i : ℕ) → Labelled
array_link ones others labels i = labelled (get_or labels i 0) (record { one = get_or ones i 0; other = get_or others i 0 })

-- `count` links of the arrays, from link i on
unfoldable pub array_links_at : (ones others : List Cell) (labels : Labels) (i count : ℕ) → List Labelled
array_links_at ones others labels i zero = []
array_links_at ones others labels i (suc more) = array_link ones others labels i ∷ array_links_at ones others labels (suc i) more

-- the first `count` links
abbrev pub array_links : (ones others : List Cell) (labels : Labels) (count : ℕ) → List Labelled
array_links ones others labels count = array_links_at ones others labels 0 count
