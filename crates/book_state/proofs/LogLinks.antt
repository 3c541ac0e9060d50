-- The links that a log holds, whatever stands in it: both ends of each are cells, since a pair with an entry that is no cell is no
-- link; and the labels of a chunk's links are its places.
use Prim.Native.Nat.{ℕ, zero, suc, ◌+◌, ◌*◌, ◌≤◌, ◌<◌}
use mathlib.Core.Path.{◌≡◌, refl, ap, ◌∙◌}
use mathlib.Core.Bool.{Bool, true, false, cond, ◌&&◌}
use mathlib.Core.List.{List, [], ◌∷◌, ◌++◌, map}
use native.Mathlib.Omega.{arith}
use borrow.Author.Tests.{ltb-true}
use lib.Dec.{ltb}
use Rattle.numbers.specs.Kinds.{Counts, Log}
use Rattle.graph.specs.Link.{Link}
use Rattle.graph.specs.Forest.{Labelled, Each, empty, also, EndsBelow}
use Rattle.book_state.specs.Arrays.{cells}
use Rattle.book_state.specs.Log.{keep, pair_at, labelled, links_at, place_links, chunk_links}

pub each_append : {P : Labelled → Type 0} {xs ys : List Labelled} → Each P xs → Each P ys → Each P (xs ++ ys)
each_append empty qs = qs
each_append (also p ps) qs = also p (each_append ps qs)

pub each_labelled : (P : ℕ → Type 0) (label : ℕ) → P label → (ls : List Link) → Each (λ x. P x.label) (map (labelled label) ls)
each_labelled P label p [] = empty
each_labelled P label p (l ∷ ls) = also p (each_labelled P label p ls)

-- ---- the pairs of a log place

pub keep_append : (l : Link) (xs ys : List Link) → keep l (xs ++ ys) ≡ keep l xs ++ ys
keep_append l xs ys = go (ltb l.one cells && ltb l.other cells)
  where
    go : (t : Bool) → cond t (l ∷ (xs ++ ys)) (xs ++ ys) ≡ cond t (l ∷ xs) xs ++ ys
    go true = refl
    go false = refl

-- one pair more
pub links_more : (log : List ℕ) (start i : ℕ) → links_at log start (i + 1) ≡ links_at log start i ++ keep (pair_at log (start + 2 * i)) []
unfolding links_at
links_more log start i = let e : i + 1 ≡ suc i = omega arith in rw e (go start i)
  where
    go : (start i : ℕ) → links_at log start (suc i) ≡ links_at log start i ++ keep (pair_at log (start + 2 * i)) []
    go start zero = let e : start + 2 * 0 ≡ start = omega arith in rw e
    go start (suc i) =
        let e : start + 2 * suc i ≡ start + 2 + 2 * i = omega arith in
        rw e (ap (keep (pair_at log start)) (go (start + 2) i) ∙ keep_append (pair_at log start) (links_at log (start + 2) i) _)

-- a pair with an entry that is no cell is no link
pub kept_cells : (label : ℕ) (log : List ℕ) (at n : ℕ) → EndsBelow cells (map (labelled label) (links_at log at n))
unfolding links_at
kept_cells label log at zero = empty
kept_cells label log at (suc n) = go (ltb (pair_at log at).one cells) (ltb (pair_at log at).other cells) refl refl (kept_cells label log (at + 2) n)
  where
    go : (t u : Bool) → ltb (pair_at log at).one cells ≡ t → ltb (pair_at log at).other cells ≡ u
        → EndsBelow cells (map (labelled label) (links_at log (at + 2) n))
        → EndsBelow cells (map (labelled label) (cond (t && u) (pair_at log at ∷ links_at log (at + 2) n) (links_at log (at + 2) n)))
    go true true p q on = also (ltb-true _ _ p, ltb-true _ _ q) on
    go true false p q on = on
    go false u p q on = on

-- ---- the places of a chunk

module _ (counts : Counts) (log : Log) (half : ℕ) where
  each_place : {P : Labelled → Type 0} (place more : ℕ)
      → ((p : ℕ) → p < place + more → Each P (map (labelled p) (place_links counts log half p))) → Each P (chunk_links counts log half place more)
  unfolding chunk_links
  each_place place zero g = empty
  each_place place (suc more) g = each_append (g place (omega arith)) (each_place (suc place) more (λ p h. g p (omega arith)))

  pub chunk_cells : (place more : ℕ) → EndsBelow cells (chunk_links counts log half place more)
  chunk_cells place more = each_place place more (λ p h. kept_cells p log _ _)

  pub chunk_labels : (place more m : ℕ) → place + more ≤ suc m → Each (λ x. x.label ≤ m) (chunk_links counts log half place more)
  chunk_labels place more m e = each_place place more (λ p h. each_labelled (λ l. l ≤ m) p (omega arith) (place_links counts log half p))
