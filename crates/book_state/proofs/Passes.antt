-- Passes over links, one part a turn, forwards or backwards: all that such a pass uses is that the links from part i on are
-- part i and then the links from part i + 1 on. The pairs of a log place are such parts, and so are the places of a chunk.
use Prim.Native.Nat.{ℕ, suc, ◌+◌, ◌-◌, ◌*◌, ◌<◌}
use mathlib.Core.Path.{◌≡◌, refl, ap}
use mathlib.Core.Bool.{Bool, true, false, cond, ◌&&◌}
use mathlib.Core.List.{List, [], ◌∷◌, ◌++◌, map}
use native.Mathlib.Omega.{arith}
use lib.Dec.{ltb}
use Rattle.numbers.specs.Kinds.{Counts, Label, Log}
use Rattle.graph.specs.Link.{Link}
use Rattle.graph.specs.Forest.{Labelled}
use Rattle.book_state.specs.Arrays.{cells, Arrays, united, united_all}
use Rattle.book_state.specs.Log.{keep, pair_at, labelled, links_at, place_links, chunk_links}

-- `rest i` are the links from part i on, of `count` parts
pub record Parts (count : ℕ) (part rest : (i : ℕ) → List Labelled) : Type 0 where
  pub next : (i : ℕ) → i < count → rest i ≡ part i ++ rest (i + 1)
  pub none : rest count ≡ []

-- lists by their first part and their number of parts
pub counted_parts : (count : ℕ) (part : ℕ → List Labelled) (parts : (first count : ℕ) → List Labelled)
    → ((i : ℕ) → parts i 0 ≡ []) → ((i more : ℕ) → parts i (suc more) ≡ part i ++ parts (i + 1) more)
    → Parts count part (λ i. parts i (count - i))
counted_parts count part parts empty front = record { next = next; none = none }
  where
    next : (i : ℕ) → i < count → parts i (count - i) ≡ part i ++ parts (i + 1) (count - (i + 1))
    next i h = let one : count - i ≡ suc (count - (i + 1)) = omega arith in rw one (front i (count - (i + 1)))

    none : parts count (count - count) ≡ []
    none = let e : count - count ≡ 0 = omega arith in rw e (empty count)

-- ---- the pairs of a log place

module _ (label : Label) (log : Log) (start : ℕ) where
  -- the link of pair i; none, where an entry is no cell
  abbrev pub pair_links : (i : ℕ) → List Labelled
  pair_links i = map (labelled label) (keep (pair_at log (start + 2 * i)) [])

  -- the links of `count` pairs, from pair i on
  abbrev pub pairs_from : (count i : ℕ) → List Labelled
  pairs_from count i = map (labelled label) (links_at log (start + 2 * i) (count - i))

  pub pair_parts : (count : ℕ) → Parts count pair_links (pairs_from count)
  unfolding links_at
  pair_parts count = counted_parts count pair_links (λ i more. map (labelled label) (links_at log (start + 2 * i) more)) (λ i. refl) front
    where
      kept : (l : Link) (ls : List Link) → map (labelled label) (keep l ls) ≡ map (labelled label) (keep l []) ++ map (labelled label) ls
      kept l ls = go (ltb l.one cells && ltb l.other cells)
        where
          go : (t : Bool) → map (labelled label) (cond t (l ∷ ls) ls) ≡ map (labelled label) (cond t (l ∷ []) []) ++ map (labelled label) ls
          go true = refl
          go false = refl

      front : (i more : ℕ) → map (labelled label) (links_at log (start + 2 * i) (suc more))
          ≡ pair_links i ++ map (labelled label) (links_at log (start + 2 * (i + 1)) more)
      front i more = let on : start + 2 * (i + 1) ≡ start + 2 * i + 2 = omega arith in rw on (kept (pair_at log (start + 2 * i)) (links_at log (start + 2 * i + 2) more))

-- ---- the places of a chunk

pub place_parts : (counts : Counts) (log : Log) (half n : ℕ)
    → Parts n (λ place. map (labelled place) (place_links counts log half place)) (λ place. chunk_links counts log half place (n - place))
unfolding chunk_links
place_parts counts log half n = counted_parts n _ (chunk_links counts log half) (λ i. refl) (λ i more. let on : i + 1 ≡ suc i = omega arith in rw on)

-- ---- links united

-- the links of a second list are united first
pub united_append : (a : Arrays) (xs ys : List Labelled) → united_all a (xs ++ ys) ≡ united_all (united_all a ys) xs
unfolding united_all
united_append a [] ys = refl
united_append a (x ∷ xs) ys = ap (λ b. united b x) (united_append a xs ys)
