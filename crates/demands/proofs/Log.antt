-- The log: links depend on the entries at their own places alone, and a further link stands after those before it. Spots have 512
-- places each and do not overlap.
use Prim.Native.Nat.{ℕ, zero, suc, ◌+◌, ◌*◌, ◌≤◌, ◌<◌}
use mathlib.Core.Path.{◌≡◌, refl, sym, ◌∙◌, ap}
use mathlib.Core.List.{List, [], ◌∷◌, ◌++◌}
use mathlib.Core.Logic.{◌⊎◌, inl, inr}
use native.Mathlib.Omega.{arith}
use native.Mathlib.Numerals.{add-one}
use native.Mathlib.Decide.{dec_lt}
use lib.ListN.{length, get_or, set, length-set}
use lib.Seq.{get_or-set_same, get_or-set_other}
use borrow.Author.Tests.{lt-ltb}
use Rattle.graph.specs.Link.{Link}
use Rattle.book_state.specs.Arrays.{cells}
use Rattle.book_state.specs.Log.{start_of, keep, pair_at, links_at}
use Rattle.book_state.proofs.LogLinks.{links_more}

-- logs that agree on the places of the links hold the same links
links_same : (log log' : List ℕ) (at n : ℕ) → ((i : ℕ) → at ≤ i → i < at + (n + n) → get_or log i 0 ≡ get_or log' i 0)
    → links_at log at n ≡ links_at log' at n
unfolding links_at
links_same log log' at zero e = refl
links_same log log' at (suc n) e =
    let rest = links_same log log' (at + 2) n (λ i l h. e i (omega arith) (omega arith)) in
    rw (e at (omega arith) (omega arith), e (at + 1) (omega arith) (omega arith), rest)

keep_cells : (l : Link) (ls : List Link) → l.one < cells → l.other < cells → keep l ls ≡ l ∷ ls
keep_cells l ls one other = rw (lt-ltb _ _ one, lt-ltb _ _ other)

-- the last link stands at the end
links_last : (log : List ℕ) (at n : ℕ) → links_at log at (suc n) ≡ links_at log at n ++ keep (pair_at log (at + (n + n))) []
links_last log at n =
    let twice : 2 * n ≡ n + n = omega arith in
    ap (links_at log at) (sym (add-one n)) ∙ links_more log at n ∙ ap (λ i. links_at log at n ++ keep (pair_at log (at + i)) []) twice

-- ---- a pair of cells stored

abbrev pub paired : List ℕ → ℕ → Link → List ℕ
paired log at l = set (set log at l.one) (at + 1) l.other

module _ (log : List ℕ) (at : ℕ) (l : Link) where
  pub paired_long : length (paired log at l) ≡ length log
  paired_long = length-set (set log at l.one) (at + 1) l.other ∙ length-set log at l.one

  paired_other : (i : ℕ) → (i ≡ at → ⊥) → (i ≡ at + 1 → ⊥) → get_or (paired log at l) i 0 ≡ get_or log i 0
  paired_other i n m = get_or-set_other (set log at l.one) (at + 1) i l.other 0 m ∙ get_or-set_other log at i l.one 0 n

  paired_here : at + 1 < length log → pair_at (paired log at l) at ≡ l
  paired_here h =
      λ i.
      record {
        one =
            (get_or-set_other (set log at l.one) (at + 1) at l.other 0 (omega arith) ∙ get_or-set_same log at l.one 0 (omega arith)) i;
        other = get_or-set_same (set log at l.one) (at + 1) l.other 0 (rw length-set h) i;
      }

-- links elsewhere are as before
links_elsewhere : (log : List ℕ) (at : ℕ) (l : Link) (start n : ℕ) → (at + 1 < start) ⊎ (start + (n + n) ≤ at)
    → links_at (paired log at l) start n ≡ links_at log start n
links_elsewhere log at l start n (inl before) = links_same _ log start n (λ i a b. paired_other log at l i (omega arith) (omega arith))
links_elsewhere log at l start n (inr after) = links_same _ log start n (λ i a b. paired_other log at l i (omega arith) (omega arith))

-- and a link stored after n links is one link more
pub links_stored : (log : List ℕ) (start n : ℕ) (l : Link) → l.one < cells → l.other < cells → start + (n + n) + 1 < length log
    → links_at (paired log (start + (n + n)) l) start (suc n) ≡ links_at log start n ++ (l ∷ [])
links_stored log start n l one other h =
    let log' : List ℕ = paired log (start + (n + n)) l in
    links_last log' start n
    ∙ ap (λ p. links_at log' start n ++ keep p []) (paired_here log (start + (n + n)) l h)
    ∙ ap (λ ls. links_at log' start n ++ ls) (keep_cells l [] one other)
    ∙ ap (λ ls. ls ++ (l ∷ [])) (links_elsewhere log (start + (n + n)) l start n (inr (omega arith)))

-- a link stored at a spot with fewer than 256 links changes no other spot
pub links_other_spot : (log : List ℕ) (spot count : ℕ) (l : Link) (spot' count' : ℕ) → (spot' ≡ spot → ⊥) → count < 256 → count' ≤ 256
    → links_at (paired log (start_of spot + (count + count)) l) (start_of spot') count' ≡ links_at log (start_of spot') count'
links_other_spot log spot count l spot' count' n c c' = links_elsewhere log _ l (start_of spot') count' (side (dec_lt spot spot'))
  where
    side : Dec (spot < spot')
        → (start_of spot + (count + count) + 1 < start_of spot') ⊎ (start_of spot' + (count' + count') ≤ start_of spot + (count + count))
    side (yes h) = inl (omega arith)
    side (no h) = inr (omega arith)
