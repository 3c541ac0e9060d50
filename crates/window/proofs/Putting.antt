-- Links put into three arrays part by part: no links, one more link, and some links after others. The pairs of a slide are put so, and the
-- slides of the window.
use Rattle.std.proofs.Common.{ℕ, suc, ◌+◌, ◌<◌, ◌≡◌, true, false, List, [], ◌∷◌, ◌++◌, map, refl, ◌∙◌, length, get_or, take, set, length-append, add-zero, arith}
use Rattle.std.proofs.lemmas.List.{map-append}
use native.Mathlib.Nat.{add-suc, suc-add}
use lib.Seq.{sets}
use Rattle.graph.specs.Link.{Link}
use Rattle.graph.specs.Forest.{Labelled}
use Rattle.book_state.specs.Log.{keep, labelled}
use Rattle.book_state.specs.Numbers.{are_cells_of}
use Rattle.window.specs.Pairs.{pair_link, links_of_pairs}
use Rattle.window.specs.Gathered.{LinksPut}
use Rattle.window.proofs.Pairs.{pairs_more}

pub put_none : {at : ℕ} {ones others labels : List ℕ} → LinksPut [] at ones others labels at ones others labels
put_none = record { until = omega arith; first = refl; second = refl; third = refl }

put_one : (x : Labelled) {at : ℕ} {ones others labels : List ℕ}
    → LinksPut (x ∷ []) at ones others labels (at + 1) (set ones at x.link.one) (set others at x.link.other) (set labels at x.label)
put_one x = record { until = omega arith; first = refl; second = refl; third = refl }

sets_on : (f : Labelled → ℕ) (ys zs : List Labelled) (l : List ℕ) (i : ℕ)
    → sets (sets l i (map f ys)) (i + length ys) (map f zs) ≡ sets l i (map f (ys ++ zs))
sets_on f [] zs l i = rw (add-zero i)
sets_on f (y ∷ ys) zs l i = rw (add-suc i (length ys), ← suc-add i (length ys)) (sets_on f ys zs (set l i (f y)) (suc i))

-- some links after others
pub put_then : {xs ys : List Labelled} {at end end' : ℕ} {ones others labels ones' others' labels' ones'' others'' labels'' : List ℕ}
    → LinksPut xs at ones others labels end ones' others' labels' → LinksPut ys end ones' others' labels' end' ones'' others'' labels''
    → LinksPut (xs ++ ys) at ones others labels end' ones'' others'' labels''
put_then {xs} {ys} {at} {end} {ones = ones} {others = others} {labels = labels} p q =
    record {
      until = omega (arith, p.until, q.until, length-append xs ys);
      first = column (λ x. x.link.one) ones p.first q.first;
      second = column (λ x. x.link.other) others p.second q.second;
      third = column (λ x. x.label) labels p.third q.third;
    }
  where
    column : (f : Labelled → ℕ) (l : List ℕ) {l' l'' : List ℕ} → l' ≡ sets l at (map f xs) → l'' ≡ sets l' end (map f ys) → l'' ≡ sets l at (map f (xs ++ ys))
    column f l e e' = e' ∙ rw (e, p.until) (sets_on f xs ys l at)

-- ---- pair by pair

abbrev pair : (ps : List (List ℕ)) (i : ℕ) → Link
pair ps i = pair_link (get_or ps i [])

module _ (label : ℕ) (ps : List (List ℕ)) (i : ℕ) (more : i < length ps) {at end : ℕ} {ones others labels ones' others' labels' : List ℕ}
    (p : LinksPut (map (labelled label) (links_of_pairs (take i ps))) at ones others labels end ones' others' labels') where
  further : {end' : ℕ} {ones'' others'' labels'' : List ℕ}
      → LinksPut (map (labelled label) (keep (pair ps i) [])) end ones' others' labels' end' ones'' others'' labels''
      → LinksPut (map (labelled label) (links_of_pairs (take (i + 1) ps))) at ones others labels end' ones'' others'' labels''
  further q = rw (pairs_more ps i more, map-append (labelled label) (links_of_pairs (take i ps)) (keep (pair ps i) [])) (put_then p q)

  -- a pair of cells is one link more
  pub put_link : are_cells_of (pair ps i).one (pair ps i).other ≡ true
      → LinksPut (map (labelled label) (links_of_pairs (take (i + 1) ps))) at ones others labels
      (end + 1) (set ones' end (pair ps i).one) (set others' end (pair ps i).other) (set labels' end label)
  put_link e = further (rw e (put_one (labelled label (pair ps i))))

  -- and any other pair is none
  pub put_no_link : are_cells_of (pair ps i).one (pair ps i).other ≡ false
      → LinksPut (map (labelled label) (links_of_pairs (take (i + 1) ps))) at ones others labels end ones' others' labels'
  put_no_link e = further (rw e put_none)
