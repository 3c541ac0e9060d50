-- What links put into three blank arrays from place 0 on leave there: their columns stand at the front, and the links that are
-- read from there are those that were put.
use Prim.Native.Nat.{ℕ, zero, suc, ◌≤◌}
use mathlib.Core.Path.{PathP, ◌≡◌, refl, sym, ap, ◌∙◌}
use mathlib.Core.HLevel.{is_prop→PathP}
use Rattle.std.proofs.Math.Bridge.{le_prop}
use mathlib.Core.List.{List, [], ◌∷◌, ◌++◌, map}
use native.Mathlib.Omega.{arith}
use native.Mathlib.Nat.{zero-add}
use lib.ListN.{length, take, drop, length-map, length-replicate}
use lib.Seq.{sets, sets-eq, take_at, length-sets}
use Rattle.graph.specs.Forest.{Labelled}
use Rattle.window.specs.declared.arrays.Links.{Links}
use Rattle.window.specs.Gathered.{ones_of, others_of, labels_of, LinksPut, Put, blank, NoLinks, array_links_at, array_links}

-- the columns of the links stand at the front
pub record Fronts (xs : List Labelled) (r : ℕ) (ones others labels : List ℕ) : Type 0 where
  pub many : r ≡ length xs
  pub first : take r ones ≡ ones_of xs
  pub second : take r others ≡ others_of xs
  pub third : take r labels ≡ labels_of xs

read_shift : (a b c : ℕ) (ones others labels : List ℕ) (i n : ℕ)
    → array_links_at (a ∷ ones) (b ∷ others) (c ∷ labels) (suc i) n ≡ array_links_at ones others labels i n
unfolding array_links_at
read_shift a b c ones others labels i zero = refl
read_shift a b c ones others labels i (suc n) = rw (read_shift a b c ones others labels (suc i) n)

read_front : (xs : List Labelled) (us vs ws : List ℕ) → array_links (ones_of xs ++ us) (others_of xs ++ vs) (labels_of xs ++ ws) (length xs) ≡ xs
unfolding array_links_at
read_front [] us vs ws = refl
read_front (x ∷ xs) us vs ws =
    ap (λ ys. x ∷ ys)
    (read_shift x.link.one x.link.other x.label (ones_of xs ++ us) (others_of xs ++ vs) (labels_of xs ++ ws) 0 (length xs)
    ∙ read_front xs us vs ws)

-- two that are put from the same are equal: whatever the arrays were, one result is allowed
pub put_single : {xs : List Labelled} {at : ℕ} (before l m : Links) → Put xs at before l → Put xs at before m → l ≡ m
put_single before l m p q = λ i. record { ones = ones i; others = others i; labels = labels i; count = count i; few = few i }
  where
    ones : l.ones ≡ m.ones
    ones = p.first ∙ sym q.first

    others : l.others ≡ m.others
    others = p.second ∙ sym q.second

    labels : l.labels ≡ m.labels
    labels = p.third ∙ sym q.third

    count : l.count ≡ m.count
    count = p.until ∙ sym q.until

    few : PathP (λ i. count i ≤ 4096) l.few m.few
    few = is_prop→PathP (λ i. count i ≤ 4096) (λ i. le_prop) l.few m.few

-- there is one way to have no links
pub none_single : (l m : Links) → NoLinks l → NoLinks m → l ≡ m
none_single l m p q = put_single l l m (nothing_put l p) (nothing_put m q)
  where
    nothing_put : (l' : Links) → NoLinks l' → Put [] 0 l l'
    nothing_put l' n = record { until = n.until; first = n.first ∙ sym p.first; second = n.second ∙ sym p.second; third = n.third ∙ sym p.third }

-- the links that were put where there were none before
pub put_first : {xs : List Labelled} {none : Links} → NoLinks none → {count : ℕ} {ones others labels : List ℕ}
    → LinksPut xs 0 none.ones none.others none.labels count ones others labels → LinksPut xs 0 blank blank blank count ones others labels
put_first n put = rw (n.first, n.second, n.third) at put

module _ {xs : List Labelled} {count : ℕ} {ones others labels : List ℕ} (put : LinksPut xs 0 blank blank blank count ones others labels) where
  blank_long : length blank ≡ 4096
  blank_long = length-replicate {A = ℕ} 4096 0

  pub put_many : count ≡ length xs
  put_many = omega (arith, put.until)

  -- the arrays are as long as before
  pub put_long : (4096 ≡ length ones) × (4096 ≡ length others) × (4096 ≡ length labels)
  put_long =
      (column ones (ones_of xs) put.first, column others (others_of xs) put.second, column labels (labels_of xs) put.third)
    where
      column : (l vs : List ℕ) → l ≡ sets blank 0 vs → 4096 ≡ length l
      column l vs e = sym (ap length e ∙ length-sets blank 0 vs ∙ blank_long)

  module _ (few : length xs ≤ 4096) where
    -- what stands behind the links is blank
    abbrev behind : List ℕ
    behind = drop (length xs) blank

    column_put : (f : Labelled → ℕ) (l : List ℕ) → l ≡ sets blank 0 (map f xs) → l ≡ map f xs ++ behind
    column_put f l e =
        e
        ∙ sets-eq (map f xs) blank 0 (omega (arith, length-map xs f, blank_long))
        ∙ ap (λ n. map f xs ++ drop n blank) (zero-add (length (map f xs)) ∙ length-map xs f)

    pub put_fronts : Fronts xs count ones others labels
    put_fronts =
        record {
          many = put_many;
          first = column (λ x. x.link.one) ones put.first;
          second = column (λ x. x.link.other) others put.second;
          third = column (λ x. x.label) labels put.third;
        }
      where
        column : (f : Labelled → ℕ) (l : List ℕ) → l ≡ sets blank 0 (map f xs) → take count l ≡ map f xs
        column f l e = ap (take count) (column_put f l e) ∙ take_at (map f xs) behind count (length-map xs f ∙ sym put_many)

    pub put_read : array_links ones others labels count ≡ xs
    put_read =
        rw (
          put_many,
          column_put (λ x. x.link.one) ones put.first,
          column_put (λ x. x.link.other) others put.second,
          column_put (λ x. x.label) labels put.third,
        )
        (read_front xs behind behind behind)
