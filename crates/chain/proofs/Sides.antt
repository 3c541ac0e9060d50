-- Links at the front of two arrays, as a trail is asked for over them.
use Prim.Native.Nat.{ℕ, zero, suc, ◌≤◌, ◌<◌}
use mathlib.Core.Path.{◌≡◌, refl, sym, ap, ◌∙◌}
use mathlib.Core.List.{List, [], ◌∷◌, map}
use native.Mathlib.Omega.{arith}
use lib.ListN.{length, take, length-map}
use Rattle.graph.specs.Link.{Chained}
use Rattle.graph.specs.Forest.{Labelled, Each, empty, also, EndsBelow}
use Rattle.graph.proofs.Cut.{each_map}
use Rattle.forest.specs.Arrays.{places}
use Rattle.window.specs.Gathered.{ones_of, others_of}
use Rattle.window.proofs.Gathered.{Fronts}
use Rattle.buckets.specs.Listed.{AllBelow}
use Rattle.chain_fewest.specs.Lists.{links_of}
use Rattle.chain_fewest.specs.Best.{TrailAskable}

side_links : (xs : List Labelled) → links_of (ones_of xs) (others_of xs) ≡ map (λ x. x.link) xs
unfolding links_of
side_links [] = refl
side_links (x ∷ xs) = ap (λ ls. x.link ∷ ls) (side_links xs)

side_below : {n : ℕ} {f : Labelled → ℕ} {xs : List Labelled} → Each (λ x. f x < n) xs → AllBelow n (map f xs)
side_below empty i h = absurd (omega arith)
side_below (also p ends) zero h = p
side_below (also p ends) (suc i) h = side_below ends i (omega arith)

module _ {xs : List Labelled} {count : ℕ} {ones others labels : List ℕ} (fronts : Fronts xs count ones others labels) where
  pub front_links : links_of (take count ones) (take count others) ≡ map (λ x. x.link) xs
  front_links = rw (fronts.first, fronts.second) (side_links xs)

  pub front_asked : {one other : ℕ} {chain : List ℕ} → EndsBelow places xs → length xs ≤ 4096 → one < places → other < places → places ≤ length chain
      → Chained (map (λ x. x.link) xs) one other → TrailAskable (take count ones) (take count others) one other chain
  front_asked ends few one_Cell other_cell room chained =
      rw (fronts.first, fronts.second)
      (record {
        few = rw (length-map xs (λ x. x.link.one)) few;
        even = length-map xs (λ x. x.link.other) ∙ sym (length-map xs (λ x. x.link.one));
        ones_inside = side_below (each_map (λ x p. p.0) ends);
        others_inside = side_below (each_map (λ x p. p.1) ends);
        one_inside = one_Cell;
        other_inside = other_cell;
        room = room;
        chained = rw (side_links xs) chained;
      })
