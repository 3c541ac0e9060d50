-- The smallest cell across a cell's links that has a number: found along the links of one side, then along those of the
-- other.
use Prim.Native.Nat.{ℕ, ◌-◌, ◌≤◌, ◌<◌, min}
use native.Mathlib.Nat.{min-le_left, min-le_right}
use native.Mathlib.Omega.{arith, min_cases}
use mathlib.Core.Path.{◌≡◌}
use mathlib.Core.List.{List}
use mathlib.Core.Logic.{◌⊎◌, inl, inr, ⊎_elim}
use lib.ListN.{length, get_or}
use Rattle.forest.specs.Arrays.{places}
use Rattle.graph.specs.Link.{Linked}
use Rattle.buckets.proofs.Walk.{Walked, walk_on, walked_map}
use Rattle.chain_fewest.specs.Joined.{LeadsOver, joined_by}
use Rattle.chain_fewest.specs.Descent.{Smaller, Nearer, NextCell}
use Rattle.chain_fewest.specs.declared.links.Side.{Side}
use Rattle.chain_fewest.specs.declared.links.Links.{Links}
use Rattle.chain_fewest.proofs.LinkLists.{leads_linked, either_side, back_joined, across_leads, leads_inside}

-- the walk along the cell's links has come to `link`, and found this cell
pub record Finding (side : Side) (remaining : List ℕ) (cell number best found link : ℕ) : Type 0 where
  pub low : found ≤ best
  pub is : (found ≡ best) ⊎ (LeadsOver side cell found × (get_or remaining found 0 ≡ number))
  pub walked :
      Walked side.from.now cell (λ i. get_or remaining (get_or side.to.now i 0) 0 ≡ number → found ≤ get_or side.to.now i 0) link

module _
    {side : Side} {remaining : List ℕ} {cell number best found found' link following across : ℕ}
    (f : Finding side remaining cell number best found link)
    (more : link < length side.from.now)
    (e : across ≡ get_or side.to.now link 0)
    (on : following ≡ get_or side.next.now link 0)
  where
    -- the cell across has the number: the smaller of the two is kept
    pub finding_takes :
        get_or remaining across 0 ≡ number →
        found' ≡ min found across → Finding side remaining cell number best found' following
    finding_takes has is =
        record {
          low = omega (arith, f.low, min-le_left found across);
          is = min_cases found across _ (λ le m. rw (is, m) f.is) (λ le m. rw (is, m) (inr (across_leads f.walked more e, has)));
          walked =
              walk_on side.one_way.listed
              (walked_map (λ i low has. omega (arith, low has, min-le_left found across)) f.walked)
              more
              (λ has. omega (arith, min-le_right found across))
              on;
        }

    -- it has another
    pub finding_passes :
        (get_or remaining across 0 ≡ number → ⊥) →
        found' ≡ found → Finding side remaining cell number best found' following
    finding_passes other is =
        record {
          low = rw is f.low;
          is = rw is f.is;
          walked = rw is (walk_on side.one_way.listed f.walked more (λ has. absurd (other (rw e has))) on);
        }

-- Both sides

module _
    (links : Links) {remaining : List ℕ} {cell number found r : ℕ}
    (e : number ≡ get_or remaining cell 0 - 1)
    (forth : Smaller links.forth remaining cell number places found)
    (back : Smaller links.back remaining cell number found r)
  where
    least : (x : ℕ) → Nearer (joined_by links) remaining cell x → r ≤ x
    least x near =
        let has : get_or remaining x 0 ≡ number = omega (arith, near.fewer) in
        ⊎_elim (λ p. omega (arith, back.low, forth.least x p has)) (λ p. back.least x p has) (either_side links near.linked)

    -- a cell across a link is one of the cells
    inside : {x : ℕ} → Nearer (joined_by links) remaining cell x → x < places
    inside near = ⊎_elim (leads_inside links.forth.one_way) (leads_inside links.back.one_way) (either_side links near.linked)

    pub next_found : {d : ℕ} → Nearer (joined_by links) remaining cell d → NextCell (joined_by links) remaining cell r
    next_found {d} near = record { nearer = ⊎_elim by_forth by_back back.is; least = least }
      where
        below : r < places
        below = omega (arith, least d near, inside near)

        is_nearer : {x : ℕ} → Linked cell x (joined_by links) → get_or remaining x 0 ≡ number → Nearer (joined_by links) remaining cell x
        is_nearer {x} h has = record { linked = h; fewer = omega (arith, near.fewer) }

        by_back : LeadsOver links.back cell r × (get_or remaining r 0 ≡ number) → Nearer (joined_by links) remaining cell r
        by_back (p, has) = is_nearer (back_joined links cell r (leads_linked links.back.one_way.even p)) has

        by_forth : r ≡ found → Nearer (joined_by links) remaining cell r
        by_forth same =
            rw same (elim forth.is [
              | inl none ↦ absurd (omega (arith, below))
              | inr w ↦ is_nearer (leads_linked links.forth.one_way.even w.0) w.1
            ])
