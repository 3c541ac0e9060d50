-- The links that two lists of cells hold: two cells are linked exactly when a link leads from the one to the other, read from
-- one of its two sides (`linked_leads`, `leads_linked`). And the cells across a cell's links, which a walk along its list passes.
use Prim.Native.Nat.{ℕ, zero, suc, ◌<◌, suc-le-suc, zero-le}
use mathlib.Core.Path.{◌≡◌, refl, sym}
use mathlib.Core.List.{List, [], ◌∷◌}
use mathlib.Core.Logic.{◌⊎◌, inl, inr, ⊎_map}
use native.Mathlib.Nat.{le_of_suc-le-suc, suc_inj}
use native.Mathlib.Omega.{arith}
use lib.ListN.{length, get_or}
use Rattle.graph.specs.Link.{along, against, Linked, here, there}
use Rattle.graph.proofs.Chains.{Relinks}
use Rattle.buckets.proofs.Walk.{Walked}
use Rattle.chain_fewest.specs.Lists.{links_of, Leads, OneWay}
use Rattle.chain_fewest.specs.Joined.{LeadsOver, side_links, joined_by}
use Rattle.chain_fewest.specs.declared.links.Links.{Links}

leads_more : {from to : List ℕ} {a b : ℕ} (x y : ℕ) → Leads from to a b → Leads (x ∷ from) (y ∷ to) a b
leads_more x y p =
    record { link = suc p.link; within = suc-le-suc p.within; starts = p.starts; arrives = p.arrives }

leads_first : {x y a b : ℕ} (from to : List ℕ) → x ≡ a → y ≡ b → Leads (x ∷ from) (y ∷ to) a b
leads_first from to p q = record { link = 0; within = suc-le-suc zero-le; starts = p; arrives = q }

-- two linked cells: a link leads from the one to the other, read from one of its two sides
pub linked_leads :
    (ones others : List ℕ) {a b : ℕ} →
    Linked a b (links_of ones others) → Leads ones others a b ⊎ Leads others ones a b
unfolding links_of
linked_leads [] others h = elim h [ ]
linked_leads (x ∷ xs) [] h = elim h [ ]
linked_leads (x ∷ xs) (y ∷ ys) (here (along p q)) = inl (leads_first xs ys p q)
linked_leads (x ∷ xs) (y ∷ ys) (here (against p q)) = inr (leads_first ys xs q p)
linked_leads (x ∷ xs) (y ∷ ys) (there h) = ⊎_map (leads_more x y) (leads_more y x) (linked_leads xs ys h)

at_linked :
    (from to : List ℕ) (i : ℕ) → i < length from → length to ≡ length from →
    Linked (get_or from i 0) (get_or to i 0) (links_of from to)
unfolding links_of
at_linked [] to i h e = elim h [ ]
at_linked (x ∷ xs) [] i h e = absurd (omega arith)
at_linked (x ∷ xs) (y ∷ ys) zero h e = here (along refl refl)
at_linked (x ∷ xs) (y ∷ ys) (suc i) h e = there (at_linked xs ys i (le_of_suc-le-suc h) (suc_inj e))

pub leads_linked :
    {from to : List ℕ} {a b : ℕ} → length to ≡ length from → Leads from to a b → Linked a b (links_of from to)
leads_linked {from} {to} e p = rw (← p.starts, ← p.arrives) (at_linked from to p.link p.within e)

-- which cells are linked is the same from either side
pub links_turn : (ones others : List ℕ) → Relinks (links_of ones others) (links_of others ones)
unfolding links_of
links_turn [] others a b h = elim h [ ]
links_turn (x ∷ xs) [] a b h = elim h [ ]
links_turn (x ∷ xs) (y ∷ ys) a b (here (along p q)) = here (against q p)
links_turn (x ∷ xs) (y ∷ ys) a b (here (against p q)) = here (along q p)
links_turn (x ∷ xs) (y ∷ ys) a b (there h) = there (links_turn xs ys a b h)

-- Along the list of a cell

-- the cell across a link
pub across_inside :
    {cells : ℕ} {from to first next : List ℕ} {link across : ℕ} →
    OneWay cells from to first next → link < length from → across ≡ get_or to link 0 → across < cells
across_inside {link = link} lists more e = rw e (lists.across link (rw lists.even more))

pub leads_inside :
    {cells : ℕ} {from to first next : List ℕ} {a b : ℕ} →
    OneWay cells from to first next → Leads from to a b → b < cells
leads_inside lists p = across_inside lists p.within (sym p.arrives)

pub across_leads :
    {from to : List ℕ} {cell link across : ℕ} {P : ℕ → Type 0} →
    Walked from cell P link → link < length from → across ≡ get_or to link 0 → Leads from to cell across
across_leads {link = link} w more e = record { link = link; within = more; starts = w.has more; arrives = sym e }

-- Both sides

module _ (links : Links) where
  -- a link of a cell is read from one of the two
  pub either_side : {a b : ℕ} → Linked a b (joined_by links) → LeadsOver links.forth a b ⊎ LeadsOver links.back a b
  either_side h = rw (links.turned.0, links.turned.1) (linked_leads links.forth.from.now links.forth.to.now h)

  -- what is read from the second is what is read from the first
  pub back_joined : Relinks (side_links links.back) (joined_by links)
  back_joined = rw (links.turned.0, links.turned.1) (links_turn links.forth.to.now links.forth.from.now)

  pub joined_back : Relinks (joined_by links) (side_links links.back)
  joined_back = rw (links.turned.0, links.turned.1) (links_turn links.forth.from.now links.forth.to.now)
