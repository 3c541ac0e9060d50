-- One side's links of the queue's cell at `head`, walked so that the cells across them have their numbers: one that has
-- none gets it, by one step of the search (`reaching_more`).
use Prim.Native.Nat.{ℕ, ◌+◌, ◌<◌}
use native.Mathlib.Nat.{le_refl, pos_of_ne-zero}
use native.Mathlib.Omega.{arith}
use mathlib.Core.Path.{◌≡◌, ◌∙◌}
use mathlib.Core.Logic.{◌⊎◌, inl, inr}
use lib.ListN.{length, get_or, set, length-set}
use Rattle.forest.specs.Arrays.{places}
use Rattle.graph.specs.Link.{Linked}
use Rattle.buckets.proofs.Walk.{Walked, walk_on, walked_map}
use Rattle.chain_fewest.specs.Joined.{LeadsOver}
use Rattle.chain_fewest.specs.Joined.{side_links}
use Rattle.chain_fewest.specs.Levels.{Known, remaining_at, Searches}
use Rattle.chain_fewest.specs.declared.links.Side.{Side}
use Rattle.chain_fewest.specs.declared.levels.Search.{Search}
use Rattle.chain_fewest.proofs.LinkLists.{leads_linked, across_leads, across_inside}
use Rattle.chain_fewest.proofs.Search.{search_more, in_queue_kept, number_kept, number_new, cell_kept, has_room}

-- the state of the search during the walk from the cell at head; it began as s₀
pub record Reaching (side : Side) (s₀ : Search) (cell number : ℕ) (s : Search) : Type 0 where
  pub long : length s.remaining ≡ places
  pub some : s.head < s.tail
  pub stays : s.head ≡ s₀.head
  pub searching : Searches (side_links side) (get_or s₀.queue 0 0) s
  pub is : cell ≡ get_or s₀.queue s₀.head 0
  pub place : get_or s.queue s₀.head 0 ≡ cell
  pub numbers : number ≡ remaining_at s.remaining s.queue s.head + 1
  pub kept : (c : ℕ) → Known s₀.remaining c → Known s.remaining c

-- once one cell more has its number and waits
abbrev pub one_more : (s : Search) (across number : ℕ) → Search
one_more s across number =
    record { remaining = set s.remaining across number; queue = set s.queue s.tail across; head = s.head; tail = s.tail + 1 }

module _
    {side : Side} {s₀ s : Search} {cell number across : ℕ}
    (r : Reaching side s₀ cell number s)
    (leads : LeadsOver side cell across)
    (inside : across < length s.remaining)
    (fresh : get_or s.remaining across 0 ≡ 0)
  where
    linked : Linked (get_or s.queue s.head 0) across (side_links side)
    linked = rw (r.stays, r.place) (leads_linked side.one_way.even leads)

    -- the number that it gets
    abbrev its_number : ℕ
    its_number = remaining_at s.remaining s.queue s.head + 1

    known_more : (c : ℕ) → Known s.remaining c → Known (set s.remaining across its_number) c
    known_more c known = rw (number_kept r.searching r.some linked inside fresh c known) known

    got : Known (set s.remaining across its_number) across
    got = rw (number_new r.searching r.some linked inside fresh) (omega arith)

    reaching_more : Reaching side s₀ cell its_number (one_more s across its_number)
    reaching_more =
        record {
          long = simp length-set r.long;
          some = omega (arith, r.some);
          stays = r.stays;
          searching = search_more r.searching r.some linked inside fresh;
          is = r.is;
          place = rw (← r.stays) (cell_kept r.searching r.some linked inside fresh s.head r.some ∙ rw r.stays r.place);
          numbers = rw (in_queue_kept r.searching r.some linked inside fresh s.head (le_refl s.head) r.some);
          kept = λ c known. known_more c (r.kept c known);
        }

-- The steps of the walk

-- the cells across the links that are passed have their numbers
abbrev pub Passed : (side : Side) (s : Search) (cell link : ℕ) → Type 0
Passed side s cell link = Walked side.from.now cell (λ i. Known s.remaining (get_or side.to.now i 0)) link

-- after the test of the cell across: it had no number and got it, or it had one
abbrev pub Tested : (s : Search) (across number : ℕ) (after : Search) → Type 0
Tested s across number s' =
    ((get_or s.remaining across 0 ≡ 0) × (s' ≡ one_more s across number))
    ⊎ ((get_or s.remaining across 0 ≡ 0 → ⊥) × (s' ≡ s))

module _
    {side : Side} {s₀ s : Search} {cell number link across : ℕ}
    (r : Reaching side s₀ cell number s)
    (w : Passed side s cell link)
    (more : link < length side.from.now)
    (e : across ≡ get_or side.to.now link 0)
  where
    leads : LeadsOver side cell across
    leads = across_leads w more e

    reach_inside : across < length s.remaining
    reach_inside = rw r.long (across_inside side.one_way more e)

    -- there is room for a cell that has no number
    pub reach_room : get_or s.remaining across 0 ≡ 0 → s.tail < places
    reach_room fresh =
        omega (arith, has_room r.searching r.some (linked r leads reach_inside fresh) reach_inside fresh, r.searching.long, r.long)

    -- either way it has its number then
    tested :
        {s' : Search} → Tested s across number s' →
        Reaching side s₀ cell number s' × Passed side s' cell link × Known s'.remaining across
    tested (inl (fresh, p)) =
        rw (p, r.numbers) (
          reaching_more r leads reach_inside fresh,
          walked_map (λ i. known_more r leads reach_inside fresh (get_or side.to.now i 0)) w,
          got r leads reach_inside fresh,
        )
    tested (inr (has, p)) = rw p (r, w, pos_of_ne-zero has)

    -- and the walk goes on
    pub reach_turns :
        {s' : Search} {following : ℕ} →
        Tested s across number s' →
        following ≡ get_or side.next.now link 0 → Reaching side s₀ cell number s' × Passed side s' cell following
    reach_turns t f =
        let (r', w', known) = tested t in
        (r', walk_on side.one_way.listed w' more (rw e at known) f)
