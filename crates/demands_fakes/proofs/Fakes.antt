-- The demands shut the fakes out (RULES 10.5).
--
-- For each fake there is a short script of calls after which a demand forbids its answer. A fake whose joined or chain is at fault
-- changes books and logs as ours does, and ours gives 0 there; so its answer is the fault. Where the link or the clock is at fault, the
-- answer of the fake's book is computed.
use Prim.Native.Nat.{ℕ, zero, suc, ◌+◌, ◌≤◌, ◌<◌}
use mathlib.Core.Path.{◌≡◌, refl, sym, ◌∙◌, ap}
use mathlib.Core.Bool.{Bool, true, false, cond, not, ◌&&◌, and-eq-true_iff, false≢true}
use mathlib.Core.List.{List, [], ◌∷◌}
use mathlib.Core.Logic.{◌⊎◌, inl, inr}
use native.Mathlib.Omega.{arith}
use native.Mathlib.Decide.{ℕ_discrete}
use Rattle.std.proofs.Common.{Some, unwrap_or}
use borrow.Author.Tests.{eqb-true}
use lib.ListN.{length, get_or, take, drop, replicate, get_or-replicate}
use lib.Seq.{take-append_seam}
use Rattle.graph.specs.Link.{Link, along, against, here, there, Linked, Chained, same, group, chains}
use Rattle.graph.specs.Forest.{climb}
use Rattle.graph.proofs.Chains.{linked_sym, chained_one, chains_false}
use Rattle.graph.proofs.Forests.{nothing_linked}
use Rattle.settings.specs.Settings.{fitting_of}
use Rattle.settings.specs.declared.Settings.{Settings}
use Rattle.slides.specs.Counter.{ahead, counter_at_of}
use Rattle.slides.specs.Clock.{not_before_of, total_with_of, slide_of, open_slide_of, place_of, started, moved_to, clock_in_range}
use Rattle.cells.specs.Cell.{sectors, lorry_cell_over}
use Rattle.cells.specs.Touching.{touch_over}
use Rattle.cells.specs.Touching.Laws.{touch_itself}
use Rattle.forest.specs.Arrays.{count_from}
use Rattle.forest_check.specs.Sound.{every}
use Rattle.book_state.specs.Arrays.{cells, united, united_all}
use Rattle.book_state.specs.Log.{links_at, chunk_links, stored}
use Rattle.book_state.specs.Order.{in_order_of}
use Rattle.book_time.specs.Time.{cleared, emptied, stayed, backward_of, turned, moved_by_chunk, moved_book}
use Rattle.numbers.specs.Checks.{first_of, unless, has}
use Rattle.book_state.specs.declared.Book.{Book}
use Rattle.book_state.specs.Numbers.{log_places, are_cells_of}
use Rattle.book_joined.specs.declared.JoinedAnswer.{JoinedAnswer}
use Rattle.book_joined.specs.Joined.{parent_steps, parent_steps_at, step_links, four_walks, joined_number_of, joined_by_number, joined_of}
use Rattle.book.specs.Calls.{opening_number_of, opening_by_number, opening_of, link_number_of, link_stored, link_by_number, link_of, clock_number_of, clock_by_number, clock_of}
use Rattle.chain.specs.Chain.{ChainOutcome, chain_places}
use Rattle.demands.specs.History.{Call, opening, link, clock, History, latest_of, sum_of, total_in, begun, with_time, with_link, history_from, one_more_of, first_by_number, of_slides, how_many, number_in, added, added_by_number, window_of}
use Rattle.window_ends.specs.Ends.{is_end}
use Rattle.window_ends.proofs.Laws.{linked_end}
use Rattle.lamps.specs.Mask.{is_mask_of, is_body}
use Rattle.lamps.specs.Zones.{left_zone, right_zone, in_zone_of}
use Rattle.lamps.specs.Lamps.{on_body, lights}
use Rattle.lamps.proofs.Search.{true_some, lit}
use Rattle.demands.specs.Implementation.{Implementation, ours, State, state_of, gives, after, gives_chain, gives_lamps}
use Rattle.demands_cases.specs.Cases.{calls_of, p11_calls}
use Rattle.demands.specs.Demands.{HasHistory, Table, steps_in, Joined, Chain, TooEarly, Time, Lights, Lamps}
use Rattle.demands.specs.WindowIs.{held_links}
use Rattle.demands_fakes.specs.Fakes.{refusing, where_done, with_joined, fixed_joined, inventive, with_chain, fixed_chain, chainless, forgetful, idle, reaching, turnless, short_total, LampsFault, with_lamps, always_dark, always_lit, swapped, own_byte, unlinked, lamp_below, largest}
use Rattle.demands.proofs.Table.{table}
use Rattle.demands.proofs.JoinedIs.{joined}
use Rattle.demands.proofs.ChainIs.{chain}
use Rattle.demands.proofs.LampsAre.{lamps}
use Rattle.demands.proofs.WindowIs.{window_is}

-- ---- the fault shows where ours gives 0

where_done_lem : {A : Type 0} (number : ℕ) (fault ours : A) → number ≡ 0 → where_done number fault ours ≡ fault
unfolding where_done
where_done_lem zero fault ours e = refl
where_done_lem (suc k) fault ours e = absurd (omega arith)

-- whoever changes books and logs as ours does leaves what ours leaves
after_same : (p : Implementation) → ((s : State) (c : Call) → gives p s c ≡ gives ours s c) → (s : State) (cs : List Call) →
    after p s cs ≡ after ours s cs
unfolding after
after_same p alike s [] = refl
after_same p alike s (c ∷ cs) = after_same p alike (state_of (gives p s c)) cs ∙ ap (λ o. after ours (state_of o) cs) (alike s c)

same_calls : (p : Implementation) → p.opening_gives ≡ opening_of → p.link_gives ≡ link_of → p.clock_gives ≡ clock_of →
    (s : State) (c : Call) → gives p s c ≡ gives ours s c
unfolding gives
same_calls p opens links clocks s (opening settings) = ap (λ f. f s.book s.log settings) opens
same_calls p opens links clocks s (link tick one other) = ap (λ f. f s.book s.log tick one other) links
same_calls p opens links clocks s (clock tick) = ap (λ f. f s.book s.log tick) clocks

module _ (fault : Book → ℕ → ℕ → JoinedAnswer) where
  joined_fault : (s : State) (cs : List Call) (h : History) → HasHistory s cs h → (one other : ℕ) → are_cells_of one other ≡ true →
      (with_joined fault).joined_gives (after (with_joined fault) s cs).book one other ≡ fault (after ours s cs).book one other
  joined_fault s cs h told one other are =
      ap (λ t. (with_joined fault).joined_gives t.book one other) (after_same (with_joined fault) (same_calls _ refl refl refl) s cs)
      ∙ where_done_lem _ _ _ (table.asks s cs h told one other ∙ ap (λ t. unless t 3) are)

module _ (fault : Book → List ℕ → List ℕ → ℕ → ℕ → ChainOutcome) where
  -- a cell and itself: ours gives 0
  chain_fault : (s : State) (cs : List Call) (h : History) → HasHistory s cs h → (buffer : List ℕ) → has chain_places buffer ≡ true →
      (c : ℕ) → are_cells_of c c ≡ true →
      gives_chain (with_chain fault) (after (with_chain fault) s cs) buffer c c
      ≡ fault (after ours s cs).book (after ours s cs).log buffer c c
  chain_fault s cs h told buffer places c are =
      ap (λ t. gives_chain (with_chain fault) t buffer c c) (after_same (with_chain fault) (same_calls _ refl refl refl) s cs)
      ∙ where_done_lem _ _ _ ((chain.answers s cs h told buffer places c c are).done.1 (same refl))

module _ (fault : LampsFault) where
  lamps_same : (s : State) (cs : List Call) → after (with_lamps fault) s cs ≡ after ours s cs
  lamps_same = after_same (with_lamps fault) (same_calls _ refl refl refl)

  lamps_fault : (s : State) (cs : List Call) (h : History) → HasHistory s cs h → (mask : List ℕ) → is_mask_of cells mask ≡ true →
      gives_lamps (with_lamps fault) (after (with_lamps fault) s cs) mask
      ≡ fault (held_links (after ours s cs)) mask (gives_lamps ours (after ours s cs) mask)
  lamps_fault s cs h told mask is =
      ap (λ t. gives_lamps (with_lamps fault) t mask) (lamps_same s cs)
      ∙ where_done_lem _ _ _ (lamps.number s cs h told mask ∙ ap (λ t. unless t 15) is)

-- ---- a book that has just been opened

abbrev settings : Settings
settings = record { t0 = 0; b = 10; n = 3; mounting = 1 }

abbrev start : State
start = record { book = emptied (started settings) (fitting_of settings); log = replicate log_places 0 }

abbrev opened : List Call
opened = opening settings ∷ []

told_opened : HasHistory start opened (begun settings)
unfolding history_from one_more_of first_by_number first_of has
told_opened = refl

pub not_refusing : (number : ℕ) → (number ≡ 0 → ⊥) → Table (refusing number) → ⊥
unfolding gives where_done opening_of opening_by_number opening_number_of first_of has
not_refusing number refuses t = refuses (t.openings start settings)

-- P2
not_chained : Chained [] 7 8 → ⊥
unfolding chains group
not_chained = chains_false [] 7 8 refl

pub not_fixed_yes : Joined (fixed_joined true) → ⊥
unfolding of_slides
not_fixed_yes j =
    not_chained ((j.chained start opened (begun settings) told_opened 7 8 refl).0
    (ap (λ o. o.yes) (joined_fault _ start opened (begun settings) told_opened 7 8 refl)))

-- P1
pub not_fixed_no : Joined (fixed_joined false) → ⊥
unfolding of_slides
not_fixed_no j =
    false≢true (sym (ap (λ o. o.yes) (joined_fault _ start opened (begun settings) told_opened 7 7 refl))
    ∙ (j.chained start opened (begun settings) told_opened 7 7 refl).1 (same refl))

-- steps that are not the rule's for some two cells, after some calls
pub not_inventive : (steps : Book → ℕ → ℕ → ℕ) (s : State) (cs : List Call) (h : History) → HasHistory s cs h → (one other : ℕ) →
    are_cells_of one other ≡ true → (steps (after ours s cs).book one other ≡ steps_in h one other → ⊥) → Joined (inventive steps) → ⊥
not_inventive steps s cs h told one other are differ j =
    differ (sym (ap (λ o. o.steps) (joined_fault _ s cs h told one other are)) ∙ j.steps s cs h told one other are)

-- for example one step more than there are
pub not_one_more : Joined (inventive (λ b one other. (joined_of b one other).steps + 1)) → ⊥
not_one_more = not_inventive _ start opened (begun settings) told_opened 7 7 refl (λ e. omega (arith, joined.steps start opened (begun settings) told_opened 7 7 refl))

abbrev buffer : List ℕ
buffer = replicate chain_places 0

buffer_has : has chain_places buffer ≡ true
unfolding has
buffer_has = refl

-- it would have to be the chain of cell 7 and that of cell 8
pub not_fixed_chain : (cells : List ℕ) → Chain (fixed_chain cells) → ⊥
not_fixed_chain cells c = let e : ◌≡◌ {A = ℕ} 7 8 = ap (λ l. get_or l 0 0) (sym (alone 7 refl) ∙ alone 8 refl) in omega arith
  where
    alone : (x : ℕ) → are_cells_of x x ≡ true → cells ≡ x ∷ []
    alone x are =
        sym (take-append_seam cells (drop (length cells) buffer))
        ∙ sym (ap (λ o. take o.answer.cells o.chain) (chain_fault _ start opened (begun settings) told_opened buffer buffer_has x are))
        ∙ ((c.answers start opened (begun settings) told_opened buffer buffer_has x x are).itself refl).cell

pub not_chainless : Chain chainless → ⊥
not_chainless c =
    let e : ◌≡◌ {A = ℕ} 7 0 =
    sym (ap (λ o. o.answer.number) (chain_fault _ start opened (begun settings) told_opened buffer buffer_has 7 refl))
    ∙ (c.answers start opened (begun settings) told_opened buffer buffer_has 7 7 refl).done.1 (same refl) in
    omega arith

-- ---- a link of a cell with itself

itself_taken : (gives reaching (after reaching start opened) (link 0 5 5)).number ≡ 0
unfolding after gives opening_of link_of opening_number_of opening_by_number stored link_number_of link_stored link_by_number first_of has emptied in_order_of every count_from ahead counter_at_of not_before_of total_with_of slide_of open_slide_of place_of clock_in_range touch_over climb
itself_taken = refl

pub not_reaching : Table reaching → ⊥
not_reaching t =
    let e : ◌≡◌ {A = ℕ} 0 14 = sym itself_taken ∙ (t.apart start opened (begun settings) told_opened 0 5 5).1 (refl, touch_itself sectors 5) in
    omega arith

-- ---- one link

abbrev linked : List Call
linked = opening settings ∷ link 0 1 2 ∷ []

-- time moves, and a link is stored
abbrev more : (history : History) (tick one other : ℕ) → History
more h tick one other = with_link (with_time h tick) (record { one = one; other = other })

told_linked : HasHistory start linked (more (begun settings) 0 1 2)
unfolding history_from one_more_of first_by_number first_of has number_in added_by_number added ahead counter_at_of not_before_of total_with_of slide_of open_slide_of moved_to how_many of_slides lorry_cell_over touch_over
told_linked = refl

chained_linked : Chained (window_of (more (begun settings) 0 1 2)) 1 2
unfolding of_slides ahead counter_at_of not_before_of total_with_of slide_of open_slide_of moved_to
chained_linked = chained_one (here (along refl refl))

not_stored : (joined_of (after forgetful start linked).book 1 2).yes ≡ false
unfolding after gives where_done opening_of link_of clock_of joined_of opening_number_of opening_by_number stored link_number_of link_stored link_by_number clock_number_of clock_by_number parent_steps parent_steps_at step_links four_walks joined_number_of joined_by_number first_of has cleared emptied stayed backward_of turned moved_by_chunk moved_book in_order_of links_at chunk_links united united_all every count_from ahead counter_at_of not_before_of total_with_of slide_of open_slide_of place_of moved_to clock_in_range lorry_cell_over touch_over climb chains
not_stored = refl

pub not_forgetful : Joined forgetful → ⊥
not_forgetful j =
    false≢true (sym not_stored ∙ (j.chained start linked (more (begun settings) 0 1 2) told_linked 1 2 refl).1 chained_linked)

-- ---- P11: the link 4-5 of slide 4 stands in the second chunk, and P11 asks for it in the third

abbrev then : History
then = with_time (with_time (more (more (more (more (more (begun settings) 0 1 2) 10 2 3) 20 3 4) 30 5 6) 45 4 5) 50) 60

told_then : HasHistory start p11_calls then
unfolding calls_of history_from one_more_of first_by_number first_of has number_in added_by_number added ahead counter_at_of not_before_of total_with_of slide_of open_slide_of moved_to how_many of_slides lorry_cell_over touch_over
told_then = refl

chained_then : Chained (window_of then) 4 5
unfolding of_slides ahead counter_at_of not_before_of total_with_of slide_of open_slide_of moved_to
chained_then = chained_one (here (along refl refl))

idle_then : (joined_of (after idle start p11_calls).book 4 5).yes ≡ false
unfolding calls_of after gives where_done opening_of link_of clock_of joined_of opening_number_of opening_by_number stored link_number_of link_stored link_by_number clock_number_of clock_by_number parent_steps parent_steps_at step_links four_walks joined_number_of joined_by_number first_of has cleared emptied stayed backward_of turned moved_by_chunk moved_book in_order_of links_at chunk_links united united_all every count_from ahead counter_at_of not_before_of total_with_of slide_of open_slide_of place_of moved_to clock_in_range lorry_cell_over touch_over climb chains
idle_then = refl

pub not_idle : Joined idle → ⊥
not_idle j = false≢true (sym idle_then ∙ (j.chained start p11_calls then told_then 4 5 refl).1 chained_then)

-- ---- past the end of the counter

abbrev near_end : Settings
near_end = record { t0 = 4294967290; b = 10; n = 3; mounting = 1 }

told_near_end : HasHistory start (opening near_end ∷ []) (begun near_end)
unfolding history_from one_more_of first_by_number first_of has
told_near_end = refl

end_refused : (gives turnless (after turnless start (opening near_end ∷ [])) (clock 4)).number ≡ 4
unfolding after gives where_done opening_of clock_of opening_number_of opening_by_number clock_number_of clock_by_number first_of has emptied in_order_of every count_from ahead counter_at_of not_before_of total_with_of clock_in_range climb
end_refused = refl

not_early : TooEarly (begun near_end) 4 → ⊥
unfolding ahead latest_of sum_of
not_early (inl far) = omega (arith, far)
not_early (inr over) = omega (arith, over)

pub not_turnless : Time turnless → ⊥
not_turnless t = not_early ((t.clock_four start (opening near_end ∷ []) (begun near_end) told_near_end 4).0 end_refused)

-- tick 4 comes again after two clock calls of nearly half a turn
abbrev turn_calls : List Call
turn_calls = opening near_end ∷ clock 2147483641 ∷ clock 4294967288 ∷ clock 4 ∷ []

abbrev turned_round : History
turned_round = with_time (with_time (with_time (begun near_end) 2147483641) 4294967288) 4

told_round : HasHistory start turn_calls turned_round
unfolding history_from one_more_of first_by_number first_of has number_in added_by_number added ahead counter_at_of not_before_of total_with_of moved_to
told_round = refl

short_round : (after short_total start turn_calls).book.clock.total ≡ 10
unfolding after gives where_done opening_of clock_of opening_number_of opening_by_number clock_number_of clock_by_number first_of has cleared emptied stayed backward_of turned moved_by_chunk moved_book in_order_of links_at chunk_links united united_all every count_from ahead counter_at_of not_before_of total_with_of slide_of open_slide_of place_of moved_to clock_in_range climb
short_round = refl

sum_round : total_in turned_round ≡ 4294967306
unfolding ahead latest_of sum_of moved_to
sum_round = refl

pub not_short_total : Time short_total → ⊥
not_short_total t =
    let e : ◌≡◌ {A = ℕ} 10 4294967306 = sym short_round ∙ t.total start turn_calls turned_round told_round ∙ sum_round in
    omega arith

-- ---- the lamps
--
-- A book without a link has no lamp to light. After one link, of 1 and 2, which are in the right zone both, and with a mask that marks
-- nothing, the right lamp is lit by 1 and the left one is dark; with 1 for bodywork both are dark, since 2 is joined to it.

-- nothing is bodywork, and cell 1 alone
abbrev bare : List ℕ
bare = replicate cells 0

abbrev one_body : List ℕ
one_body = 0 ∷ 1 ∷ replicate 1022 0

bare_is : is_mask_of cells bare ≡ true
unfolding is_mask_of
bare_is = refl

one_body_is : is_mask_of cells one_body ≡ true
unfolding is_mask_of
one_body_is = refl

zeros : (b : ℕ) → b < cells → get_or bare b 0 ≡ 0
zeros b h = get_or-replicate cells b 0 0 h

no_body : (links : List Link) (c : ℕ) → on_body links bare c ≡ false
no_body links c = go (on_body links bare c) refl
  where
    go : (t : Bool) → on_body links bare c ≡ t → t ≡ false
    go false e = refl
    go true e =
        let w = true_some cells (λ b. is_body bare b && chains links c b) e in
        absurd (omega (arith, zeros w.0 w.1, eqb-true (get_or bare w.0 0) 1 ((and-eq-true_iff (is_body bare w.0) (chains links c w.0)).0 w.2).0))

abbrev once : History
once = more (begun settings) 0 1 2

-- the window of one link
linked_once : Linked 1 2 (window_of once)
unfolding of_slides ahead counter_at_of not_before_of total_with_of slide_of open_slide_of moved_to
linked_once = here (along refl refl)

ends_once : (c d : ℕ) → Linked c d (window_of once) → (c ≡ 1) ⊎ (c ≡ 2)
unfolding of_slides ahead counter_at_of not_before_of total_with_of slide_of open_slide_of moved_to
ends_once c d (here (along p q)) = inl (sym p)
ends_once c d (here (against p q)) = inr (sym q)
ends_once c d (there l) = absurd (nothing_linked l)

-- both ends are in the right zone, and neither is in the left one
right_1 : in_zone_of sectors (right_zone sectors) 1 ≡ true
unfolding in_zone_of
right_1 = refl

right_2 : in_zone_of sectors (right_zone sectors) 2 ≡ true
unfolding in_zone_of
right_2 = refl

not_left : (c : ℕ) → (c ≡ 1) ⊎ (c ≡ 2) → in_zone_of sectors (left_zone sectors) c ≡ false
unfolding in_zone_of
not_left c (inl e) = rw e
not_left c (inr e) = rw e

-- so the right lamp has to be lit, whoever lights it
right_lit : (p : Implementation) → Lamps p → (gives_lamps p (after p start linked) bare).right ≡ true
right_lit p d = ((d.right start linked once told_linked bare bare_is).bare zeros).1 (1, right_1, (2, linked_once))

pub not_always_dark : Lamps (with_lamps always_dark) → ⊥
not_always_dark d = false≢true (sym (ap (λ o. o.right) (lamps_fault always_dark start linked once told_linked bare bare_is)) ∙ right_lit _ d)

-- without a link there is nothing to light it
nothing_lit : (p : Implementation) → Lamps p → (gives_lamps p (after p start opened) bare).right ≡ true → ⊥
unfolding of_slides
nothing_lit p d e =
    let w = (d.right start opened (begun settings) told_opened bare bare_is).lit.0 e in nothing_linked w.1.linked.1

pub not_always_lit : Lamps (with_lamps always_lit) → ⊥
not_always_lit d = nothing_lit _ d (ap (λ o. o.right) (lamps_fault always_lit start opened (begun settings) told_opened bare bare_is))

pub not_unlinked : Lamps (with_lamps unlinked) → ⊥
not_unlinked d =
    nothing_lit _ d
    (ap (λ o. o.right) (lamps_fault unlinked start opened (begun settings) told_opened bare bare_is)
    ∙ lit (λ c. in_zone_of sectors (right_zone sectors) c && not (on_body (held_links (after ours start opened)) bare c)) 0 cells {d = 1} (omega arith) (omega arith)
    (rw (right_1, no_body (held_links (after ours start opened)) 1)))

-- our left lamp is dark
left_dark : (t : Bool) → (gives_lamps ours (after ours start linked) bare).left ≡ t → t ≡ false
left_dark false e = refl
left_dark true e =
    let w = (lamps.left start linked once told_linked bare bare_is).lit.0 e in
    absurd (false≢true (sym (not_left w.0 (ends_once w.0 _ w.1.linked.1)) ∙ w.1.inside))

pub not_swapped : Lamps (with_lamps swapped) → ⊥
not_swapped d =
    false≢true (sym (left_dark _ refl) ∙ sym (ap (λ o. o.right) (lamps_fault swapped start linked once told_linked bare bare_is)) ∙ right_lit _ d)

-- cell 2 is an end of the link that the book holds
held_2 : Linked 2 1 (held_links (after ours start linked))
held_2 = ((window_is start linked once told_linked).linked 2 1).1 (linked_sym linked_once)

-- it lights the right lamp, and so the largest that does is not below it
lights_2 : lights (held_links (after ours start linked)) bare (right_zone sectors) 2 ≡ true
lights_2 = rw (right_2, linked_end _ 2 1 held_2, no_body (held_links (after ours start linked)) 2)

from_above : (t : ℕ → Bool) (count : ℕ) {c : ℕ} → c < count → t c ≡ true → c ≤ unwrap_or (lamp_below t count) 0
unfolding lamp_below
from_above t zero h e = absurd (omega arith)
from_above t (suc n) {c} h e = go (t n) refl (λ below. from_above t n below e)
  where
    go : (b : Bool) → t n ≡ b → (c < n → c ≤ unwrap_or (lamp_below t n) 0) → c ≤ unwrap_or (cond b (Some n) (lamp_below t n)) 0
    go true p later = omega arith
    go false p later = elim (ℕ_discrete c n) [
      | yes is ↦ absurd (false≢true (sym p ∙ sym (ap t is) ∙ e))
      | no other ↦ later (omega arith)
    ]

-- cell 1 lights it too, and is smaller
pub not_largest : Lamps (with_lamps largest) → ⊥
not_largest d =
    let fault = ap (λ o. o.right_cell) (lamps_fault largest start linked once told_linked bare bare_is) in
    let least = ((d.right start linked once told_linked bare bare_is).smallest (right_lit _ d)).1 1 lights_1 in
    omega (arith, fault, least, from_above (lights (held_links (after ours start linked)) bare (right_zone sectors)) cells (omega arith) lights_2)
  where
    lights_1 : Lights (with_lamps largest) (after (with_lamps largest) start linked) once bare (right_zone sectors) 1
    lights_1 =
        record {
          inside = right_1;
          linked = (2, linked_once);
          free = λ b h body. absurd (omega (arith, zeros b h, eqb-true (get_or bare b 0) 1 body));
        }

-- cell 1 is bodywork, and joined to itself and to 2: no cell lights the lamp
pub not_own_byte : Lamps (with_lamps own_byte) → ⊥
not_own_byte d =
    let w = (d.right start linked once told_linked one_body one_body_is).lit.0 lights_by_2 in
    false≢true (sym (w.1.free 1 (omega arith) refl) ∙ joined_1 w.0 (ends_once w.0 _ w.1.linked.1))
  where
    held : List Link
    held = held_links (after ours start linked)

    lights_by_2 : (gives_lamps (with_lamps own_byte) (after (with_lamps own_byte) start linked) one_body).right ≡ true
    lights_by_2 =
        ap (λ o. o.right) (lamps_fault own_byte start linked once told_linked one_body one_body_is)
        ∙ lit (λ c. in_zone_of sectors (right_zone sectors) c && is_end held c && not (is_body one_body c)) 0 cells {d = 2} (omega arith) (omega arith)
        (rw (right_2, linked_end held 2 1 held_2))

    joined_1 : (c : ℕ) → (c ≡ 1) ⊎ (c ≡ 2) → ((with_lamps own_byte).joined_gives (after (with_lamps own_byte) start linked).book c 1).yes ≡ true
    joined_1 c is = rw (lamps_same own_byte start linked) (elim is [
      | inl e ↦ rw e ((joined.chained start linked once told_linked 1 1 refl).1 (same refl))
      | inr e ↦ rw e ((joined.chained start linked once told_linked 2 1 refl).1 (chained_one (linked_sym linked_once)))
    ])
