-- What the groups of a history mean: a group has the cells that the window's links chain with each other, in rising order; and the least
-- hold over its pairs is the least that the chain call gives for two of them.
--
-- The chain call's hold is found by the very search of `hold_in` (ListedGroups). The least of a list of cells is that of its first cell with
-- a later one, or that of the later ones; and as the cells rise, the two of a pair differ.
use Prim.Native.Nat.{ℕ, zero, suc, ◌≤◌, ◌<◌, zero-le}
use mathlib.Core.Path.{◌≡◌, refl, sym, ◌∙◌, subst⁻¹}
use mathlib.Core.Bool.{Bool, true, false, cond}
use mathlib.Core.List.{List, [], ◌∷◌, Memᴰ}
use mathlib.Core.Logic.{◌↔◌}
use native.Mathlib.Nat.{le_refl}
use native.Mathlib.Omega.{arith}
use native.Mathlib.Decide.{dec_le}
use lib.ListN.{length}
use borrow.Author.Tests.{lt-ltb}
use Rattle.graph.specs.Link.{Chained, chains}
use Rattle.graph.proofs.Chains.{chained_sym, chained_trans, chains_true, true_chains}
use Rattle.forest.specs.Arrays.{count_from}
use Rattle.book_state.specs.Arrays.{cells}
use Rattle.book_state.specs.Numbers.{are_cells_of}
use Rattle.chain.specs.Chain.{chain_number, chain_by_number, chain_of}
use Rattle.window_groups.specs.Groups.{filter, smallest, hold_of, least_with, least_over}
use Rattle.window_groups.proofs.Cells.{in_count, count_in, in_filter, filter_in}
use Rattle.window_groups.proofs.LeastHold.{hold_most}
use Rattle.demands.specs.History.{History, window_of}
use Rattle.demands.specs.Implementation.{ours, State, gives_chain}
use Rattle.demands_listing.specs.Listed.{group_in, hold_within, hold_in, least_hold_in, Rising, none, next, ChainHold, PairOf, GroupMeans}
use Rattle.demands.specs.Agrees.{Agrees}
use Rattle.demands.proofs.ChainIs.{answers}
use Rattle.demands.proofs.Closings.{closed}
use Rattle.demands.proofs.Lists.{same_test}
use Rattle.demands_listing.proofs.ListedGroups.{held, hold_told}

-- ---- rising lists

rising_lower : {k : ℕ} {cs : List ℕ} → Rising (suc k) cs → Rising k cs
rising_lower none = none
rising_lower {k} (next {x = x} h on) = next {least = k} {x = x} (omega arith) on

rising_least : {k d : ℕ} {cs : List ℕ} → Rising k cs → Memᴰ d cs → k ≤ d
rising_least {d = d} (none {least = least}) m = elim m [ ]
rising_least (next h on) (Memᴰ.head e) = omega arith
rising_least (next h on) (Memᴰ.tail m) = omega (arith, rising_least on m)

rising_first : {k d : ℕ} {cs : List ℕ} → Rising k cs → Memᴰ d cs → smallest cs ≤ d
unfolding smallest
rising_first {k = k} {d = d} none m = elim m [ ]
rising_first (next h on) (Memᴰ.head e) = omega arith
rising_first (next h on) (Memᴰ.tail m) = omega (arith, rising_least on m)

-- the cells that pass a test
filter_rises : (test : ℕ → Bool) (i n : ℕ) → Rising i (filter test (count_from i n))
unfolding filter count_from
filter_rises test i zero = none
filter_rises test i (suc n) = go (test i) (filter_rises test (suc i) n)
  where
    go : (t : Bool) → Rising (suc i) (filter test (count_from (suc i) n))
        → Rising i (cond t (i ∷ filter test (count_from (suc i) n)) (filter test (count_from (suc i) n)))
    go true on = next (le_refl i) on
    go false on = rising_lower on

-- ---- the least is some pair's

module _ (top : ℕ) (hold : ℕ → ℕ → ℕ) (most : (a b : ℕ) → hold a b ≤ top) where
  -- a cell of the list with which c has the least
  record With (c : ℕ) (ds : List ℕ) : Type 0 where
    pub cell : ℕ
    pub among : Memᴰ cell ds
    pub is : hold c cell ≡ least_with top hold c ds

  least_with_lem : (c d : ℕ) (ds : List ℕ) → With c (d ∷ ds)
  unfolding least_with
  least_with_lem c d [] = record { cell = d; among = Memᴰ.head refl; is = omega (arith, most c d) }
  least_with_lem c d (e ∷ es) = go (least_with_lem c e es)
    where
      go : With c (e ∷ es) → With c (d ∷ e ∷ es)
      go w = elim (dec_le (hold c d) (hold c w.cell)) [
        | yes le ↦ record { cell = d; among = Memᴰ.head refl; is = omega (arith, w.is) }
        | no more ↦ record { cell = w.cell; among = Memᴰ.tail w.among; is = omega (arith, w.is) }
      ]

  -- two cells of the list that have the least, the second above the first
  pub record Pair (cs : List ℕ) : Type 0 where
    pub one : ℕ
    pub other : ℕ
    pub one_in : Memᴰ one cs
    pub other_in : Memᴰ other cs
    pub above : one < other
    pub is : hold one other ≡ least_over top hold cs

  -- c with that cell
  first_pair : {c : ℕ} {ds : List ℕ} → Rising (suc c) ds → (w : With c ds) → least_over top hold (c ∷ ds) ≡ hold c w.cell → Pair (c ∷ ds)
  first_pair {c} on w e =
      record {
        one = c;
        other = w.cell;
        one_in = Memᴰ.head refl;
        other_in = Memᴰ.tail w.among;
        above = rising_least on w.among;
        is = sym e;
      }

  -- a pair of the later ones
  later_pair : {c : ℕ} {ds : List ℕ} (p : Pair ds) → least_over top hold (c ∷ ds) ≡ hold p.one p.other → Pair (c ∷ ds)
  later_pair p e =
      record {
        one = p.one;
        other = p.other;
        one_in = Memᴰ.tail p.one_in;
        other_in = Memᴰ.tail p.other_in;
        above = p.above;
        is = sym e;
      }

  least_pair : {k : ℕ} (c d : ℕ) (ds : List ℕ) → Rising k (c ∷ d ∷ ds) → Pair (c ∷ d ∷ ds)
  unfolding least_with least_over
  least_pair c d [] (next h on) = let w = least_with_lem c d [] in first_pair on w (omega (arith, w.is, most c w.cell))
  least_pair c d (e ∷ es) (next h on) = go (least_with_lem c d (e ∷ es)) (least_pair d e es on)
    where
      go : With c (d ∷ e ∷ es) → Pair (d ∷ e ∷ es) → Pair (c ∷ d ∷ e ∷ es)
      go w p = elim (dec_le (hold c w.cell) (hold p.one p.other)) [
        | yes le ↦ first_pair on w (omega (arith, w.is, p.is))
        | no more ↦ later_pair p (omega (arith, w.is, p.is))
      ]

  pub pair_of : {k : ℕ} (cs : List ℕ) → Rising k cs → 2 ≤ length cs → Pair cs
  pair_of [] r two = absurd (omega arith)
  pair_of (c ∷ []) r two = absurd (omega arith)
  pair_of (c ∷ d ∷ ds) r two = least_pair c d ds r

-- ---- holds

hold_few : (h : History) (most one other : ℕ) → hold_within most h one other ≤ most
unfolding hold_within
hold_few h zero one other = zero-le
hold_few h (suc c) one other = go (chains (closed h (suc c)) one other) (hold_few h c one other)
  where
    go : (t : Bool) → hold_within c h one other ≤ c → cond t (suc c) (hold_within c h one other) ≤ suc c
    go true le = le_refl (suc c)
    go false le = omega arith

hold_sym : (h : History) (most one other : ℕ) → hold_within most h one other ≡ hold_within most h other one
unfolding hold_within
hold_sym h zero one other = refl
hold_sym h (suc c) one other = rw (turned (suc c), hold_sym h c one other)
  where
    turned : (c : ℕ) → chains (closed h c) one other ≡ chains (closed h c) other one
    turned c =
        same_test _ _ (λ e. true_chains (chained_sym (chains_true (closed h c) one other e)))
        (λ e. true_chains (chained_sym (chains_true (closed h c) other one e)))

-- ---- the groups of a history

pub members : (h : History) (c d : ℕ) → Memᴰ d (group_in h c) ↔ ((d < cells) × Chained (window_of h) c d)
members h c d = (
  λ m. let w = filter_in _ (count_from 0 cells) m in (omega (arith, count_in 0 cells w.1), chains_true _ c d w.0),
  λ w. in_filter _ (in_count 0 cells zero-le (omega (arith, w.0))) (true_chains w.1),
)

pub group_rises : (h : History) (c : ℕ) → Rising 0 (group_in h c)
group_rises h c = filter_rises _ 0 cells

module _ {h : History} {s : State} (agrees : Agrees h s) where
  chain_hold : (chain : List ℕ) (one other : ℕ) → (gives_chain ours s chain one other).answer.number ≡ 0
      → (gives_chain ours s chain one other).answer.hold ≡ hold_of s.book.clock.n (held agrees) one other
  unfolding chain_of chain_by_number
  chain_hold chain one other e = go (chain_number s.book s.log chain one other) e
    where
      go : (k : ℕ) → (chain_by_number k s.book.clock s.book.counts s.log chain one other).answer.number ≡ 0
          → (chain_by_number k s.book.clock s.book.counts s.log chain one other).answer.hold ≡ hold_of s.book.clock.n (held agrees) one other
      go zero e = refl
      go (suc k) e = absurd (omega arith)

  -- what is true of the hold in the history is true of the chain call's
  chained_hold : (one other : ℕ) → one < cells → other < cells → Chained (window_of h) one other → (fact : ℕ → Type 0) → fact (hold_in h one other)
      → ChainHold s one other fact
  chained_hold one other p q x fact f chain places =
      let are : are_cells_of one other ≡ true = rw (lt-ltb one cells p) (lt-ltb other cells q) in
      let done = (answers agrees one other chain places are).done.1 x in
      (done, subst⁻¹ fact (chain_hold chain one other done ∙ hold_told agrees one other) f)

  module _ (c : ℕ) where
    -- the chain call of two cells of a group
    pair_hold : (one other : ℕ) → Memᴰ one (group_in h c) → Memᴰ other (group_in h c) → (fact : ℕ → Type 0) → fact (hold_in h one other)
        → ChainHold s one other fact
    pair_hold one other m n =
        let p = (members h c one).0 m in
        let q = (members h c other).0 n in
        chained_hold one other p.0 q.0 (chained_trans (chained_sym p.1) q.1)

    pub group_means : GroupMeans s h c
    group_means =
        record {
          members = members h c;
          once = group_rises h c;
          first = λ d m. rising_first (group_rises h c) m;
          none_less = λ one other m n apart. pair_hold one other m n (λ k. least_hold_in h c ≤ k) (least one other m n apart);
          reached = λ two. found (pair_of h.clock.n (hold_in h) (hold_few h h.clock.n) (group_in h c) (group_rises h c) two);
        }
      where
        least : (one other : ℕ) → Memᴰ one (group_in h c) → Memᴰ other (group_in h c) → (one ≡ other → ⊥)
            → least_hold_in h c ≤ hold_in h one other
        least one other m n apart =
            hold_most h.clock.n (hold_in h) (hold_in h one other) m n apart (le_refl _) (rw (hold_sym h h.clock.n other one) (le_refl _))

        found : Pair h.clock.n (hold_in h) (hold_few h h.clock.n) (group_in h c) → PairOf s (group_in h c) (least_hold_in h c)
        found p =
            record {
              one = p.one;
              other = p.other;
              one_in = p.one_in;
              other_in = p.other_in;
              different = p.above;
              holds = pair_hold p.one p.other p.one_in p.other_in (λ k. k ≡ least_hold_in h c) p.is;
            }
