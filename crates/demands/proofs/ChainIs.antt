-- Demand 3, Chain: what the chain call promises of a book that agrees with a history, as every book does that calls have left.
--
-- Let j be the largest label such that the window's links with label j or more chain the two. Links with label c + 1 or more are
-- those of the window c closings later (Window). So two different cells are chained c closings later exactly when c < j, and the hold
-- is j - 1. The last window that chains them has the links of slides L to k, with L + n = k + j; it does not start before slide 0,
-- since otherwise one closing more would lose no link.
use Prim.Native.Nat.{ℕ, suc, ◌+◌, ◌-◌, ◌≤◌, ◌<◌, zero-le}
use mathlib.Core.Path.{◌≡◌, refl, ◌∙◌, ap, subst⁻¹}
use mathlib.Core.Bool.{Bool, true, false}
use mathlib.Core.List.{List, [], ◌∷◌, ◌++◌, map}
use mathlib.Core.Logic.{◌↔◌}
use mathlib.Core.Option.{some}
use native.Mathlib.Omega.{arith}
use native.Mathlib.Nat.{le_refl}
use native.Mathlib.Decide.{dec_le, ℕ_discrete}
use lib.Dec.{ltb}
use lib.ListN.{length, take, drop}
use lib.Seq.{take-append_seam, drop-append_seam}
use borrow.Author.Tests.{lt-ltb, ltb-true}
use Rattle.graph.specs.Link.{Chained, same, chains}
use Rattle.graph.specs.Forest.{Labelled}
use Rattle.graph.specs.Trail.{Best}
use Rattle.graph.proofs.Chains.{Relinks, chained_relink, chained_alone, chains_true, true_chains, chains_false}
use Rattle.graph.proofs.Trails.{best_same, best_relink}
use Rattle.graph.proofs.Finder.{trail_of_best, best_trail_of}
use Rattle.numbers.specs.Checks.{first_of, unless, has}
use Rattle.book_state.specs.Numbers.{are_cells_of}
use Rattle.book_joined.specs.Joined.{joined_of}
use Rattle.window.specs.Window.{window_links, links_from_label}
use Rattle.window.proofs.Highest.{chained_highest, highest_chained, highest_most}
use Rattle.chain.specs.Chain.{ChainOutcome, chain_places, label_of, chain_cells, chain_number, chain_by_number}
use Rattle.demands.specs.History.{clock, History, history_from, open_slide_in, window_of, links_since}
use Rattle.demands.specs.Implementation.{ours, State, after, gives_chain}
use Rattle.demands.specs.Demands.{room_in, ChainGiven, DifferentCells, Itself, Answers, Chain}
use Rattle.demands.specs.Agrees.{Agrees}
use Rattle.demands.proofs.Lists.{same_test}
use Rattle.numbers.proofs.Checks.{first_last, passes}
use Rattle.demands.proofs.NumbersAgree.{chain_gives_lem}
use Rattle.demands.proofs.ChainFits.{chain_done, fits}
use Rattle.demands.proofs.InOrder.{agrees_in_order}
use Rattle.demands.proofs.Keeps.{keeps, keeps_on}
use Rattle.demands.proofs.Closings.{closed, clocks_quiet, window_then, closed_now, closed_fewer, closed_since}
use Rattle.demands.proofs.Window.{none_above, book_window, window_book}
use Rattle.demands.proofs.JoinedIs.{joined_window}

module _ {h : History} {s : State} (agrees : Agrees h s) (one other : ℕ) where
  -- the window's links as the book holds them, and the largest label such that those with that label or more chain the two
  abbrev held : List Labelled
  held = window_links s.book.clock s.book.counts s.log

  abbrev label : ℕ
  label = label_of s.book.clock s.book.counts s.log one other

  abbrev path : List ℕ
  path = chain_cells s.book.clock s.book.counts s.log one other

  -- L
  abbrev newest : ℕ
  newest = open_slide_in h + label - h.clock.n

  n_is : s.book.clock.n ≡ h.clock.n
  n_is = ap (λ c. c.n) agrees.clock

  -- ---- the label and the windows to come

  label_suc : 0 < label → label ≡ suc (label - 1)
  label_suc l = omega arith

  label_held : 0 < label → Chained (links_from_label label held) one other
  label_held l = highest_chained held one other (suc s.book.clock.n) label l (le_refl label)

  -- the links with that label or more are those of the window label - 1 closings later
  held_closed : 0 < label → Relinks (links_from_label label held) (closed h (label - 1))
  held_closed l = subst⁻¹ (λ i. Relinks (links_from_label i held) (closed h (label - 1))) (label_suc l) (book_window agrees (label - 1))

  closed_held : 0 < label → Relinks (closed h (label - 1)) (links_from_label label held)
  closed_held l = subst⁻¹ (λ i. Relinks (closed h (label - 1)) (links_from_label i held)) (label_suc l) (window_book agrees (label - 1))

  label_closed : (c : ℕ) → c < label → Chained (closed h c) one other
  label_closed c l =
      let some : 0 < label = omega arith in
      chained_relink (closed_fewer agrees.sensible {c = label - 1} (omega arith)) (chained_relink (held_closed some) (label_held some))

  closed_label : (c : ℕ) → c ≤ h.clock.n → Chained (closed h c) one other → c < label
  closed_label c le x = chained_highest held one other _ (suc c) (omega (arith, n_is)) (chained_relink (window_book agrees c) x)

  -- after n closings no link is left
  none_left : (c : ℕ) → h.clock.n ≤ c → Chained (closed h c) one other → one ≡ other
  none_left c le x = chained_alone (λ y l. none_above s.book.clock s.book.counts s.log (suc c) (omega (arith, n_is)) one y l) (chained_relink (window_book agrees c) x)

  label_window : ltb 0 label ≡ chains (window_of h) one other
  label_window =
      same_test _ _ (λ e. true_chains (rw (← (closed_now h)) (label_closed 0 (ltb-true _ _ e))))
      (λ e. lt-ltb 0 label (closed_label 0 zero-le (rw (closed_now h) (chains_true (window_of h) one other e))))

  -- a cell and itself are chained with no link at all
  label_itself : one ≡ other → label ≡ suc h.clock.n
  label_itself e =
      omega (arith, n_is, highest_most held one other (suc s.book.clock.n), closed_label h.clock.n (le_refl _) (same e))

  module _ (different : one ≡ other → ⊥) where
    -- two different cells stay chained for fewer closings than the label says
    closed_is : (c : ℕ) → Chained (closed h c) one other ↔ (c < label)
    closed_is c = (λ x. go (dec_le c h.clock.n) x, label_closed c)
      where
        go : Dec (c ≤ h.clock.n) → Chained (closed h c) one other → c < label
        go (yes le) x = closed_label c le x
        go (no d) x = absurd (different (none_left c (omega arith) x))

    label_most : label ≤ h.clock.n
    label_most = go (dec_le label h.clock.n)
      where
        go : Dec (label ≤ h.clock.n) → label ≤ h.clock.n
        go (yes le) = le
        go (no d) = absurd (different (none_left h.clock.n (le_refl _) (label_closed h.clock.n (omega arith))))

    -- no window starts before slide 0
    label_least : 0 < label → h.clock.n ≤ open_slide_in h + label
    label_least l = go (dec_le h.clock.n (open_slide_in h + label))
      where
        whole : (c : ℕ) → open_slide_in h + c < h.clock.n → closed h c ≡ links_since h 0
        whole c young = closed_since agrees.sensible c 0 (λ t le. (λ _. zero-le, λ _. omega arith))

        go : Dec (h.clock.n ≤ open_slide_in h + label) → h.clock.n ≤ open_slide_in h + label
        go (yes le) = le
        go (no d) =
            let on : label < label = (closed_is label).0 (rw (whole label (omega arith), ← (whole (label - 1) (omega arith))) (label_closed (label - 1) (omega arith))) in
            absurd (omega arith)

  -- ---- L, and the chain

  -- the last window that chains the two starts with slide L
  since_newest : (one ≡ other → ⊥) → 0 < label → closed h (label - 1) ≡ links_since h newest
  since_newest different l =
      let from : h.clock.n ≤ open_slide_in h + label = label_least different l in
      closed_since agrees.sensible (label - 1) newest (λ t le. (λ e. omega arith, λ e. omega arith))

  newest_is : 0 < label → newest + h.clock.n ≡ open_slide_in h + label
  newest_is l = go (ℕ_discrete one other)
    where
      go : Dec (one ≡ other) → newest + h.clock.n ≡ open_slide_in h + label
      go (yes e) = omega (arith, label_itself e)
      go (no different) = omega (arith, label_least different l)

  path_best : 0 < label → Best (links_since h newest) one other path
  path_best l = go (ℕ_discrete one other)
    where
      go : Dec (one ≡ other) → Best (links_since h newest) one other path
      go (yes e) = rw (best_trail_of (best_same e)) (best_same e)
      go (no different) = rw (← (since_newest different l)) (best_relink (held_closed l) (closed_held l) (trail_of_best (label_held l)))

  -- ---- the number

  module _ (chain : List ℕ) where
    chain_number_lem : chain_number s.book s.log chain one other
        ≡ first_of
        (unless (has chain_places chain) 6
        ∷ unless (are_cells_of one other) 3
        ∷ unless (chains (window_of h) one other) 7
        ∷ [])
    unfolding chain_number
    chain_number_lem = passes 1 _ (agrees_in_order agrees) ∙ rw (agrees.room, label_window)

    abbrev given : ChainOutcome
    given =
        record {
          answer = record { newest = newest; cells = length path; hold = label - 1; number = 0 };
          chain = path ++ drop (length path) chain;
        }

    chain_given : (gives_chain ours s chain one other).answer.number ≡ 0 → gives_chain ours s chain one other ≡ given
    unfolding chain_by_number
    chain_given e = chain_done s chain one other e ∙ rw agrees.clock

    -- ---- where it gives 0

    given_handed : 0 < label → ChainGiven h chain one other given
    given_handed l =
        record {
          best = rw front (path_best l);
          long = ap length front;
          rest = drop-append_seam path (drop (length path) chain);
          hold = omega (arith, newest_is l);
        }
      where
        front : take (length path) (path ++ drop (length path) chain) ≡ path
        front = take-append_seam path (drop (length path) chain)

    given_itself : one ≡ other → Itself h one given
    given_itself e =
        record {
          newest = omega (arith, label_itself e);
          hold = omega (arith, label_itself e);
          cell = take-append_seam path (drop (length path) chain) ∙ best_trail_of (best_same e);
        }

    -- c closings later, where clock calls reach that slide
    later_joined : are_cells_of one other ≡ true → (c : ℕ) (ticks : List ℕ) (later : History) → history_from (room_in s) (some h) (map clock ticks) ≡ some later →
        open_slide_in later ≡ open_slide_in h + c → ((joined_of (after ours s (map clock ticks)).book one other).yes ≡ true) ↔ Chained (closed h c) one other
    later_joined are c ticks later told e =
        rw (← e, ← (window_then (clocks_quiet (room_in s) ticks h later told))) (joined_window (keeps_on agrees (map clock ticks) later told) one other are)

    given_apart : are_cells_of one other ≡ true → 0 < label → (one ≡ other → ⊥) → DifferentCells ours s h one other given.answer
    given_apart are l different =
        record {
          chained = rw (← (since_newest different l)) (label_closed (label - 1) (omega arith));
          largest = largest;
          few = omega (arith, label_most different);
          closings = λ c. (λ x. omega (arith, (closed_is different c).0 x), λ le. label_closed c (omega arith));
          clocks = λ c ticks later told e. (
            λ x. omega (arith, (closed_is different c).0 ((later_joined are c ticks later told e).0 x)),
            λ le. (later_joined are c ticks later told e).1 (label_closed c (omega arith)),
          );
        }
      where
        largest : (m : ℕ) → newest < m → Chained (links_since h m) one other → ⊥
        largest m above x =
            let c : ℕ = m + h.clock.n - open_slide_in h - 1 in
            let from : newest + h.clock.n ≡ open_slide_in h + label = newest_is l in
            let at : closed h c ≡ links_since h m = closed_since agrees.sensible c m (λ t le. (λ e. omega arith, λ e. omega arith)) in
            let below : c < label = (closed_is different c).0 (rw at x) in
            omega arith

    module _ (places : has chain_places chain ≡ true) (are : are_cells_of one other ≡ true) where
      abbrev number : ℕ
      number = (gives_chain ours s chain one other).answer.number

      number_is : number ≡ unless (chains (window_of h) one other) 7
      unfolding first_of
      number_is = chain_gives_lem s.book s.log chain one other ∙ chain_number_lem ∙ rw (places, are) (first_last _)

      done : (number ≡ 0) ↔ Chained (window_of h) one other
      done = rw number_is (go (chains (window_of h) one other) refl)
        where
          go : (t : Bool) → chains (window_of h) one other ≡ t → (unless t 7 ≡ 0) ↔ Chained (window_of h) one other
          go true e = (λ _. chains_true _ one other e, λ _. refl)
          go false e = (λ q. absurd (omega arith), λ x. absurd (chains_false _ one other e x))

      no_trail_lem : (number ≡ 7) ↔ (Chained (window_of h) one other → ⊥)
      no_trail_lem = rw number_is (go (chains (window_of h) one other) refl)
        where
          go : (t : Bool) → chains (window_of h) one other ≡ t → (unless t 7 ≡ 7) ↔ (Chained (window_of h) one other → ⊥)
          go true e = (λ q. absurd (omega arith), λ none. absurd (none (chains_true _ one other e)))
          go false e = (λ _. chains_false _ one other e, λ _. refl)

      positive : number ≡ 0 → 0 < label
      positive e = closed_label 0 zero-le (rw (closed_now h) (done.0 e))

      pub answers : Answers ours s h chain one other (gives_chain ours s chain one other)
      answers =
          record {
            no_trail_lem = no_trail_lem;
            done = done;
            joins = (λ y. done.1 ((joined_window agrees one other are).0 y), λ e. (joined_window agrees one other are).1 (done.0 e));
            handed = λ e. rw (chain_given e) (given_handed (positive e));
            different = λ e different. rw (chain_given e) (given_apart are (positive e) different);
            itself = λ e. rw (chain_given (done.1 (same e))) (given_itself e);
          }

-- ---- after any calls

pub chain : Chain ours
chain =
    record {
      number = λ s cs h told chain one other. chain_gives_lem (after ours s cs).book (after ours s cs).log chain one other ∙ chain_number_lem (keeps s cs h told) one other chain;
      answers = λ s cs h told chain places one other are. answers (keeps s cs h told) one other chain places are;
      fits = fits;
    }
