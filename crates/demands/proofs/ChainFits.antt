-- Every chain that is handed back fits (`fits`), whatever the book and the log are: it has 1 to 1,024 cells, and none of them twice.
--
-- The links of a window are between cells, for every book and log (the crate window), and a best trail over links between cells below
-- 1,024 has at most 1,024 cells, none of them twice (the crate graph).
use Prim.Native.Nat.{ℕ, suc, ◌≤◌, ◌<◌}
use mathlib.Core.Path.{◌≡◌, sym, ◌∙◌, ap}
use mathlib.Core.Bool.{true}
use mathlib.Core.List.{List, map}
use native.Mathlib.Nat.{le_refl}
use lib.ListN.{length, take, drop}
use lib.Seq.{take-append_seam}
use borrow.Author.Tests.{ltb-true}
use Rattle.graph.specs.Link.{along, against, here, there}
use Rattle.graph.specs.Forest.{Labelled, also, EndsBelow}
use Rattle.graph.specs.Trail.{Best}
use Rattle.graph.proofs.Cut.{each_at_least}
use Rattle.graph.proofs.Trails.{trail_one}
use Rattle.graph.proofs.Distinct.{Inside, best_once, best_few}
use Rattle.graph.proofs.Finder.{trail_of_best}
use Rattle.slides.specs.declared.Clock.{Clock}
use Rattle.book_state.specs.Arrays.{cells}
use Rattle.book_state.specs.Numbers.{are_cells_of}
use Rattle.book_state.proofs.Checks.{two_cells}
use Rattle.numbers.specs.Front.{at_front}
use Rattle.numbers.proofs.Checks.{all_passed, unless_passed}
use Rattle.window.specs.Window.{window_links, links_from_label}
use Rattle.window.proofs.Highest.{highest_chained}
use Rattle.window.proofs.WindowLinks.{window_ends_lem}
use Rattle.chain.specs.Chain.{label_of, chain_cells, chain_number, chain_by_number, chain_of}
use Rattle.demands.specs.Implementation.{ours, State, gives_chain}
use Rattle.demands.specs.Demands.{Fits}
use Rattle.demands.proofs.NumbersAgree.{chain_gives_lem}

-- both ends of each link are below n
inside : {n : ℕ} {xs : List Labelled} → EndsBelow n xs → Inside n (map (λ x. x.link) xs)
inside {n = n} Rattle.graph.specs.Forest.empty x y h = elim h [ ]
inside (also p ps) x y (here (along e f)) = rw (← e) p.0
inside (also p ps) x y (here (against e f)) = rw (← f) p.1
inside (also p ps) x y (there l) = inside ps x y l

module _ (clock : Clock) (counts log : List ℕ) (one other : ℕ) (trail : 0 < label_of clock counts log one other) where
  chain_best : Best (links_from_label (label_of clock counts log one other) (window_links clock counts log)) one other (chain_cells clock counts log one other)
  chain_best =
      trail_of_best (highest_chained (window_links clock counts log) one other (suc clock.n) (label_of clock counts log one other) trail (le_refl _))

  pub chain_few : one < cells → length (chain_cells clock counts log one other) ≤ cells
  chain_few below = best_few cells (inside (each_at_least (label_of clock counts log one other) (window_ends_lem clock counts log))) below chain_best

module _ (s : State) (chain : List ℕ) (one other : ℕ) where
  abbrev label : ℕ
  label = label_of s.book.clock s.book.counts s.log one other

  abbrev path : List ℕ
  path = chain_cells s.book.clock s.book.counts s.log one other

  module _ (done : (gives_chain ours s chain one other).answer.number ≡ 0) where
    number_0 : chain_number s.book s.log chain one other ≡ 0
    number_0 = sym (chain_gives_lem s.book s.log chain one other) ∙ done

    -- what a call that gives 0 gives
    pub chain_done : gives_chain ours s chain one other ≡ chain_by_number 0 s.book.clock s.book.counts s.log chain one other
    unfolding chain_of
    chain_done = ap (λ k. chain_by_number k s.book.clock s.book.counts s.log chain one other) number_0

    passed : (are_cells_of one other ≡ true) × (0 < label)
    unfolding chain_number
    passed = let all = all_passed _ number_0 in (unless_passed _ 2 (all 2), ltb-true _ _ (unless_passed _ 6 (all 3)))

    pub fits : Fits (gives_chain ours s chain one other)
    unfolding chain_by_number
    fits =
        rw chain_done
        (record {
          some = trail_one best.trail;
          few = chain_few s.book.clock s.book.counts s.log one other passed.1 (two_cells {other = other} passed.0).0;
          long = ap length front;
          once = rw front (best_once best);
        })
      where
        best : Best (links_from_label label (window_links s.book.clock s.book.counts s.log)) one other path
        best = chain_best s.book.clock s.book.counts s.log one other passed.1

        front : take (length path) (at_front path chain) ≡ path
        front = take-append_seam path (drop (length path) chain)
