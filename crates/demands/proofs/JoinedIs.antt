-- Demand 2, Joined: what the joined call promises of a book that agrees with a history, as every book does that calls have left.
--
-- Yes: it goes by the parent steps of the two forests, the backward ones at the cut. The forward steps chain what the links of the
-- open chunk chain. The backward steps chain what is chained by those links of the chunk before that the cut leaves (Steps, with the
-- paper's Lemma 5.6). Together these are the links of the window (Split).
-- Steps: the arrays hold the forests of the history, so the four walks are the same walks, and each is at most 10 long.
use Prim.Native.Nat.{ℕ, zero, suc, ◌+◌, ◌≤◌, zero-le}
use mathlib.Core.Path.{◌≡◌, ◌∙◌, ap, ap₂, subst}
use mathlib.Core.Bool.{true}
use mathlib.Core.Logic.{◌↔◌}
use native.Mathlib.Nat.{le_refl}
use native.Mathlib.Omega.{arith}
use Rattle.graph.specs.Link.{Chained, chains}
use Rattle.graph.specs.Forest.{climb, walk, walk_at_of, parent_at, forest_of, at_least}
use Rattle.graph.proofs.Chains.{chained_relink, chains_true, true_chains}
use Rattle.graph.proofs.Forests.{walk_ends, walk_short}
use Rattle.graph.proofs.Cut.{each_at_least, cut_is_forest, walk_at_short, walk_at_ends}
use Rattle.slides.proofs.Slides.{place_rest}
use Rattle.forest.specs.Arrays.{parent_in, parent_at_in}
use Rattle.book_state.specs.declared.Book.{Book}
use Rattle.book_state.specs.Arrays.{step_limit}
use Rattle.book_state.specs.Order.{in_order_of}
use Rattle.book_joined.specs.Joined as calls
use Rattle.numbers.specs.Checks.{first_of}
use Rattle.book_state.specs.Numbers.{are_cells_of}
use Rattle.book_joined.specs.Joined.{cut_of, step_links, four_walks, joined_of, joined_by_number, joined_number_of}
use Rattle.demands.specs.History.{History, open_slide_in, window_of, backward_links}
use Rattle.demands.specs.Implementation.{State, ours}
use Rattle.demands.specs.Demands.{cut_in, forward_step_count, backward_step_count, WalksEnd, Joined}
use Rattle.demands.specs.Agrees.{Sensible, Agrees}
use Rattle.demands.proofs.InOrder.{agrees_in_order}
use Rattle.demands.proofs.Forests.{forward_ends_lem, backward_ends_lem}
use Rattle.demands.proofs.Keeps.{keeps}
use Rattle.book_joined.proofs.Steps.{Steps, forward_steps, backward_steps}
use Rattle.demands.proofs.Steps.{forest_chain, chained_both}
use Rattle.demands.proofs.Split.{wide, backward_falls, backward_part, forward_part, window_parts, parts_window}

-- ---- the walks of a history

module _ {h : History} (sensible : Sensible h) where
  pub walks_end : (c : ℕ) → WalksEnd h c
  walks_end c =
      record {
        backward = walk_at_ends (le_refl step_limit) (backward_ends_lem sensible) (backward_falls sensible) (cut_in h) c;
        forward = walk_ends (le_refl step_limit) (forward_ends_lem sensible) c;
        backward_short = walk_at_short (le_refl step_limit) (backward_ends_lem sensible) (backward_falls sensible) (cut_in h) c;
        forward_short = walk_short (le_refl step_limit) (forward_ends_lem sensible) c;
      }

-- the answer of a book that is in order, for two cells
joined_cells : (b : Book) (one other : ℕ) → in_order_of b ≡ true → are_cells_of one other ≡ true →
    joined_of b one other ≡ record { number = 0; yes = chains (step_links b) one other; steps = four_walks b one other }
unfolding joined_of joined_number_of joined_by_number first_of
joined_cells b one other in_order are = rw (in_order, are)

module _ {h : History} {s : State} (agrees : Agrees h s) where
  -- the cut is that of the history
  cut_is : cut_of s.book ≡ cut_in h
  cut_is = rw agrees.clock (ap (λ p. p + 1) (place_rest h.clock (wide agrees.sensible) (open_slide_in h)))

  -- ---- yes

  forward_chain : (x y : ℕ) → Chained (calls.parent_steps 0 s.book.forward_parent) x y ↔ Chained (forward_part h) x y
  forward_chain =
      forest_chain (le_refl step_limit) (forward_ends_lem agrees.sensible)
      (subst (λ up. Steps up 0 (calls.parent_steps 0 s.book.forward_parent)) agrees.forward_parents (forward_steps s.book.forward_parent))

  -- at the cut the backward lists hold the forest of the links that the cut leaves
  backward_up : parent_at_in s.book.backward_parent s.book.backward_label (cut_of s.book) ≡ (forest_of step_limit (at_least (cut_in h) (backward_links h))).parent
  backward_up =
      ap₂ parent_at agrees.backward cut_is ∙ cut_is_forest (le_refl step_limit) (backward_ends_lem agrees.sensible) (backward_falls agrees.sensible) (cut_in h)

  backward_chain : (x y : ℕ) →
      Chained (calls.parent_steps_at (cut_of s.book) 0 s.book.backward_parent s.book.backward_label) x y ↔ Chained (backward_part h) x y
  backward_chain =
      forest_chain (le_refl step_limit) (each_at_least (cut_in h) (backward_ends_lem agrees.sensible))
      (subst (λ up. Steps up 0 (calls.parent_steps_at (cut_of s.book) 0 s.book.backward_parent s.book.backward_label)) backward_up
      (backward_steps (cut_of s.book) _ _ (omega arith)))

  -- the steps chain exactly what the window's links chain
  steps_window : (one other : ℕ) → Chained (step_links s.book) one other ↔ Chained (window_of h) one other
  unfolding step_links
  steps_window one other = (
    λ c. chained_relink (parts_window agrees.sensible) (chained_both (λ x y. (backward_chain x y).0) (λ x y. (forward_chain x y).0) c),
    λ c. chained_both (λ x y. (backward_chain x y).1) (λ x y. (forward_chain x y).1) (chained_relink (window_parts agrees.sensible) c),
  )

  yes_window : (one other : ℕ) → (chains (step_links s.book) one other ≡ true) ↔ Chained (window_of h) one other
  yes_window one other = (
    λ e. (steps_window one other).0 (chains_true _ one other e),
    λ c. true_chains ((steps_window one other).1 c),
  )

  -- what joined says of two cells
  pub joined_window : (one other : ℕ) → are_cells_of one other ≡ true → ((joined_of s.book one other).yes ≡ true) ↔ Chained (window_of h) one other
  joined_window one other are = rw (joined_cells s.book one other (agrees_in_order agrees) are) (yes_window one other)

  -- ---- steps

  backward_walk : (c : ℕ) → (climb (parent_at_in s.book.backward_parent s.book.backward_label (cut_of s.book)) step_limit c).steps ≡ backward_step_count h c
  unfolding walk_at_of
  backward_walk c = ap₂ (λ f cut. (walk_at_of step_limit f cut c).steps) agrees.backward cut_is

  forward_walk : (c : ℕ) → (climb (parent_in s.book.forward_parent) step_limit c).steps ≡ forward_step_count h c
  unfolding walk
  forward_walk c = ap (λ up. (climb up step_limit c).steps) agrees.forward_parents

  four_walks_lem : (one other : ℕ) → four_walks s.book one other ≡ backward_step_count h one + backward_step_count h other + forward_step_count h one + forward_step_count h other
  unfolding four_walks
  four_walks_lem one other = rw (backward_walk one, backward_walk other, forward_walk one, forward_walk other)

  pub joined_steps : (one other : ℕ) → are_cells_of one other ≡ true →
      (joined_of s.book one other).steps ≡ backward_step_count h one + backward_step_count h other + forward_step_count h one + forward_step_count h other
  joined_steps one other are = rw (joined_cells s.book one other (agrees_in_order agrees) are) (four_walks_lem one other)

  few_steps : (one other : ℕ) → four_walks s.book one other ≤ 40
  few_steps one other =
      let a : WalksEnd h one = walks_end agrees.sensible one in
      let b : WalksEnd h other = walks_end agrees.sensible other in
      omega (arith, four_walks_lem one other)

  -- a refusal counts no steps
  pub joined_few : (one other : ℕ) → (joined_of s.book one other).steps ≤ 40
  unfolding joined_of joined_by_number
  joined_few one other = go (joined_number_of s.book one other)
    where
      go : (number : ℕ) → (joined_by_number number s.book one other).steps ≤ 40
      go zero = few_steps one other
      go (suc k) = zero-le

-- ---- after any calls

-- calls keep a book and its history in agreement (Keeps), and such a book is in order (InOrder)
pub joined : Joined ours
joined =
    record {
      chained = λ s cs h told. joined_window (keeps s cs h told);
      steps = λ s cs h told. joined_steps (keeps s cs h told);
      few = λ s cs h told. joined_few (keeps s cs h told);
      ends = λ s cs h told. walks_end (keeps s cs h told).sensible;
    }
