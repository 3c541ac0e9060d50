-- A book that agrees with a history is in order: number 1 never comes from it.
--
-- The clock and the mounting of a history are in range. The lists hold forests of links between cells, with places as labels; the
-- crate graph has the laws on the ranges and walks of such forests.
use Prim.Native.Nat.{◌%◌, ◌≤◌}
use mathlib.Core.Path.{◌≡◌, ap}
use mathlib.Core.Bool.{true}
use native.Mathlib.Omega.{arith}
use native.Mathlib.Nat.{mod-lt}
use Rattle.graph.specs.Forest.{Each}
use Rattle.settings.specs.Settings.{held_in_range}
use Rattle.slides.specs.Clock.{clock_in_range}
use Rattle.slides.proofs.Slides.{InRange, in_range_lem}
use Rattle.book_state.specs.Order.{in_order_of}
use Rattle.demands.specs.History.{Stored, History, backward_links}
use Rattle.demands.specs.Implementation.{State}
use Rattle.demands.specs.Agrees.{Sensible, Agrees}
use Rattle.demands.proofs.BySlide.{label_by}
use Rattle.demands.proofs.Forests.{scanned, each_made, forward_ends_lem, backward_ends_lem}
use Rattle.book_state.proofs.Built.{each_reverse, forest_sound, forest_labels}
use Rattle.book_state.proofs.Checks.{few_counts}

-- labels are places
pub backward_labels : (h : History) → Sensible h → Each (λ x. x.label ≤ 15) (backward_links h)
backward_labels h sensible = each_reverse (each_made (label_by (λ t. t % h.clock.n)) place (scanned h))
  where
    r : InRange h.clock
    r = sensible.range

    place : (s : Stored) → s.slide % h.clock.n ≤ 15
    place s = omega (arith, mod-lt s.slide r.n_least, r.n_most)

module _ {h : History} {s : State} (a : Agrees h s) where
  pub agrees_in_order : in_order_of s.book ≡ true
  unfolding in_order_of
  agrees_in_order =
      simp (
        clock,
        settings,
        few_counts s.book.counts a.counts_few,
        forest_sound s.book.forward_parent s.book.forward_size a.forward_long a.forward_parents a.forward_sizes
            (forward_ends_lem a.sensible),
        forest_sound s.book.backward_parent s.book.backward_size (a.backward_long.0, a.backward_long.1)
            (ap (λ f. f.parent) a.backward) (ap (λ f. f.size) a.backward) (backward_ends_lem a.sensible),
        forest_labels s.book.backward_label (ap (λ f. f.label) a.backward) (backward_ends_lem a.sensible) 15
            (backward_labels h a.sensible),
      )
    where
      clock : clock_in_range s.book.clock ≡ true
      clock = rw a.clock ((in_range_lem h.clock).1 a.sensible.range)

      settings : held_in_range s.book.clock.n s.book.clock.b s.book.fitting.mounting ≡ true
      settings = rw (a.clock, a.fitting) a.sensible.held
