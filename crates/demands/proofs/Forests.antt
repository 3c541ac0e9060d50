-- The links of a history's two forests: both ends of each are cells, and the forward forest's steps have the label 0.
use Prim.Native.Nat.{ℕ, ◌+◌, ◌/◌, ◌%◌, ◌≤◌}
use mathlib.Core.Path.{◌≡◌, refl}
use mathlib.Core.Bool.{Bool, true, false, ◌&&◌}
use mathlib.Core.List.{List, [], ◌∷◌, map}
use native.Mathlib.Nat.{le_refl}
use lib.Dec.{eqb, leb}
use Rattle.graph.specs.Forest.{Labelled, Each, empty, also, EndsBelow}
use Rattle.book_state.specs.Arrays.{cells}
use Rattle.book_state.proofs.Built.{each_reverse}
use Rattle.demands.specs.History.{Stored, History, chunk_in, of_slides, forward_links, backward_links}
use Rattle.demands.specs.Agrees.{Falling, none, next, Sensible}
use Rattle.demands.proofs.BySlide.{label_by}

pub each_made : {P : Labelled → Type 0} (make : Stored → Labelled) → ((s : Stored) → P (make s)) → (ss : List Stored) → Each P (map make ss)
each_made make p [] = empty
each_made make p (s ∷ ss) = also (p s) (each_made make p ss)

-- the links of the forward forest, newest first
abbrev pub of_chunk : History → List Stored
of_chunk h = of_slides (λ t. eqb (t / h.clock.n) (chunk_in h)) h.links

-- the links of the backward forest, newest first
abbrev pub scanned : History → List Stored
scanned h = of_slides (λ t. eqb (t / h.clock.n + 1) (chunk_in h) && leb 1 (t % h.clock.n)) h.links

ends_of : {k : ℕ} {ss : List Stored} → Falling k ss → (wanted : ℕ → Bool) (label : ℕ → ℕ)
    → EndsBelow cells (map (label_by label) (of_slides wanted ss))
unfolding of_slides
ends_of none wanted label = empty
ends_of (next {s} {ss} p one other on) wanted label = go (wanted s.slide) refl (ends_of on wanted label)
  where
    go : (t : Bool) → wanted s.slide ≡ t → EndsBelow cells (map (label_by label) (of_slides wanted ss))
        → EndsBelow cells (map (label_by label) (of_slides wanted (s ∷ ss)))
    go true e on = rw e (also (one, other) on)
    go false e on = rw e on

module _ {h : History} (sensible : Sensible h) where
  pub forward_ends_lem : EndsBelow cells (forward_links h)
  forward_ends_lem = ends_of sensible.falling _ _

  pub backward_ends_lem : EndsBelow cells (backward_links h)
  backward_ends_lem = each_reverse (ends_of sensible.falling _ _)

-- all steps of the forward forest have the label 0
pub forward_labels : (h : History) → Each (λ x. x.label ≤ 0) (forward_links h)
forward_labels h = each_made (label_by (λ t. 0)) (λ s. le_refl 0) (of_chunk h)
