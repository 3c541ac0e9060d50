-- A link that is stored keeps a book and its log in agreement with the history.
--
-- It goes to the front of the history's links, with the open slide. The count at that slide's spot grows by one, and the pair stands
-- in the log after those that were there. Every other live slide has another spot, so its count and its links stay as they were. The
-- forward forest has one link more, and its lists hold that (the crate forest_unite). The backward forest stays as it was, since the
-- open slide is not of the chunk before.
use Prim.Native.Nat.{ℕ, ◌+◌, ◌%◌, ◌≤◌, ◌<◌}
use mathlib.Core.Path.{◌≡◌, refl, sym, ◌∙◌, ap, fun_ext}
use mathlib.Core.Logic.{inl}
use mathlib.Core.List.{◌∷◌, map, reverse, reverse-cons}
use native.Mathlib.Omega.{arith}
use native.Mathlib.Nat.{le_refl}
use native.Mathlib.Numerals.{add-one}
use native.Mathlib.Decide.{ℕ_discrete}
use lib.ListN.{length-replicate, length, get_or, set, length-set}
use lib.Seq.{get_or-set_same, get_or-set_other}
use borrow.Author.Tests.{eq-eqb, ne_eqb}
use Rattle.graph.specs.Link.{Link}
use Rattle.graph.specs.Forest.{Labelled, forest_of}
use Rattle.graph.proofs.Cut.{label_bounded}
use Rattle.forest.specs.Arrays.{label_in, fresh_labels_of}
use Rattle.book_state.specs.Arrays.{cells, step_limit, Arrays, united}
use Rattle.book_state.specs.Log.{start_of}
use Rattle.book_state.specs.Numbers.{log_places}
use Rattle.book.specs.Calls.{link_stored}
use Rattle.demands.specs.History.{Stored, History, open_slide_in, chunk_in, how_many, slide_links, links_of, with_link, forward_links, backward_links}
use Rattle.demands.specs.Implementation.{State, state_of}
use Rattle.demands.specs.Demands.{forward_forest}
use Rattle.demands.specs.Agrees.{next, Sensible, Live, spot_in_of, SlideKept, Agrees}
use Rattle.numbers.proofs.Checks.{has_places, has_long}
use Rattle.demands.proofs.Lists.{taken_one, left_one}
use Rattle.demands.proofs.BySlide.{label_by}
use Rattle.demands.proofs.Forests.{forward_labels, forward_ends_lem}
use Rattle.book_time.proofs.Moves.{zeros}
use Rattle.book_state.proofs.Built.{Holds, holds_more}
use Rattle.demands.proofs.Log.{paired_long, paired, links_other_spot, links_stored}
use Rattle.demands.proofs.Spots.{spot_below, spot_open, spot_apart}

module _ {h : History} {s : State} (a : Agrees h s) (l : Link) (one : l.one < cells) (other : l.other < cells)
    (few : how_many (slide_links (open_slide_in h) h.links) < 256) where
  -- ---- the history with one link more

  abbrev stored : Stored
  stored = record { slide = open_slide_in h; link = l }

  slide_here : slide_links (open_slide_in h) (stored ∷ h.links) ≡ stored ∷ slide_links (open_slide_in h) h.links
  slide_here = taken_one _ stored h.links (eq-eqb (open_slide_in h) (open_slide_in h) refl)

  slide_other : (t : ℕ) → (t ≡ open_slide_in h → ⊥) → slide_links t (stored ∷ h.links) ≡ slide_links t h.links
  slide_other t n = left_one _ stored h.links (ne_eqb _ _ (λ e. n (sym e)))

  link_sensible : Sensible (with_link h l)
  unfolding how_many
  link_sensible =
      record {
        range = a.sensible.range;
        held = a.sensible.held;
        falling = next (le_refl _) one other a.sensible.falling;
        few = λ t. go t (ℕ_discrete t (open_slide_in h));
      }
    where
      go : (t : ℕ) → Dec (t ≡ open_slide_in h) → how_many (slide_links t (stored ∷ h.links)) ≤ 256
      go t (yes e) = rw (e, slide_here) few
      go t (no n) = rw (slide_other t n) (a.sensible.few t)

  -- ---- the counts and the log

  abbrev spot : ℕ
  spot = spot_in_of h (open_slide_in h)

  abbrev count : ℕ
  count = how_many (slide_links (open_slide_in h) h.links)

  abbrev new : State
  new = state_of (link_stored s.book s.log l.one l.other)

  here : SlideKept h s (open_slide_in h)
  here = a.kept (open_slide_in h) (inl refl)

  new_counts : new.book.counts ≡ set s.book.counts spot (count + 1)
  unfolding link_stored
  new_counts = rw (spot_open h a.sensible s.book.clock a.clock, here.count)

  new_log : new.log ≡ paired s.log (start_of spot + (count + count)) l
  unfolding link_stored
  new_log = rw (spot_open h a.sensible s.book.clock a.clock, here.count)

  spot_in : spot < length s.book.counts
  spot_in = rw a.counts_long (spot_below h a.sensible (open_slide_in h))

  kept_here : SlideKept (with_link h l) new (open_slide_in h)
  unfolding how_many
  kept_here =
      record {
        count = rw (new_counts, slide_here) (get_or-set_same s.book.counts spot (count + 1) 0 spot_in ∙ add-one count);
        links =
            rw (new_log, slide_here)
            (links_stored s.log (start_of spot) count l one other
            (omega (arith, has_places log_places s.log a.room, spot_below h a.sensible (open_slide_in h)))
            ∙ rw here.links (sym (reverse-cons l (links_of (slide_links (open_slide_in h) h.links)))));
      }

  kept_other : (t : ℕ) → Live h t → (t ≡ open_slide_in h → ⊥) → SlideKept (with_link h l) new t
  kept_other t live n =
      record {
        count =
            rw (new_counts, slide_other t n)
            (get_or-set_other s.book.counts spot (spot_in_of h t) (count + 1) 0 different ∙ (a.kept t live).count);
        links =
            rw (new_log, slide_other t n)
            (links_other_spot s.log spot count l (spot_in_of h t) _ different few (a.sensible.few t) ∙ (a.kept t live).links);
      }
    where
      different : spot_in_of h t ≡ spot → ⊥
      different e = n (spot_apart h a.sensible t (open_slide_in h) live (inl refl) e)

  count_most : (i : ℕ) → get_or new.book.counts i 0 ≤ 256
  count_most i = rw new_counts (go (ℕ_discrete i spot))
    where
      go : Dec (i ≡ spot) → get_or (set s.book.counts spot (count + 1)) i 0 ≤ 256
      go (yes e) = rw (e, get_or-set_same s.book.counts spot (count + 1) 0 spot_in) (omega arith)
      go (no n) = rw (get_or-set_other s.book.counts spot i (count + 1) 0 n) (a.counts_few i)

  -- ---- the forests

  abbrev made : Labelled
  made = record { label = 0; link = l }

  forward_more : forward_links (with_link h l) ≡ made ∷ forward_links h
  forward_more = ap (map (label_by (λ t. 0))) (taken_one _ stored h.links (eq-eqb (chunk_in h) (chunk_in h) refl))

  backward_same : backward_links (with_link h l) ≡ backward_links h
  backward_same =
      ap (λ ss. reverse (map (label_by (λ t. t % h.clock.n)) ss))
      (left_one _ stored h.links (rw (ne_eqb (chunk_in h + 1) (chunk_in h) (omega arith))))

  -- the forward forest as lists: all its labels are 0, so the book does not hold them
  abbrev lists : Arrays
  lists = record { parents = s.book.forward_parent; sizes = s.book.forward_size; labels = fresh_labels_of cells }

  forward_holds : Holds (forward_links h) lists
  forward_holds =
      record {
        parents_long = a.forward_long.0;
        sizes_long = a.forward_long.1;
        labels_long = length-replicate {A = ℕ} cells 0;
        holds = λ i. record { parent = a.forward_parents i; size = a.forward_sizes i; label = fun_ext zero_label i };
      }
    where
      zero_label : (c : ℕ) → label_in (fresh_labels_of cells) c ≡ (forward_forest h).label c
      zero_label c =
          omega (arith, zeros cells c, label_bounded (le_refl 10) (forward_ends_lem a.sensible) 0 (forward_labels h) c)

  new_holds : Holds (forward_links (with_link h l)) (united lists made)
  new_holds = rw forward_more (holds_more made (one, other) (forward_ends_lem a.sensible) forward_holds)

  pub link_agrees : Agrees (with_link h l) (state_of (link_stored s.book s.log l.one l.other))
  unfolding link_stored united
  link_agrees =
      record {
        sensible = link_sensible;
        clock = a.clock;
        fitting = a.fitting;
        room = has_long log_places new.log s.log (paired_long s.log _ l) ∙ a.room;
        counts_long = length-set s.book.counts _ _ ∙ a.counts_long;
        counts_few = count_most;
        kept = λ t live. go t live (ℕ_discrete t (open_slide_in h));
        forward_long = (new_holds.parents_long, new_holds.sizes_long);
        backward_long = a.backward_long;
        forward_parents = ap (λ f. f.parent) new_holds.holds;
        forward_sizes = ap (λ f. f.size) new_holds.holds;
        backward = a.backward ∙ ap (forest_of step_limit) (sym backward_same);
      }
    where
      go : (t : ℕ) → Live h t → Dec (t ≡ open_slide_in h) → SlideKept (with_link h l) new t
      go t live (yes e) = rw e kept_here
      go t live (no n) = kept_other t live n
