-- The windows to come, if nothing is logged: c closings after the open slide k, the window is that of the history at slide k + c.
-- Each closing takes the links of one slide away, so the window at k + c has the links of slides k + c + 1 - n to k.
use Prim.Native.Nat.{ℕ, zero, suc, ◌+◌, ◌≤◌, ◌<◌}
use mathlib.Core.Path.{◌≡◌, refl, ap, ap₂, ◌∙◌, subst}
use mathlib.Core.Bool.{Bool, ◌&&◌, and-eq-true_iff}
use mathlib.Core.List.{List, [], ◌∷◌, map}
use mathlib.Core.Option.{some, some-injective}
use mathlib.Core.Logic.{◌↔◌}
use native.Mathlib.Omega.{arith}
use native.Mathlib.Nat.{add-zero}
use lib.Dec.{leb}
use borrow.Author.Tests.{le-leb, lt-ltb, ltb-true, leb-true}
use Rattle.graph.specs.Link.{Link}
use Rattle.graph.proofs.Chains.{Relinks}
use Rattle.slides.proofs.Slides.{moved_n}
use Rattle.demands.specs.History.{clock, History, open_slide_in, of_slides, number_in, added, added_by_number, one_more_of, history_from, links_of, in_window_of, window_at, window_of, links_since}
use Rattle.demands.specs.Agrees.{Sensible}
use Rattle.demands.proofs.Lists.{same_test, same_slides}
use Rattle.demands.proofs.BySlide.{of_slide, in_slide}

-- the links of the window c closings later
abbrev pub closed : History → ℕ → List Link
closed h c = links_of (window_at h (open_slide_in h + c))

pub closed_now : (h : History) → closed h 0 ≡ window_of h
closed_now h = ap (λ k. links_of (window_at h k)) (add-zero (open_slide_in h))

-- clock calls log nothing and leave n as it is, whether they are taken or refused
pub record Quiet (h later : History) : Type 0 where
  pub same_n : later.clock.n ≡ h.clock.n
  pub same_links : later.links ≡ h.links

clock_quiet : (h : History) (tick k : ℕ) → Quiet h (added_by_number k h (clock tick))
unfolding added_by_number added
clock_quiet h tick zero = record { same_n = moved_n h.clock tick; same_links = refl }
clock_quiet h tick (suc k) = record { same_n = refl; same_links = refl }

pub clocks_quiet : (room : Bool) (ticks : List ℕ) (h later : History) → history_from room (some h) (map clock ticks) ≡ some later → Quiet h later
unfolding history_from one_more_of
clocks_quiet room [] h later told = subst (Quiet h) (some-injective h later told) (record { same_n = refl; same_links = refl })
clocks_quiet room (t ∷ ts) h later told =
    let one = clock_quiet h t (number_in room h (clock t)) in
    let rest = clocks_quiet room ts (added_by_number (number_in room h (clock t)) h (clock t)) later told in
    record { same_n = rest.same_n ∙ one.same_n; same_links = rest.same_links ∙ one.same_links }

-- so the window after them is the one at the slide that is open then
pub window_then : {h later : History} → Quiet h later → window_of later ≡ links_of (window_at h (open_slide_in later))
window_then {h} {later} q = ap₂ (λ n links. links_of (of_slides (in_window_of n (open_slide_in later)) links)) q.same_n q.same_links

module _ {h : History} (sensible : Sensible h) where
  -- fewer closings leave more links
  pub closed_fewer : {c d : ℕ} → d ≤ c → Relinks (closed h c) (closed h d)
  closed_fewer {c} {d} le x y l =
      let i = in_slide (in_window_of h.clock.n (open_slide_in h + c)) sensible.falling x y l in
      let young : open_slide_in h + c < i.slide + h.clock.n = ltb-true _ _ ((and-eq-true_iff (leb i.slide (open_slide_in h + c)) _).0 i.picked).1 in
      of_slide _ i.slide h.links
      (rw (le-leb i.slide (open_slide_in h + d) (omega arith)) (lt-ltb (open_slide_in h + d) (i.slide + h.clock.n) (omega arith)))
      x y i.linked

  -- a window that starts with slide l has the links of slides l to k
  pub closed_since : (c l : ℕ) → ((t : ℕ) → t ≤ open_slide_in h → (open_slide_in h + c < t + h.clock.n) ↔ (l ≤ t)) → closed h c ≡ links_since h l
  closed_since c l starts =
      ap links_of
      (same_slides sensible.falling _ _
      (λ t le. same_test (in_window_of h.clock.n (open_slide_in h + c) t) (leb l t && leb t (open_slide_in h))
      (λ e. rw (le-leb l t ((starts t le).0 (ltb-true _ _ ((and-eq-true_iff (leb t (open_slide_in h + c)) _).0 e).1))) (le-leb _ _ le))
      (λ e. rw (le-leb t (open_slide_in h + c) (omega arith)) (lt-ltb _ _ ((starts t le).1 (leb-true l t ((and-eq-true_iff _ (leb t (open_slide_in h))).0 e).0))))))
