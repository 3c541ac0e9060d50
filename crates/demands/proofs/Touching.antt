-- Only cells that touch are linked.
--
-- Before 14 a link asks whether both are cells, and so 14 is given exactly when they are and do not touch (`apart_told`). A link that was
-- taken has passed that check in the unit's numbers, and by the law of both mountings the lorry's touch too. A history has the links
-- that were taken, since an opening starts without any and no other call adds one.
use Prim.Native.Nat.{ℕ}
use mathlib.Core.Path.{◌≡◌, refl, ◌∙◌}
use mathlib.Core.Bool.{Bool, true, false}
use mathlib.Core.Logic.{◌↔◌}
use lib.Dec.{ltb}
use Rattle.graph.specs.Link.{Linked, along, against, here, there}
use Rattle.graph.proofs.Forests.{nothing_linked}
use Rattle.settings.specs.declared.Settings.{Settings}
use Rattle.cells.specs.Cell.{sectors, lorry_cell_of}
use Rattle.cells.specs.Touching.{touch}
use Rattle.cells.specs.Touching.Laws.{touch_symmetric, touch_itself}
use Rattle.cells.proofs.Touching.{lorry_touch}
use Rattle.cells.specs.declared.Fitting.{Fitting}
use Rattle.slides.specs.Clock.{not_before_of, slide_of}
use Rattle.book_state.specs.Numbers.{are_cells_of}
use Rattle.book_state.proofs.Checks.{two_cells}
use Rattle.numbers.proofs.Checks.{first_passed, unless_passed, never_asked, never_last, asked_here, asked_later}
use Rattle.demands.specs.History.{
  Call,
  opening,
  link,
  clock,
  History,
  how_many,
  slide_links,
  number_in,
  begun,
  with_time,
  lorry_link,
  with_link,
  added,
  links_of,
}
use Rattle.demands.specs.Implementation.{ours, State, gives}
use Rattle.demands.specs.Demands.{Touching}
use Rattle.demands.specs.Agrees.{Agrees}
use Rattle.demands.proofs.NumbersAgree.{number_agrees}
use Rattle.demands.proofs.Histories.{every_history}

-- ---- number 14

apart_told : (room : Bool) (h : History) (tick one other : ℕ) →
    (number_in room h (link tick one other) ≡ 14) ↔ ((are_cells_of one other ≡ true) × (touch one other ≡ false))
unfolding number_in
apart_told room h tick one other =
    asked_later 14 refl (are_cells_of one other) 2 _ refl
    (asked_here 14 refl (touch one other) _
    (never_asked 14 refl (not_before_of h.clock tick) 4 _ refl
    (never_asked 14 refl (ltb (how_many (slide_links (slide_of h.clock tick) h.links)) 256) 5 _ refl (never_last 14 refl))))

pub apart_agrees : {h : History} {s : State} → Agrees h s → (tick one other : ℕ) →
    ((gives ours s (link tick one other)).number ≡ 14) ↔ ((are_cells_of one other ≡ true) × (touch one other ≡ false))
apart_agrees {h} {s} a tick one other = rw (number_agrees a (link tick one other)) (apart_told _ h tick one other)

-- ---- both mountings

alike : (fitting : Fitting) (one other : ℕ) → are_cells_of one other ≡ true → touch (lorry_cell_of fitting one) (lorry_cell_of fitting other) ≡ touch one other
alike fitting one other are =
    let two = two_cells are in lorry_touch sectors fitting.mounting one other two.0 two.1

-- ---- the links of a history

-- every link is one of cells that touch
abbrev AllTouch : History → Type 0
AllTouch h = (one other : ℕ) → Linked one other (links_of h.links) → touch one other ≡ true

begun_touch : (s : Settings) → AllTouch (begun s)
begun_touch s one other l = absurd (nothing_linked l)

module _ (room : Bool) (h : History) (so_far : AllTouch h) where
  -- a link that was taken: the lorry's numbers of its cells touch
  taken_touch : (tick one other : ℕ) → number_in room h (link tick one other) ≡ 0
      → touch (lorry_cell_of h.fitting one) (lorry_cell_of h.fitting other) ≡ true
  unfolding number_in
  taken_touch tick one other e =
      let are = first_passed _ _ e in
      alike h.fitting one other (unless_passed _ 2 are.0) ∙ unless_passed _ 13 (first_passed _ _ are.1).0

  link_touch : (tick one other : ℕ) → number_in room h (link tick one other) ≡ 0 → AllTouch (with_link (with_time h tick) (lorry_link h one other))
  link_touch tick one other e a b (here (along p q)) = rw (← p, ← q) (taken_touch tick one other e)
  link_touch tick one other e a b (here (against p q)) = touch_symmetric sectors a b ∙ rw (← p, ← q) (taken_touch tick one other e)
  link_touch tick one other e a b (there l) = so_far a b l

  added_touch : (c : Call) → number_in room h c ≡ 0 → AllTouch (added h c)
  unfolding added
  added_touch (opening s) e = begun_touch s
  added_touch (link tick one other) e = link_touch tick one other e
  added_touch (clock tick) e = so_far

pub touching : Touching
touching =
    record {
      symmetric = touch_symmetric sectors;
      itself = touch_itself sectors;
      mountings = alike;
      linked = λ room cs h told. every_history AllTouch room begun_touch (λ h c e so_far. added_touch room h so_far c e) cs h told;
    }
