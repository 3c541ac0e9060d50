-- The lamps after any calls.
--
-- A state that calls have left agrees with the history (Keeps): its book is in order and its log has its places, so the number is 0 or
-- 15. The links of the window that it holds link and chain the cells that those of the history's window do (WindowIs), and joined says
-- by these whether two cells are chained (JoinedIs). So what the crate lamps says of the links that are held (its laws) is what the
-- history says, and nothing of the book's forests is looked at here.
use Prim.Native.Nat.{ℕ, suc, ◌≤◌, ◌<◌}
use mathlib.Core.Path.{◌≡◌, refl, sym, ap, ◌∙◌}
use mathlib.Core.Bool.{Bool, true, false, true≢false, and-eq-true_iff}
use mathlib.Core.List.{List}
use mathlib.Core.Logic.Iff
use mathlib.Core.Logic.{◌↔◌, ◌⊎◌}
use native.Mathlib.Omega.{arith}
use lib.ListN.{length, get_or}
use Rattle.std.proofs.Common.{is_some, unwrap_or}
use borrow.Author.Tests.{lt-ltb, eqb-true}
use Rattle.numbers.specs.Checks.{unless}
use Rattle.numbers.proofs.Checks.{passes, first_last, checked}
use Rattle.graph.specs.Link.{Linked}
use Rattle.cells.specs.Cell.{sectors, ring_of, sector_of}
use Rattle.book_state.specs.declared.Book.{Book}
use Rattle.book_state.specs.Arrays.{cells}
use Rattle.book_state.specs.Numbers.{are_cells_of}
use Rattle.book_state.specs.Order.{in_order_of}
use Rattle.window_ends.specs.Ends.{links_in}
use Rattle.lamps.specs.Lamps.{lamp_in, lamps_number_in, lamps_by_number, lamps_of}
use Rattle.lamps.specs.Mask.{is_mask_of, is_body}
use Rattle.lamps.specs.Zones.{Zone, left_zone, right_zone, in_zone_of}
use Rattle.lamps.specs.Zones.Laws.{in_zone_lem}
use Rattle.lamps.proofs.Laws as laws
use Rattle.lamps.proofs.Mask.{no_mask}
use Rattle.demands.specs.History.{History, window_of}
use Rattle.demands.specs.Implementation.{ours, State, gives_lamps}
use Rattle.demands.specs.Demands.{Zones, Lights, LampIs, Lamps}
use Rattle.demands.specs.WindowIs.{held_links}
use Rattle.demands.specs.Agrees.{Agrees}
use Rattle.demands.proofs.InOrder.{agrees_in_order}
use Rattle.demands.proofs.JoinedIs.{joined_window}
use Rattle.demands.proofs.Keeps.{keeps}
use Rattle.demands.proofs.NumbersAgree.{itself}
use Rattle.demands.proofs.WindowIs.{agrees_window}

-- ---- the zones

-- a zone by its last sector
by_last : (zone : Zone) (last : ℕ) → zone.end ≡ suc last → (c : ℕ) →
    (in_zone_of sectors zone c ≡ true) ↔ ((ring_of sectors c ≤ 5) × (zone.from ≤ sector_of sectors c) × (sector_of sectors c ≤ last))
by_last zone last end c =
    let is = in_zone_lem sectors zone c in (
      λ e. let w = is.0 e in (omega (arith, w.0), w.1, omega (arith, w.2, end)),
      λ w. is.1 (omega (arith, w.0), w.1, omega (arith, w.2, end)),
    )

zones : Zones
zones = record { left = by_last (left_zone sectors) 63 refl; right = by_last (right_zone sectors) 31 refl }

-- ---- the call

pub lamps_gives_lem : (b : Book) (log mask : List ℕ) → (lamps_of b log mask).number ≡ lamps_number_in (in_order_of b) log mask
unfolding lamps_of lamps_by_number
lamps_gives_lem b log mask = itself (λ k. (lamps_by_number k (links_in b.clock b.counts log) mask).number) refl (λ k. refl) _

module _ {h : History} {s : State} (agrees : Agrees h s) where
  -- ---- the number

  pub lamps_number : (mask : List ℕ) → (gives_lamps ours s mask).number ≡ unless (is_mask_of cells mask) 15
  lamps_number mask = lamps_gives_lem s.book s.log mask ∙ passes 1 _ (agrees_in_order agrees) ∙ passes 6 _ agrees.room ∙ first_last _

  pub lamps_fifteen : (mask : List ℕ) →
      ((gives_lamps ours s mask).number ≡ 15) ↔ ((length mask < cells) ⊎ ((i : ℕ) × (i < cells) × (1 < get_or mask i 0)))
  lamps_fifteen mask = rw (lamps_number mask) (Iff.trans (checked 15 refl (is_mask_of cells mask)) (no_mask cells mask))

  -- ---- the links of the window

  module _ (mask : List ℕ) (zone : Zone) where
    -- a cell of the zone and one of the mask are cells
    both : (c b : ℕ) → in_zone_of sectors zone c ≡ true → b < cells → are_cells_of c b ≡ true
    both c b e h = (and-eq-true_iff _ _).1 (lt-ltb _ _ (laws.zone_cell zone c e), lt-ltb _ _ h)

    -- by the links that are held, and by the history and joined
    told : (c : ℕ) → laws.Lights (held_links s) mask zone c → Lights ours s h mask zone c
    told c l =
        record {
          inside = l.inside;
          linked = (l.linked.0, ((agrees_window agrees).linked c _).0 l.linked.1);
          free = λ b k body. not_joined b k body _ refl;
        }
      where
        not_joined : (b : ℕ) → b < cells → is_body mask b ≡ true → (yes : Bool) → (ours.joined_gives s.book c b).yes ≡ yes → (ours.joined_gives s.book c b).yes ≡ false
        not_joined b k body false e = e
        not_joined b k body true e =
            absurd (l.free b k body (((agrees_window agrees).chained c b).1 ((joined_window agrees c b (both c b l.inside k)).0 e)))

    held : (c : ℕ) → Lights ours s h mask zone c → laws.Lights (held_links s) mask zone c
    held c l =
        record {
          inside = l.inside;
          linked = (l.linked.0, ((agrees_window agrees).linked c _).1 l.linked.1);
          free = λ b k body chained.
              true≢false (sym ((joined_window agrees c b (both c b l.inside k)).1 (((agrees_window agrees).chained c b).0 chained)) ∙ l.free b k body);
        }

    -- nothing is bodywork: then a linked cell of the zone lights the lamp
    unmasked : ((b : ℕ) → b < cells → get_or mask b 0 ≡ 0) → (c : ℕ) → in_zone_of sectors zone c ≡ true → (d : ℕ) × Linked c d (window_of h) → Lights ours s h mask zone c
    unmasked bare c inside linked =
        record { inside = inside; linked = linked; free = λ b k body. absurd (omega (arith, bare b k, eqb-true (get_or mask b 0) 1 body)) }

    lamp_told : LampIs ours s h mask zone (is_some (lamp_in (held_links s) mask zone)) (unwrap_or (lamp_in (held_links s) mask zone) 0)
    lamp_told =
        let says = laws.lamp_says (held_links s) mask zone in
        record {
          lit = (λ e. let w = says.lit.0 e in (w.0, told _ w.1), λ w. says.lit.1 (w.0, held _ w.1));
          smallest = λ e. let w = says.smallest e in (told _ w.0, λ c l. w.1 c (held c l));
          dark = says.dark;
          bare = λ none. (
            λ e. let w = says.lit.0 e in let l = told _ w.1 in (w.0, l.inside, l.linked),
            λ w. says.lit.1 (w.0, held _ (unmasked none w.0 w.1 w.2)),
          );
        }

  -- ---- both lamps

  module _ (mask : List ℕ) (is : is_mask_of cells mask ≡ true) where
    done : lamps_of s.book s.log mask ≡ lamps_by_number 0 (held_links s) mask
    unfolding lamps_of
    done = ap (λ k. lamps_by_number k (held_links s) mask) (sym (lamps_gives_lem s.book s.log mask) ∙ lamps_number mask ∙ ap (λ t. unless t 15) is)

    pub left_told : LampIs ours s h mask (left_zone sectors) (gives_lamps ours s mask).left (gives_lamps ours s mask).left_cell
    unfolding lamps_by_number
    left_told = rw done (lamp_told mask (left_zone sectors))

    pub right_told : LampIs ours s h mask (right_zone sectors) (gives_lamps ours s mask).right (gives_lamps ours s mask).right_cell
    unfolding lamps_by_number
    right_told = rw done (lamp_told mask (right_zone sectors))

pub lamps : Lamps ours
lamps =
    record {
      zones = zones;
      number = λ s cs h told. lamps_number (keeps s cs h told);
      fifteen = λ s cs h told. lamps_fifteen (keeps s cs h told);
      left = λ s cs h told. left_told (keeps s cs h told);
      right = λ s cs h told. right_told (keeps s cs h told);
    }
