-- What the lamps mean: a crate above goes by these laws and opens none of the definitions.
--
-- A lamp is lit exactly when some cell lights it, and then its cell is the smallest; and a cell lights the lamp of its zone exactly when it is
-- linked and chained with no body cell.
use Prim.Native.Nat.{ℕ, ◌≤◌, ◌<◌}
use mathlib.Core.Path.{◌≡◌, refl, sym, ◌∙◌}
use mathlib.Core.Bool.{Bool, true, false, not, ◌&&◌, and-eq-true_iff, true≢false}
use mathlib.Core.List.{List}
use mathlib.Core.Logic.{◌↔◌}
use native.Mathlib.Omega.{arith}
use Rattle.std.proofs.Common.{is_some, unwrap_or}
use borrow.Author.Tests.{not-true}
use Rattle.graph.specs.Link.{Link, Linked, Chained, chains}
use Rattle.graph.proofs.Chains.{chains_true, true_chains}
use Rattle.cells.specs.Cell.{sectors}
use Rattle.book_state.specs.Arrays.{cells}
use Rattle.window_ends.specs.Ends.{is_end}
use Rattle.window_ends.proofs.Laws.{end_linked, linked_end}
use Rattle.lamps.specs.Mask.{is_body}
use Rattle.lamps.specs.Zones.{Zone, in_zone_of}
use Rattle.lamps.specs.Zones.Laws.{zone_low}
use Rattle.lamps.specs.Lamps.{on_body, lights, lamp_in}
use Rattle.lamps.proofs.Search.{some_true, true_some, lit_by, dark_zero, lit}

-- in a zone there are cells alone
pub zone_cell : (zone : Zone) (c : ℕ) → in_zone_of sectors zone c ≡ true → c < cells
zone_cell zone c e = omega (arith, zone_low sectors zone c (omega arith) e)

module _ (links : List Link) (mask : List ℕ) (zone : Zone) where
  -- a cell that lights the lamp
  pub record Lights (c : ℕ) : Type 0 where
    pub inside : in_zone_of sectors zone c ≡ true
    pub linked : (d : ℕ) × Linked c d links
    pub free : (b : ℕ) → b < cells → is_body mask b ≡ true → Chained links c b → ⊥

  pub lights_is : (c : ℕ) → (lights links mask zone c ≡ true) ↔ Lights c
  lights_is c = (asked, answered)
    where
      asked : lights links mask zone c ≡ true → Lights c
      asked e =
          let w = (and-eq-true_iff (in_zone_of sectors zone c && is_end links c) (not (on_body links mask c))).0 e in
          let v = (and-eq-true_iff (in_zone_of sectors zone c) (is_end links c)).0 w.0 in
          record {
            inside = v.0;
            linked = end_linked links c v.1;
            free = λ b h body chained.
                true≢false (sym (some_true cells (λ d. is_body mask d && chains links c d) h ((and-eq-true_iff _ _).1 (body, true_chains chained))) ∙ not-true _ w.1);
          }

      free_told : Lights c → (b : Bool) → on_body links mask c ≡ b → not b ≡ true
      free_told l false e = refl
      free_told l true e =
          let w = true_some cells (λ d. is_body mask d && chains links c d) e in
          let v = (and-eq-true_iff (is_body mask w.0) (chains links c w.0)).0 w.2 in
          absurd (l.free w.0 w.1 v.0 (chains_true links c w.0 v.1))

      answered : Lights c → lights links mask zone c ≡ true
      answered l =
          (and-eq-true_iff (in_zone_of sectors zone c && is_end links c) (not (on_body links mask c))).1
          ((and-eq-true_iff (in_zone_of sectors zone c) (is_end links c)).1 (l.inside, linked_end links c l.linked.0 l.linked.1), free_told l _ refl)

  -- what a lamp says
  pub record LampSays (is-lit : Bool) (cell : ℕ) : Type 0 where
    pub lit : (is-lit ≡ true) ↔ ((c : ℕ) × Lights c)
    pub smallest : is-lit ≡ true → Lights cell × ((c : ℕ) → Lights c → cell ≤ c)
    pub dark : is-lit ≡ false → cell ≡ 0

  pub lamp_says : LampSays (is_some (lamp_in links mask zone)) (unwrap_or (lamp_in links mask zone) 0)
  lamp_says =
      record {
        lit = (
          λ e. (_, (lights_is _).0 (lit_by (lights links mask zone) 0 cells e).0),
          λ w. lit (lights links mask zone) 0 cells (omega arith) (omega (arith, zone_cell zone w.0 w.1.inside)) ((lights_is w.0).1 w.1),
        );
        smallest = λ e.
            let w = lit_by (lights links mask zone) 0 cells e in
            ((lights_is _).0 w.0, λ c l. w.1 c (omega arith) ((lights_is c).1 l));
        dark = dark_zero (lamp_in links mask zone);
      }
