-- The lamps by what is known of each cell. A group is dark where one of its cells is bodywork: marked at the group's smallest cell, it is
-- told for each of its cells. Two cells have the same smallest cell exactly when links chain them, so a cell's group is dark exactly
-- when the cell is joined to a body cell.
use Prim.Native.Nat.{ℕ, ◌+◌, ◌<◌}
use mathlib.Core.Path.{◌≡◌, refl, sym, ap, ap₂, ◌∙◌}
use mathlib.Core.Bool.{Bool, true, false, cond, not, ◌&&◌, ◌||◌}
use mathlib.Core.List.{List}
use native.Mathlib.Decide.{ℕ_discrete}
use native.Mathlib.Numerals.{add-one}
use lib.Dec.{eqb}
use lib.ListN.{get_or, set, length-set, replicate, get_or-replicate}
use lib.Seq.{get_or-set_same, get_or-set_other}
use borrow.Author.Tests.{eq-eqb, ne_eqb}
use Rattle.graph.specs.Link.{Link, chains}
use Rattle.graph.proofs.Chains.{true_chains, false_chains}
use Rattle.cells.specs.Cell.{sectors}
use Rattle.slides.specs.declared.Clock.{Clock}
use Rattle.book_state.specs.Arrays.{cells}
use Rattle.window_ends.specs.declared.Ends.{Ends}
use Rattle.window_ends.specs.Ends.{is_end, links_in, ends_of_lem}
use Rattle.window_ends.proofs.Laws.{first_below, linked_at, same_first}
use Rattle.lamps.specs.Mask.{is_body}
use Rattle.lamps.specs.Zones.{Zone, in_zone_of}
use Rattle.lamps.specs.Lamps.{some_below, on_body, lights, lamp_from, lamp_in}
use Rattle.lamps.specs.Groups.{Firsts, body_in, Marks, lights_by}
use Rattle.lamps.proofs.Search.{some_agree, lamp_agree}

-- ---- the marks, cell by cell

-- no cell yet
pub marks_none : (first mask : List ℕ) → Marks first mask 0 (replicate cells 0)
unfolding some_below
marks_none first mask = record { long = refl; marked = λ g h. get_or-replicate cells g 0 0 h }

module _ {first mask : List ℕ} {i : ℕ} {dark : List ℕ} (so_far : Marks first mask i dark) where
  -- a body cell more
  pub marks_body : i < cells → get_or first i 0 < cells → get_or mask i 0 ≡ 1 → Marks first mask (i + 1) (set dark (get_or first i 0) 1)
  unfolding some_below
  marks_body h k body =
      record {
        long = length-set dark (get_or first i 0) 1 ∙ so_far.long;
        marked = λ g low. rw (add-one i, eq-eqb _ _ body) (at g low (ℕ_discrete (get_or first i 0) g));
      }
    where
      at : (g : ℕ) → g < cells → Dec (get_or first i 0 ≡ g) →
          get_or (set dark (get_or first i 0) 1) g 0 ≡ cond (eqb (get_or first i 0) g || body_in first mask i g) 1 0
      at g low (yes is) = rw (eq-eqb _ _ is, ← is) (get_or-set_same dark (get_or first i 0) 1 0 (rw so_far.long k))
      at g low (no other) = rw (ne_eqb _ _ other) (get_or-set_other dark (get_or first i 0) g 1 0 (λ e. other (sym e)) ∙ so_far.marked g low)

  -- a cell more that is none
  pub marks_other : (get_or mask i 0 ≡ 1 → ⊥) → Marks first mask (i + 1) dark
  unfolding some_below
  marks_other other =
      record { long = so_far.long; marked = λ g low. rw (add-one i, ne_eqb _ _ other) (so_far.marked g low) }

-- ---- by the links of the window

module _ (clock : Clock) (counts log mask : List ℕ) where
  abbrev links : List Link
  links = links_in clock counts log

  abbrev first : List ℕ
  first = (ends_of_lem clock counts log).first

  -- two cells have the same smallest cell exactly when links chain them
  same_chains : (c b : ℕ) → c < cells → b < cells → eqb (get_or first b 0) (get_or first c 0) ≡ chains links c b
  same_chains c b h k = elim (ℕ_discrete (get_or first c 0) (get_or first b 0)) [
    | yes is ↦ eq-eqb _ _ (sym is) ∙ sym (true_chains ((same_first clock counts log c b h k).0 is))
    | no other ↦ ne_eqb _ _ (λ e. other (sym e)) ∙ sym (false_chains links c b (λ x. other ((same_first clock counts log c b h k).1 x)))
  ]

  -- a cell is joined to bodywork exactly when its group has a body cell
  body_told : (c : ℕ) → c < cells → body_in first mask cells (get_or first c 0) ≡ on_body links mask c
  body_told c h = some_agree cells (λ b k. ap (λ t. is_body mask b && t) (same_chains c b h k))

  module _ {dark : List ℕ} (marks : Marks first mask cells dark) (zone : Zone) where
    dark_told : (c : ℕ) → c < cells → eqb (get_or dark (get_or first c 0) 0) 0 ≡ not (on_body links mask c)
    dark_told c h = ap (λ d. eqb d 0) (marks.marked _ (first_below clock counts log c h)) ∙ unmarked (body_in first mask cells (get_or first c 0)) ∙ ap not (body_told c h)
      where
        unmarked : (b : Bool) → eqb (cond b 1 0) 0 ≡ not b
        unmarked true = refl
        unmarked false = refl

    linked_told : (c : ℕ) → c < cells → not (eqb (get_or (ends_of_lem clock counts log).linked c 0) 0) ≡ is_end links c
    linked_told c h = ap (λ d. not (eqb d 0)) (linked_at clock counts log c h) ∙ marked (is_end links c)
      where
        marked : (b : Bool) → not (eqb (cond b 1 0) 0) ≡ b
        marked true = refl
        marked false = refl

    pub lights_told : (c : ℕ) → c < cells → lights_by zone first (ends_of_lem clock counts log).linked dark c ≡ lights links mask zone c
    lights_told c h = ap₂ (λ s t. in_zone_of sectors zone c && s && t) (linked_told c h) (dark_told c h)

-- ---- the lamps

-- the smallest cells of groups are cells
pub firsts : (clock : Clock) (counts log : List ℕ) {ends : Ends} → ends ≡ ends_of_lem clock counts log → Firsts ends.first
firsts clock counts log is c h = rw is (first_below clock counts log c h)

-- the lamp of a zone
pub lamp_told : (clock : Clock) (counts log mask : List ℕ) (zone : Zone) {ends : Ends} {dark : List ℕ} → ends ≡ ends_of_lem clock counts log →
    Marks ends.first mask cells dark → lamp_from (lights_by zone ends.first ends.linked dark) 0 cells ≡ lamp_in (links_in clock counts log) mask zone
lamp_told clock counts log mask zone {ends} {dark} is marks =
    rw is (lamp_agree 0 cells (λ c h. lights_told clock counts log mask (rw is at marks) zone c h))
