use Rattle.std.proofs.Common.{◌≡◌, ◌<◌, sym, ◌∙◌, arith}
use Rattle.forest.specs.Arrays.{places}
use Rattle.forest_cross.proofs.Listing.{listing_begins, listing_before, listing_stays, listing_more, listing_ends, root_cell}
use Rattle.forest_cross.proofs.list_groups.Goals as goal
use Rattle.forest_cross.proofs.list_groups.Goals.{After-from-top}

pub loop-cell-init : goal.loop-cell-init
loop-cell-init c =
    let given = c.requires in
    (given.walks, listing_begins given.walks given.none)

-- a root stays
pub loop-cell-preserved-then-up_inside-here : goal.loop-cell-preserved-then-up_inside-here
loop-cell-preserved-then-up_inside-here c =
    let inv = c.loop-cell.invariant in
    (inv.0, listing_stays inv.0 (listing_before inv.1 (omega arith)) (sym c.up_inside.ensures ∙ c.if-up_inside-here.true))

-- the root is a cell
top_below : (c : After-from-top) → c.from-top.result < places
top_below c =
    let inv = c.loop-cell.invariant in
    rw (c.from-top.ensures, c.root_inside-root.ensures) (root_cell inv.0 (omega (arith, inv.1.within)))

pub bounds-next-top : goal.bounds-next-top
bounds-next-top c = top_below (goal.at.bounds-next-top c).After-from-top

pub bounds-next-top-in-loop-cell : goal.bounds-next-top-in-loop-cell
bounds-next-top-in-loop-cell c = top_below (goal.at.bounds-next-top-in-loop-cell c).After-from-top

pub loop-cell-preserved : goal.loop-cell-preserved
loop-cell-preserved c =
    let inv = c.loop-cell.invariant in (
      inv.0,
      rw c.from-top.ensures
          (listing_more inv.0 (listing_before inv.1 (omega arith)) (λ s. c.if-up_inside-here.false (c.up_inside.ensures ∙ s)) c.root_inside-root.ensures),
    )

pub returns : goal.returns
returns c =
    let inv = c.loop-cell.invariant in
    let all : c.loop-cell.cell ≡ 0 = omega arith in
    listing_ends inv.0 (rw all at inv.1)
