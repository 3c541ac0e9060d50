use Rattle.std.proofs.Common.{sym, ◌∙◌, arith}
use Rattle.window.proofs.Putting.{put_link, put_no_link}
use Rattle.window.proofs.arrays.Links.put_pairs.Goals as goal
use Rattle.window.proofs.arrays.Links.put_pairs.Goals.{then-are_cells, else-are_cells}

pub loop-one-preserved : goal.loop-one-preserved
loop-one-preserved c =
    let now = c.loop-one.invariant in
    elim c.if-are_cells.branch [
      | then-are_cells w ↦ rw (w.self-is, w.end-is) (record { few = omega arith; put = put_link _ _ _ c.loop-one-test.true now.put (sym c.are_cells.ensures ∙ w.if-are_cells.true) })
      | else-are_cells w ↦ rw (w.self-is, w.end-is) (record { few = omega arith; put = put_no_link _ _ _ c.loop-one-test.true now.put (sym c.are_cells.ensures ∙ w.if-are_cells.false) })
    ]
