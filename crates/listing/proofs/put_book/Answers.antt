-- `listing::put_book` meets its contract: three parts, one after the other, of at most 47, 19,456 and 11 bytes.
use Rattle.std.proofs.Common.{◌≡◌, ◌≤◌, List, ℕ, length, ap, ◌∙◌, arith}
use Rattle.window.proofs.WindowLinks.{window_few}
use Rattle.text.specs.declared.Output.{Output}
use Rattle.text.specs.Output.{wrote}
use Rattle.text.proofs.Writing.{wrote_end, wrote_long}
use Rattle.listing.proofs.Lines.{groups_links}
use Rattle.listing.proofs.Printed.{links_line_short}
use Rattle.listing.proofs.put_book.Goals as goal
use Rattle.listing.proofs.put_book.Goals.{After-put_groups}

-- the room stays
long : (text : List ℕ) (o : Output) {after : Output} → after ≡ wrote text o → length after.bytes.now ≡ length o.bytes.now
long text o is = ap (λ o. length o.bytes.now) is ∙ wrote_long text o

few_links : (c : After-put_groups) → c.of_window-groups.result.links ≤ 4096
few_links c = rw (groups_links _ _ _ c.of_window-groups.ensures) (window_few _ _ _ c.requires.readable)

pub put_line-requires : goal.put_line-requires
put_line-requires c =
    let short = links_line_short c.of_window-groups.result.links (few_links (goal.at.put_line-requires c).After-put_groups) in
    omega (arith, short, c.requires.room, c.put_window.ensures.short, c.put_groups.ensures.short, long _ _ c.put_window.ensures.written, long _ _ c.put_groups.ensures.written)

pub returns-clause-short : goal.returns-clause-short
returns-clause-short c =
    let short = links_line_short c.of_window-groups.result.links (few_links (goal.at.returns-clause-short c).After-put_groups) in
    let end = ap (λ o. o.end) c.put_line.ensures ∙ wrote_end _ _ in
    omega (arith, end, short, c.requires.room, c.put_window.ensures.short, c.put_groups.ensures.short, long _ _ c.put_window.ensures.written, long _ _ c.put_groups.ensures.written, long _ _ c.put_line.ensures)
