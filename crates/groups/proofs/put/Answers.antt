-- `groups::put` meets its contract where no check fails (proofs/Given.antt).
use Rattle.std.proofs.Common.{sym, ◌∙◌}
use Rattle.groups.proofs.Given.{gives}
use Rattle.groups.proofs.put.Goals as goal

pub returns : goal.returns
returns c =
    gives _ _ _ _ _ (sym c.in_ok-window.ensures.number) (sym c.have_room.ensures ∙ c.if-not-have_room.false) c.in_ok-window.ensures.given c.of_window-groups.ensures c.put.ensures.whole c.put-2.ensures.whole c.put-3.ensures.whole
