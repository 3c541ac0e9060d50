use Rattle.std.proofs.Common.{◌≡◌, ◌&&◌, eqb, sym, ap, ◌∙◌, rules}
use Rattle.forest_check.proofs.Doubling.{doubles_lack}
use Rattle.forest_check.proofs.Every.{tested_more, tested_all}
use Rattle.forest_check.proofs.Extremes.{none_more}
use Rattle.forest_check.proofs.Facts.{size_most}
use Rattle.forest_check.proofs.doubles.Goals as goal

pub lack-requires : goal.lack-requires
lack-requires c = size_most c.requires c.loop-i.i c.loop-i-test.true

pub loop-i-preserved : goal.loop-i-preserved
loop-i-preserved c =
    let at = c.loop-i in
    let test = c.loop-i-test.true in
    let more : eqb c.max-lacking.result 0 ≡ (eqb at.lacking 0 && eqb c.lack.result 0) = search (rules, none_more) in
    tested_more at.invariant test
    (more ∙ ap (λ t. eqb at.lacking 0 && t) (rw (c.lack.ensures, c.sizes_above-above.ensures at.i test) (sym (doubles_lack c.args.size.now at.i _))))

pub returns : goal.returns
returns c = tested_all c.loop-i.invariant c.loop-i-test.false
