use Rattle.std.proofs.Common.{◌≤◌, length, arith, rules}
use Rattle.std.proofs.lemmas.Bool.Decides.{nat_tests}
use Rattle.std.proofs.lemmas.Grind.{common_steps}
use Rattle.std.proofs.lemmas.Option.{gets}
use Rattle.forest_check.proofs.Every.{tested_none, tested_first, tested_more, tested_all}
use Rattle.forest_check.proofs.Extremes.{both_more}
use Rattle.forest_check.proofs.all_within.Goals as goal

pub returns-in_default : goal.returns-in_default
returns-in_default c = let none : length c.args.numbers.now ≤ 0 = grind (arith, common_steps, gets) in tested_all tested_none none

pub loop-x-init : goal.loop-x-init
loop-x-init c = tested_first c.in-Some.ensures.value

pub loop-x-preserved : goal.loop-x-preserved
loop-x-preserved c = tested_more c.loop-x.invariant c.loop-x-test.true (search (rules, both_more))

pub returns-then-low-from : goal.returns-then-low-from
returns-then-low-from c = let all = tested_all c.loop-x.invariant c.loop-x-test.false in grind (arith, nat_tests)
