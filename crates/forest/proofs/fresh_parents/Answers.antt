-- `forest::fresh_parents` meets its contract: entry c is c.
use Rattle.std.proofs.Common.{◌≡◌, sym, ◌∙◌, arith, rules, get_or}
use lib.Seq.{ext_get_or}
use Rattle.forest.specs.Arrays.{places}
use Rattle.forest.proofs.Fill.{length_count_from, get_d_count_from}
use Rattle.forest.proofs.fresh_parents.Goals as goal

pub returns : goal.returns
returns c =
    let made = c.from_fn.ensures.items in
    ext_get_or 0 _ _ (made.long ∙ sym (length_count_from 0 places))
    (λ k h.
    let called = made.at k 0 (omega (arith, made.long)) in
    let own : get_or c.from_fn.result k 0 ≡ k = search rules in
    omega (arith, get_d_count_from 0 places k 0))
