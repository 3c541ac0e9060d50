-- `forest_check::walks_end` meets its contract: a cell's own test is whether its walk ends.
use Rattle.std.proofs.Common.{arith, rules, tests, length, zero-add, sym, ◌∙◌, refl}
use Rattle.std.proofs.lemmas.Iterator.{YieldsList-from_range}
use Rattle.std.proofs.lemmas.Iterator.Search.{all_from_yields_List}
use Rattle.forest.specs.Arrays.{parent_in}
use Rattle.forest_check.specs.Sound.{ends, ends_from_of}
use Rattle.forest_check.proofs.Ends.{ends_from_ends}
use Rattle.forest_check.proofs.Every.{all_every}
use Rattle.forest_check.proofs.walks_end.Goals as goal

pub returns : goal.returns
returns c =
    let ps = c.args.parent.now in
    let limit = c.args.limit in
    all_from_yields_List (ends (parent_in ps) limit) _ _ _ c.all.ensures.ran (YieldsList-from_range 0 (length ps) (length ps) refl (omega arith))
    (λ x b q k. search (rules, tests))
    ∙ all_every (ends_from_of ps limit) (ends (parent_in ps) limit) ps 0 (λ k h. rw zero-add (sym (ends_from_ends ps limit k h)))
