use Rattle.std.proofs.Common.{rules}
use Rattle.chain_fewest.proofs.Counting.{counting_begins, ready_back, counting_turns, counting_ends}
use Rattle.chain_fewest.proofs.levels.Search.count.Goals as goal

pub loop-self-init : goal.loop-self-init
loop-self-init c =
    let given = c.requires in
    counting_begins c.args.links c.args.self.now.remaining c.args.self.now.queue given.inside given.blank (search rules) (search rules)

pub reach-requires-in-loop-self : goal.reach-requires-in-loop-self
reach-requires-in-loop-self c = ready_back c.args.links c.loop-self.invariant c.reach.ensures

pub loop-self-preserved : goal.loop-self-preserved
loop-self-preserved c = counting_turns c.args.links c.loop-self.invariant c.reach.ensures c.reach-in-loop-self.ensures

pub returns : goal.returns
returns c = counting_ends c.loop-self.invariant c.loop-self-test.false
