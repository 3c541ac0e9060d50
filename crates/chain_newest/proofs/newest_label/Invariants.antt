-- `chain_newest::newest_label` meets its contract: the newest `age` slides are joined (proofs/Newest.antt), and of the slide of that age the pairs
-- before the index (proofs/Following.antt), until the two cells meet.
use Rattle.chain_newest.proofs.Following.{Joining}
use Rattle.chain_newest.proofs.Newest.{Searching}
use Rattle.chain_newest.proofs.newest_label.Given as goal

abbrev pub invariant-loop-age : goal.invariant-loop-age
invariant-loop-age l = Searching l.window.clock l.window.counts.now l.window.log.now l.one l.other l.parent l.roots l.age

abbrev pub invariant-loop-a : goal.invariant-loop-a
invariant-loop-a l = Joining l.pairs l.initial.parent l.initial.roots l.a-index l.parent l.roots
