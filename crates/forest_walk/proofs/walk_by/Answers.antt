use Rattle.forest.proofs.Climb.{stays, goes, ended}
use Rattle.forest_walk.proofs.walk_by.Goals as goal

pub returns-then-above-at : goal.returns-then-above-at
returns-then-above-at g c step law =
    let inv = c.loop-steps.invariant in
    stays step _ _ (inv.reached step law) (law _ _ inv.callable c.up-above.ensures) c.if-above-at.true

pub loop-steps-preserved : goal.loop-steps-preserved
loop-steps-preserved g c =
    let inv = c.loop-steps.invariant in
    record {
      callable = c.requires.further _ _ inv.callable c.up-above.ensures;
      reached =
          λ step law.
          goes step _ _ (inv.reached step law) (law _ _ inv.callable c.up-above.ensures) c.if-above-at.false c.loop-steps-test.true;
    }

pub returns : goal.returns
returns g c step law = ended step _ _ (c.loop-steps.invariant.reached step law) c.loop-steps-test.false
