use Rattle.queues.proofs.Entries.{pushing_turn, pushing_end}
use Rattle.queues.proofs.Queue.push_all.Goals as goal

pub loop-c-preserved : goal.loop-c-preserved
loop-c-preserved c = pushing_turn _ _ _ _ _ c.loop-c.invariant _ _ c.loop-c-test.true c.wait.ensures

pub returns : goal.returns
returns c = pushing_end _ _ _ _ _ c.loop-c.invariant c.loop-c-test.false
