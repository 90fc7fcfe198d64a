use Rattle.std.proofs.Common.{rules}
use Rattle.lines.proofs.Turns.{goes_again, goes_over, goes_left}
use Rattle.lines.proofs.reduction.goes.Goals as goal

pub loop-p-preserved : goal.loop-p-preserved
loop-p-preserved c = let l = c.loop-p in rw c.pick-states.ensures (goes_again c.args.m.by l.p-index l.rest l.states _ (search rules) l.invariant)

pub returns-after-loop-p : goal.returns-after-loop-p
returns-after-loop-p c = let l = c.loop-p in goes_over c.args.m.by l.p-index l.rest l.states _ (search rules) l.invariant

pub returns-then-rest-eq0 : goal.returns-then-rest-eq0
returns-then-rest-eq0 c = let l = c.loop-p in goes_left c.args.m.by l.p-index l.rest l.states _ (search rules) l.invariant
