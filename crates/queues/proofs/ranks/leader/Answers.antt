use mathlib.Core.Path.{sym, ◌∙◌}
use Rattle.queues.proofs.Leading.{leader_start, leader_turn, leader_last}
use Rattle.queues.proofs.ranks.leader.Goals as goal

pub loop-c-init : goal.loop-c-init
loop-c-init g c = λ q w. leader_start _ q c.args.n

pub loop-c-preserved : goal.loop-c-preserved
loop-c-preserved g c = λ q w.
    let h = c.loop-c-test.true in leader_turn _ q c.args.n c.loop-c.c _ _ _ h (w c.loop-c.c c.rank.result h c.rank.ensures) c.ahead-best.ensures ∙ c.loop-c.invariant q w

pub returns : goal.returns
returns g c = λ q w. sym (leader_last _ q c.args.n c.loop-c.c _ c.loop-c-test.false) ∙ c.loop-c.invariant q w
