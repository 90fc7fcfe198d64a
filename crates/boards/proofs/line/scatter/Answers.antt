use native.Mathlib.Omega.{arith}
use Rattle.boards.proofs.Places.{writing_turn, writing_end}
use Rattle.boards.proofs.line.scatter.Goals as goal

pub loop-j-preserved : goal.loop-j-preserved
loop-j-preserved c = writing_turn _ _ _ _ _ _ c.loop-j.j c.loop-j.invariant c.loop-j-test.true (omega (arith, c.well_formed.1.1.0, c.requires.few))

pub returns : goal.returns
returns c = writing_end _ _ c.args.line _ c.loop-j.j c.loop-j.invariant c.loop-j-test.false
