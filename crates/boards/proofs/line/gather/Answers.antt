use Rattle.boards.proofs.Places.{gathered_end}
use Rattle.boards.proofs.line.gather.Goals as goal

pub returns : goal.returns
returns c = gathered_end c.args.cells.now _ c.args.line c.loop-j.j c.loop-j.invariant c.loop-j-test.false
