-- The invariant: the lines from i on passed.
use Rattle.boards.proofs.Checking.{Checked}
use Rattle.boards.proofs.board.Board.check.Given as goal

abbrev pub invariant-loop-i : goal.invariant-loop-i
invariant-loop-i l = Checked l.self l.machines l.i
