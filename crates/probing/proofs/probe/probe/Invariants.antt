-- The invariant: the colours before x are assumed, whatever puzzle the table is of.
use Rattle.rules.specs.Boards.{Puzzle}
use Rattle.boards.specs.Board.{board_of}
use Rattle.boards.specs.Table.{Table}
use Rattle.probing.proofs.Impacts.{Tried}
use Rattle.probing.proofs.probe.probe.Given as goal

abbrev pub invariant-loop-x : goal.invariant-loop-x
invariant-loop-x l = (z : Puzzle) → Table z l.board.w l.board.h l.machines → Tried z (board_of l.board) l.c.0 l.x l.impact
