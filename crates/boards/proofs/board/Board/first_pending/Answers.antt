-- The cell's row and its column are two of at most 32 lines.
use native.Mathlib.Omega.{arith}
use Rattle.boards.proofs.Crossing.{lines_are}
use Rattle.boards.proofs.board.Board.first_pending.Goals as goal

pub returns : goal.returns
returns c = let s = c.requires.0 in rw c.from-c.ensures (lines_are _ _ c.args.c.0 s.wide (let x = s.narrow in let y = s.low in omega arith) c.requires.1)
