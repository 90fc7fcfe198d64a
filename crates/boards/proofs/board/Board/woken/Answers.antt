-- A row's cells are moved up to the columns; a column's are the rows.
use mathlib.Core.Path.{sym, ◌∙◌}
use native.Mathlib.Omega.{arith}
use lib.Pow.{shl_exact}
use Rattle.boards.proofs.Crossing.{crossed_row, crossed_column}
use Rattle.boards.proofs.board.Board.woken.Goals as goal

pub returns-then-i-self : goal.returns-then-i-self
returns-then-i-self c = shl_exact 16 c.args.self.now.h 32 c.requires.1 (let l = c.requires.0.low in omega arith) ∙ sym (crossed_row _ _ _ c.if-i-self.true)

pub returns-else-i-self : goal.returns-else-i-self
returns-else-i-self c = sym (crossed_column _ _ _ c.if-i-self.false)
