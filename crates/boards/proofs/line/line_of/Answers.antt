-- A row starts at a multiple of the width; a column at its number.
use mathlib.Core.Path.{sym}
use Rattle.boards.proofs.Places.{line_row, line_column}
use Rattle.boards.proofs.line.line_of.Goals as goal

pub returns-then-i-h : goal.returns-then-i-h
returns-then-i-h c = sym (line_row _ _ _ c.if-i-h.true)

pub returns-else-i-h : goal.returns-else-i-h
returns-else-i-h c = sym (line_column _ _ _ c.if-i-h.false)
