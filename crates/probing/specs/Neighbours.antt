-- A cell's neighbours on a board by value.
use Rattle.std.specs.Prelude.{◌≡◌, Option, Some, None, List, [], ◌∷◌}
use Rattle.rules.specs.Boards.{Cell, Puzzle}
use Rattle.cells.specs.declared.CellNo.{CellNo}
use Rattle.boards.specs.declared.board.Board.{Board}

-- a puzzle of the board's size
pub record OfSize (z : Puzzle) (b : Board) : Type 0 where
  pub wide : z.width ≡ b.w
  pub high : z.height ≡ b.h

-- the cell on one side, if there is one
abbrev pub those : Option CellNo → List Cell
those (Some c) = c.0 ∷ []
those None = []
