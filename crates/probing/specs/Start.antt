-- The starting queue on a board by value.
use Rattle.std.specs.Prelude.{◌≡◌, List, ℕ, ◌<◌, length, get_or, Float}
use Rattle.rules.specs.Boards.{Cell, Puzzle, line_cells, around}
use Rattle.rules.specs.Floats.{priority_of, solved_of}
use Rattle.boards.specs.declared.board.Board.{Board}
use Rattle.boards.specs.Board.{board_of}
use Rattle.probing.specs.Neighbours.{OfSize}

-- how many cells of each of the first n lines are solved
pub record SolvedOn (b : Board) (n : ℕ) (solved : List ℕ) : Type 0 where
  pub each : (z : Puzzle) → OfSize z b → (i : ℕ) → i < n → get_or solved i 0 ≡ solved_of (board_of b) (line_cells z i)

-- a cell's priority; so many cells of its row and of its column are solved
abbrev pub PriorityIs : Board → Cell → ℕ → ℕ → Float → Type 0
PriorityIs b c row_solved column_solved p = (z : Puzzle) → OfSize z b → p ≡ priority_of (length (around z (board_of b) c)) row_solved b.w column_solved b.h
