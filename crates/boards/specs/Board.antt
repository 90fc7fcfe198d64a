-- A board by value, and the board of the rules that it stands for.
use Rattle.std.specs.Prelude.{◌≡◌, List, ℕ, ◌*◌, ◌≤◌, take, set}
use Rattle.boards.specs.declared.board.Board.{Board}

-- the first w·h cells of the array
abbrev pub board_of : Board → List ℕ
board_of b = take (b.w * b.h) b.cells

-- sides from 1 to 16
pub record Sized (b : Board) : Type 0 where
  pub wide : 1 ≤ b.w
  pub narrow : b.w ≤ 16
  pub high : 1 ≤ b.h
  pub low : b.h ≤ 16

pub record SameSize (a b : Board) : Type 0 where
  pub wide : b.w ≡ a.w
  pub high : b.h ≡ a.h

abbrev pub with_cells : Board → List ℕ → Board
with_cells b cells = record { w = b.w; h = b.h; cells = cells }

abbrev pub with_cell : Board → ℕ → ℕ → Board
with_cell b c s = with_cells b (set b.cells c s)
