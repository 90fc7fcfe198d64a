-- What propagating and checking on a board by value come to, and the steps between: a line reduced on the board's cells, and the set of the lines that are pending.
use Rattle.std.specs.Prelude.{◌≡◌, ◌↔◌, Bool, true, false, ◌||◌, Option, None, Some, IfSome, List, map, ℕ, ◌+◌, ◌*◌, ◌/◌, ◌%◌, ◌^◌, ◌<◌, eqb, ltb, length, get_or}
use Rattle.std.proofs.Math.Option.{Option as Maybe, none, some}
use Rattle.rules.specs.Sets.{Colour, set_of, lost, only}
use Rattle.rules.specs.Lines.{reduce}
use Rattle.rules.specs.Boards.{Puzzle, line_cells, line_of, clue_at}
use Rattle.rules.specs.Propagation.{write, propagate, check}
use Rattle.rules.specs.Promises.{AllMeet}
use Rattle.lines.specs.declared.machine.Machine.{Machine}
use Rattle.boards.specs.declared.board.Board.{Board}
use Rattle.boards.specs.Board.{board_of, SameSize}
use Rattle.boards.specs.Line.{line_at}
use Rattle.boards.specs.Table.{Table}

-- ## One line

-- the set of a line's cells that have lost a colour
unfoldable pub lost_cells : List ℕ → List ℕ → ℕ
lost_cells old new = set_of (length old) (λ j. lost (get_or old j 0) (get_or new j 0))

-- a line of the sets `old` reduced where its cells stand: at a contradiction the cells are as they were, and otherwise they get the reduced sets
abbrev pub NarrowedTo : List ℕ → List ℕ → List ℕ → List ℕ → Option ℕ → Maybe (List ℕ) → Type 0
NarrowedTo line old before cells None new = (new ≡ none) × (cells ≡ before)
NarrowedTo line old before cells (Some gone) new = (sets : List ℕ) × (new ≡ some sets) × (cells ≡ write before line sets) × (gone ≡ lost_cells old sets)

-- line i reduced on the board b, whatever puzzle the table is of; no cell but the line's loses a colour
pub record Narrows (b : Board) (i : ℕ) (machines : List Machine) (a : Board) (r : Option ℕ) : Type 0 where
  pub size : SameSize b a
  pub long : length a.cells ≡ length b.cells
  pub few : IfSome r (λ gone. gone < 2 ^ (line_at b.w b.h i).len)
  pub to : (z : Puzzle) → Table z b.w b.h machines →
      let old = line_of z (board_of b) i in NarrowedTo (line_cells z i) old b.cells a.cells r (reduce (clue_at z i) old)

-- ## Pending lines

-- the row and the column of a cell
unfoldable pub cell_lines : ℕ → ℕ → ℕ → ℕ
cell_lines w h c = set_of (h + w) (λ j. eqb j (c / w) || eqb j (h + c % w))

-- the lines that cross line i at these of its cells: columns for a row, rows for a column
unfoldable pub crossed : ℕ → ℕ → ℕ → ℕ
crossed h i lost = elim (ltb i h) [ true ↦ lost * 2 ^ h | false ↦ lost ]

-- ## Propagating

-- a contradiction, or the board at the end
abbrev pub PropagatedTo : Option Board → Maybe (List ℕ) → Type 0
PropagatedTo None end = end ≡ none
PropagatedTo (Some a) end = end ≡ some (board_of a)

-- propagating from cell c on the board b, whatever puzzle the table is of
pub record Propagates (b : Board) (c : ℕ) (machines : List Machine) (r : Option Board) : Type 0 where
  pub size : IfSome r (SameSize b)
  pub to : (z : Puzzle) → Table z b.w b.h machines → PropagatedTo r (propagate z (board_of b) c)

-- ## The final check

-- the final check of the board b, whatever puzzle the table is of; where each cell has one colour, it is passed exactly if every line meets its clue
pub record Passes (b : Board) (machines : List Machine) (r : Bool) : Type 0 where
  pub is : (z : Puzzle) → Table z b.w b.h machines → r ≡ check z (board_of b)
  pub meant : (z : Puzzle) → Table z b.w b.h machines → (colours : List Colour) → board_of b ≡ map only colours → (r ≡ true) ↔ AllMeet z colours
