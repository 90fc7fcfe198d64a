-- The board, its cells, rows and columns. A board is a list of sets, w·h of them, row by row; a grid is a board all of whose cells are solved.
-- Lines are numbered in clue order: rows 0 to h - 1 from the top, then columns h to h + w - 1 from the left.
use Rattle.std.specs.Prelude.{Bool, true, false, not, ◌&&◌, List, [], ◌∷◌, ◌++◌, map, ℕ, suc, ◌+◌, ◌-◌, ◌*◌, ◌/◌, ◌%◌, length, get_or, set, eqb, leb, ltb}
use Rattle.rules.specs.Lists.{keep, every, sum, from}
use Rattle.rules.specs.Sets.{Colour, single, only, without}
use Rattle.rules.specs.Clues.{Clue}

abbrev pub Board : Type 0
Board = List ℕ

-- a cell's number: its row times the width, and its column
abbrev pub Cell : Type 0
Cell = ℕ

-- a cell's set; outside the board there is no colour
abbrev pub at : Board → Cell → ℕ
at b c = get_or b c 0

-- the cells, ascending: by row, then by column
abbrev pub cells : Board → List Cell
cells b = from 0 (length b)

-- a cell gets one colour
unfoldable pub put : Board → Cell → Colour → Board
put b c x = set b c (only x)

-- a cell loses a colour
unfoldable pub remove : Board → Cell → Colour → Board
remove b c x = set b c (without (at b c) x)

-- a cell loses colours, one after the other
unfoldable pub remove_all : Board → Cell → List Colour → Board
remove_all b c [] = b
remove_all b c (x ∷ xs) = remove_all (remove b c x) c xs

-- all cells are solved
unfoldable pub solved : Board → Bool
solved b = every single b

-- the sets as numbers, all cells together: what the loops' measures rest on, since it falls with every colour that goes
unfoldable pub size : Board → ℕ
size b = sum b

-- newly solved cells: unsolved at the start, a, and solved at the end, b
unfoldable pub newly : Board → Board → List Cell
newly a b = keep (λ c. not (single (at a c)) && single (at b c)) (cells a)

-- the same cells with the same sets
unfoldable pub same : Board → Board → Bool
same [] [] = true
same [] (t ∷ b) = false
same (s ∷ a) [] = false
same (s ∷ a) (t ∷ b) = eqb s t && same a b

-- ## A puzzle's lines

pub record Puzzle : Type 0 where
  pub width : ℕ
  pub height : ℕ
  pub clues : List Clue

module _ (z : Puzzle) where
  open z use {width, height, clues}

  abbrev pub line_count : ℕ
  line_count = height + width

  abbrev pub row_of : Cell → ℕ
  row_of c = c / width

  -- the line number of a cell's column
  abbrev pub column_of : Cell → ℕ
  column_of c = height + c % width

  -- the cells of line i
  unfoldable pub line_cells : ℕ → List Cell
  line_cells i = elim (ltb i height) [
    | true ↦ map (λ x. i * width + x) (from 0 width)
    | false ↦ map (λ y. y * width + (i - height)) (from 0 height)
  ]

  -- line i's sets on a board
  abbrev pub line_of : Board → ℕ → List ℕ
  line_of b i = map (at b) (line_cells i)

  abbrev pub clue_at : ℕ → Clue
  clue_at i = get_or clues i []

  -- the line that crosses line i at a cell
  unfoldable pub crossing : ℕ → Cell → ℕ
  crossing i c = elim (ltb i height) [ true ↦ column_of c | false ↦ row_of c ]

  -- one cell, if the test passes
  abbrev pub when : Bool → Cell → List Cell
  when true c = c ∷ []
  when false c = []

  -- the up to four cells that share a side with a cell
  unfoldable pub beside : Cell → List Cell
  beside c =
      when (leb width c) (c - width) ++ (when (ltb 0 (c % width)) (c - 1) ++ (when (ltb (suc (c % width)) width) (c + 1) ++ when (ltb (suc (row_of c)) height) (c + width)))

  -- a cell's unsolved neighbours; a missing neighbour is not unsolved
  unfoldable pub around : Board → Cell → List Cell
  around b c = keep (λ n. not (single (at b n))) (beside c)
