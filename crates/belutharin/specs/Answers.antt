-- The answer of a search with the lent bytes, and what the parts of a run come to.
use Rattle.std.specs.Prelude.{◌≡◌, true, Result, Ok, Err, List, ℕ, ◌*◌, ◌≤◌, length}
use Rattle.rules.specs.Lists.{every}
use Rattle.rules.specs.Sets.{proper}
use Rattle.rules.specs.Clues.{Clue}
use Rattle.rules.specs.Boards.{Puzzle}
use Rattle.rules.specs.Search as Search
use Rattle.rules.specs.Answers as Rules
use Rattle.rules.specs.Answers.{most_colours, Asked, answer_of, searched}
use Rattle.rules.specs.declared.Refusal.{Refusal}
use Rattle.rules.specs.Refusals.{refusal_number}
use Rattle.lines.specs.declared.machine.Machine.{Machine}
use Rattle.boards.specs.declared.board.Board.{Board}
use Rattle.boards.specs.Board.{board_of, Sized}
use Rattle.boards.specs.Table.{Table, Playable}
use Rattle.runs.specs.declared.limits.Limits.{Limits}
use Rattle.belutharin.specs.declared.answers.TheConstants.{FRESH}
use Rattle.belutharin.specs.declared.answers.Outcome.{Outcome}
use Rattle.belutharin.specs.declared.answers.Outcome.TheVariants.{Solved, Listed, DeadEnd}
use Rattle.belutharin.specs.declared.answers.Answer.{Answer}
use Rattle.belutharin.specs.declared.answers.Numbers.{Numbers}

-- what a caller hands over
abbrev pub asked : ℕ → ℕ → ℕ → ℕ → ℕ → ℕ → List ℕ → List ℕ → List ℕ → Asked
asked w h k grids depth budget clues cells list = record { w = w; h = h; k = k; most_grids = grids; most_depth = depth; budget = budget; clues = clues; cells = cells; list = list }

-- the number of what comes of a puzzle
abbrev pub outcome_number : Outcome → ℕ
outcome_number Solved = 1
outcome_number Listed = 2
outcome_number DeadEnd = 3

-- the five numbers of an answer; a refusal has zeros
abbrev pub numbers : Result Answer Refusal → Numbers
numbers (Ok a) = record { number = outcome_number a.outcome; grids = a.stats.grids; steps = a.stats.steps; deepest = a.stats.deepest; limit = a.stats.limit }
numbers (Err e) = record { number = refusal_number e; grids = 0; steps = 0; deepest = 0; limit = 0 }

-- what is given back, and the lent bytes afterwards
abbrev pub answer : Result Answer Refusal → List ℕ → List ℕ → Rules.Answer
answer r cells list =
    record { number = (numbers r).number; grids = (numbers r).grids; steps = (numbers r).steps; deepest = (numbers r).deepest; limit = (numbers r).limit; cells = cells; list = list }

-- what comes of a puzzle with no search
abbrev pub at_once : Outcome → Answer
at_once o = record { outcome = o; stats = FRESH }

-- the board b, solved before the search, is checked, whatever puzzle the table is of and whatever was asked
abbrev pub Checks : Board → List Machine → List ℕ → List ℕ → Answer → List ℕ → List ℕ → Type 0
Checks b machines cells list r cells' list' =
    (z : Puzzle) → Table z b.w b.h machines → (l : Search.Limits) (a : Asked) → a.cells ≡ cells → a.list ≡ list → answer (Ok r) cells' list' ≡ answer_of a (Search.checked z l (board_of b))

-- a puzzle that was accepted: its board, the table of its machines, its limits, and room for the most grids
pub record Given (b : Board) (machines : List Machine) (cells list : List ℕ) (l : Limits) : Type 0 where
  pub sized : Sized b
  pub table : Playable b.w b.h machines
  pub board : board_of b ≡ cells
  pub long : length cells ≡ b.w * b.h
  pub proper : every (proper most_colours) cells ≡ true
  pub grids : l.grids ≤ 128
  pub depth : l.depth ≤ 15
  pub budget : l.budget ≤ 1_000_000_000
  pub room : l.grids * (b.w * b.h) ≤ length list

-- it is searched, whatever clues the table is of, and whatever bytes meant them
abbrev pub Searches : Board → List Machine → Limits → List ℕ → List ℕ → Answer → List ℕ → List ℕ → Type 0
Searches b machines l cells list r cells' list' =
    (k : ℕ) (bytes : List ℕ) (clues : List Clue) → Table (record { width = b.w; height = b.h; clues = clues }) b.w b.h machines →
    answer (Ok r) cells' list' ≡ searched (asked b.w b.h k l.grids l.depth l.budget bytes cells list) clues
