-- Promises, worked on Twin: 2 by 2, each line one block of 1.
use Rattle.std.specs.Prelude.{◌≡◌, refl, [], ◌∷◌, map, ℕ, zero, suc, ◌<◌, get_or}
use Rattle.std.proofs.lemmas.Bool.{false≢true}
use Rattle.std.proofs.Common.{arith}
use Rattle.rules.specs.Clues.{Clue}
use Rattle.rules.specs.Lines.{Meets, nothing, blank, block, end, cell}
use Rattle.rules.specs.Boards.{Board, Puzzle, line_cells, clue_at}
use Rattle.rules.specs.Answers.{Asked, solve}
use Rattle.rules.specs.Promises.{Fits, Takes, handed, most_probing, parts}
use Rattle.rules.specs.Examples.Computed.{computed}

abbrev one : Clue
one = record { colour = 1; cells = 1 } ∷ []

abbrev twin : Puzzle
twin = record { width = 2; height = 2; clues = one ∷ one ∷ one ∷ one ∷ [] }

-- a line of two cells with its block first, or last
first : Meets one (1 ∷ 0 ∷ [])
first = block (blank nothing)

last : Meets one (0 ∷ 1 ∷ [])
last = blank (block nothing)

-- one of Twin's two grids, on the open board
fitting : Fits twin (3 ∷ 3 ∷ 3 ∷ 3 ∷ []) (1 ∷ 2 ∷ 2 ∷ 1 ∷ [])
unfolding computed
fitting = record { colours = 0 ∷ 1 ∷ 1 ∷ 0 ∷ []; alone = refl; taken = cell refl (cell refl (cell refl (cell refl end))); meets = meets }
  where
    meets : (i : ℕ) → i < 4 → Meets (clue_at twin i) (map (λ c. get_or (0 ∷ 1 ∷ 1 ∷ 0 ∷ []) c 0) (line_cells twin i))
    meets zero h = last
    meets (suc zero) h = first
    meets (suc (suc zero)) h = last
    meets (suc (suc (suc zero))) h = first
    meets (suc (suc (suc (suc i)))) h = absurd (omega arith)

-- ## A grid handed over as the board

-- Twin whose first cell is given as filled: only the other grid fits it
abbrev given : Board
given = 2 ∷ 3 ∷ 3 ∷ 3 ∷ []

abbrev asked : Asked
asked = record { w = 2; h = 2; k = 1; most_grids = 0; most_depth = 0; budget = 0; clues = 1 ∷ 1 ∷ 1 ∷ 1 ∷ 1 ∷ 1 ∷ 1 ∷ 1 ∷ 1 ∷ 1 ∷ 1 ∷ 1 ∷ []; cells = given; list = [] }

-- the grid above, handed over, is answered as solved, since it meets every clue;
clues_met : (solve (handed asked (1 ∷ 2 ∷ 2 ∷ 1 ∷ []))).number ≡ 1
unfolding computed
clues_met = refl

-- but it does not take its colours from the given board, and so does not fit.
other_colours : Takes given (1 ∷ 2 ∷ 2 ∷ 1 ∷ []) → ⊥
unfolding computed
other_colours t = false≢true (t.1.each 0 0 refl)

-- a grid that breaks a clue is answered as a dead end
clue_broken : (solve (handed asked (2 ∷ 1 ∷ 1 ∷ 1 ∷ []))).number ≡ 3
unfolding computed
clue_broken = refl

-- ## Steps and parts

-- the most steps of a run of probing over 256 cells and 3 colours, and over Twin
largest_board : most_probing 3 256 ≡ 787_456
largest_board = refl

smallest_twin : most_probing 1 4 ≡ 40
smallest_twin = refl

-- two grids of four cells at the front of a list
two_grids : parts 4 2 (1 ∷ 2 ∷ 2 ∷ 1 ∷ 2 ∷ 1 ∷ 1 ∷ 2 ∷ 9 ∷ 9 ∷ 9 ∷ 9 ∷ []) ≡ (1 ∷ 2 ∷ 2 ∷ 1 ∷ []) ∷ (2 ∷ 1 ∷ 1 ∷ 2 ∷ []) ∷ []
unfolding parts
two_grids = refl
