-- Propagating, worked on Twin: 2 by 2, each line one block of 1.
use Rattle.std.specs.Prelude.{◌≡◌, refl, true, false, [], ◌∷◌}
use Rattle.std.proofs.Math.Option.{none, some}
use Rattle.rules.specs.Clues.{Clue}
use Rattle.rules.specs.Boards.{Puzzle, line_cells, beside, newly}
use Rattle.rules.specs.Propagation.{propagate, check}
use Rattle.rules.specs.Examples.Computed.{computed}

abbrev one : Clue
one = record { colour = 1; cells = 1 } ∷ []

abbrev twin : Puzzle
twin = record { width = 2; height = 2; clues = one ∷ one ∷ one ∷ one ∷ [] }

-- lines 0 and 1 are the rows, 2 and 3 the columns
second_row : line_cells twin 1 ≡ 2 ∷ 3 ∷ []
unfolding computed
second_row = refl

second_column : line_cells twin 3 ≡ 1 ∷ 3 ∷ []
unfolding computed
second_column = refl

-- a corner has two neighbours
corner : beside twin 0 ≡ 1 ∷ 2 ∷ []
unfolding computed
corner = refl

-- the first cell coloured settles the whole board, through the lines that its row and column make pending
settled : propagate twin (2 ∷ 3 ∷ 3 ∷ 3 ∷ []) 0 ≡ some (2 ∷ 1 ∷ 1 ∷ 2 ∷ [])
unfolding computed
settled = refl

-- three cells are newly solved; the first was solved at the start
three_new : newly (2 ∷ 3 ∷ 3 ∷ 3 ∷ []) (2 ∷ 1 ∷ 1 ∷ 2 ∷ []) ≡ 1 ∷ 2 ∷ 3 ∷ []
unfolding computed
three_new = refl

-- two coloured cells side by side contradict
side_by_side : propagate twin (2 ∷ 2 ∷ 3 ∷ 3 ∷ []) 0 ≡ none
unfolding computed
side_by_side = refl

-- nothing to take away from an open board
all_open : propagate twin (3 ∷ 3 ∷ 3 ∷ 3 ∷ []) 3 ≡ some (3 ∷ 3 ∷ 3 ∷ 3 ∷ [])
unfolding computed
all_open = refl

-- the final check tells the two grids from a board whose columns are wrong
passes : check twin (1 ∷ 2 ∷ 2 ∷ 1 ∷ []) ≡ true
unfolding computed
passes = refl

fails : check twin (1 ∷ 2 ∷ 1 ∷ 2 ∷ []) ≡ false
unfolding computed
fails = refl
