-- Numbers given back, worked: refusals by the lowest number, limits in their order, the mends M1, M4, and colours that touch.
use Rattle.std.specs.Prelude.{◌≡◌, refl, List, [], ◌∷◌, ℕ}
use Rattle.rules.specs.Floats.{float}
use Rattle.rules.specs.Answers.{Asked, Answer, solve, untouched, line, reduce_line, rate_asked, no_part, grid_of}
use Rattle.rules.specs.Examples.Computed.{computed}

-- Twin with limits, its clue bytes, cells and list
abbrev twin : ℕ → ℕ → ℕ → List ℕ → List ℕ → List ℕ → Asked
twin grids depth budget clues cells list = record { w = 2; h = 2; k = 1; most_grids = grids; most_depth = depth; budget = budget; clues = clues; cells = cells; list = list }

abbrev ones : List ℕ
ones = 1 ∷ 1 ∷ 1 ∷ 1 ∷ 1 ∷ 1 ∷ 1 ∷ 1 ∷ 1 ∷ 1 ∷ 1 ∷ 1 ∷ []

abbrev opened : List ℕ
opened = 3 ∷ 3 ∷ 3 ∷ 3 ∷ []

abbrev eight : List ℕ
eight = 9 ∷ 9 ∷ 9 ∷ 9 ∷ 9 ∷ 9 ∷ 9 ∷ 9 ∷ []

abbrev twin_is : ℕ → ℕ → ℕ → ℕ → List ℕ → Answer
twin_is grids steps deepest limit list = record { number = 2; grids = grids; steps = steps; deepest = deepest; limit = limit; cells = opened; list = list }

-- ## Limits, asked in their order: grids, steps, depth

grids_two : solve (twin 2 15 100 ones opened eight) ≡ twin_is 2 2 1 1 (1 ∷ 2 ∷ 2 ∷ 1 ∷ 2 ∷ 1 ∷ 1 ∷ 2 ∷ [])
unfolding computed
grids_two = refl

grids_none : solve (twin 0 15 100 ones opened eight) ≡ twin_is 0 0 0 1 eight
unfolding computed
grids_none = refl

-- depth 0 is still guessed at, and only what lies deeper is not
depth_none : solve (twin 3 0 100 ones opened (9 ∷ 9 ∷ 9 ∷ 9 ∷ eight)) ≡ twin_is 2 8 1 3 (1 ∷ 2 ∷ 2 ∷ 1 ∷ 2 ∷ 1 ∷ 1 ∷ 2 ∷ 9 ∷ 9 ∷ 9 ∷ 9 ∷ [])
unfolding computed
depth_none = refl

budget_one : solve (twin 2 15 1 ones opened eight) ≡ twin_is 1 1 1 2 (1 ∷ 2 ∷ 2 ∷ 1 ∷ 9 ∷ 9 ∷ 9 ∷ 9 ∷ [])
unfolding computed
budget_one = refl

budget_none : solve (twin 2 15 0 ones opened eight) ≡ twin_is 0 0 0 2 eight
unfolding computed
budget_none = refl

-- ## Refusals: the lowest number, and everything untouched

abbrev asked : ℕ → ℕ → ℕ → ℕ → List ℕ → List ℕ → List ℕ → Asked
asked w h k grids clues cells list = record { w = w; h = h; k = k; most_grids = grids; most_depth = 15; budget = 100; clues = clues; cells = cells; list = list }

abbrev refused : Asked → ℕ → Type 0
refused a n = solve a ≡ untouched a n

-- nothing is right here: w is 17, k 0, most grids 129, the clue bytes are missing, a cell is 0, the list is too short
all_wrong : refused (asked 17 1 0 129 [] (0 ∷ []) []) 11
unfolding computed
all_wrong = refl

from_twelve : refused (asked 1 1 0 129 [] (0 ∷ []) []) 12
unfolding computed
from_twelve = refl

from_thirteen : refused (asked 1 1 1 129 [] (0 ∷ []) []) 13
unfolding computed
from_thirteen = refl

from_fourteen : refused (asked 1 1 1 1 [] (0 ∷ []) []) 14
unfolding computed
from_fourteen = refl

from_fifteen : refused (asked 1 1 1 1 (0 ∷ 0 ∷ []) (0 ∷ []) []) 15
unfolding computed
from_fifteen = refl

from_sixteen : refused (asked 1 1 1 1 (0 ∷ 0 ∷ []) (3 ∷ []) []) 16
unfolding computed
from_sixteen = refl

-- a bit above k; a cell too many
bit_above : refused (asked 1 1 1 1 (0 ∷ 0 ∷ []) (4 ∷ []) (9 ∷ [])) 15
unfolding computed
bit_above = refl

cell_extra : refused (asked 1 1 1 1 (0 ∷ 0 ∷ []) (3 ∷ 3 ∷ []) (9 ∷ [])) 15
unfolding computed
cell_extra = refl

-- a budget one too large
large_budget : refused (record { w = 1; h = 1; k = 1; most_grids = 1; most_depth = 15; budget = 1_000_000_001; clues = 0 ∷ 0 ∷ []; cells = 3 ∷ []; list = 9 ∷ [] }) 13
unfolding computed
large_budget = refl

-- ## Dead ends

-- M1: a board solved at the start is checked; this one breaks its clues
m1_acts : refused (asked 1 1 1 1 (0 ∷ 0 ∷ []) (2 ∷ []) (9 ∷ [])) 3
unfolding computed
m1_acts = refl

-- M4: probing takes colours from the board before it finds the contradiction, and the caller's board stays as it was given:
-- three cells in a row with a block of three, whose last column has no block
m4_acts : refused (asked 3 1 1 1 (1 ∷ 1 ∷ 3 ∷ 1 ∷ 1 ∷ 1 ∷ 1 ∷ 1 ∷ 1 ∷ 0 ∷ []) (3 ∷ 3 ∷ 3 ∷ []) (9 ∷ 9 ∷ 9 ∷ [])) 3
unfolding computed
m4_acts = refl

-- ## Blocks side by side, in a row whose columns fix every cell

-- one of colour 1, then one of colour 2: solved
colours_touch : solve (asked 2 1 2 1 (2 ∷ 1 ∷ 1 ∷ 2 ∷ 1 ∷ 1 ∷ 1 ∷ 1 ∷ 1 ∷ 2 ∷ 1 ∷ []) (7 ∷ 7 ∷ []) (9 ∷ 9 ∷ []))
    ≡ record { number = 1; grids = 0; steps = 0; deepest = 0; limit = 0; cells = 2 ∷ 4 ∷ []; list = 9 ∷ 9 ∷ [] }
unfolding computed
colours_touch = refl

-- two of colour 1, where the third cell is blank: a dead end
one_colour_parted : refused (asked 3 1 1 1 (2 ∷ 1 ∷ 1 ∷ 1 ∷ 1 ∷ 1 ∷ 1 ∷ 1 ∷ 1 ∷ 1 ∷ 1 ∷ 0 ∷ []) (3 ∷ 3 ∷ 3 ∷ []) (9 ∷ 9 ∷ 9 ∷ [])) 3
unfolding computed
one_colour_parted = refl

-- ## Reducing one line: 12, 14, 15 in this order, and the cells untouched

line_twelve : reduce_line 4 [] [] ≡ line 12 []
unfolding computed
line_twelve = refl

line_fourteen : reduce_line 1 (0 ∷ 0 ∷ []) [] ≡ line 14 []
unfolding computed
line_fourteen = refl

line_fifteen : reduce_line 1 (0 ∷ []) [] ≡ line 15 []
unfolding computed
line_fifteen = refl

-- ## The rate

rate_too_large : rate_asked 256 0 ≡ record { number = 19; rate = float 0 }
unfolding computed
rate_too_large = refl

rate_crossed : rate_asked 3 4 ≡ record { number = 19; rate = float 0 }
unfolding computed
rate_crossed = refl

-- ## Handing out a grid

abbrev list : List ℕ
list = 1 ∷ 2 ∷ 2 ∷ 1 ∷ []

second : grid_of list 2 1 2 1 ≡ record { number = 0; part = 2 ∷ 1 ∷ [] }
unfolding computed
second = refl

third : grid_of list 2 1 2 2 ≡ no_part 20
unfolding computed
third = refl

short_list : grid_of list 2 1 3 3 ≡ no_part 16
unfolding computed
short_list = refl

no_side : grid_of list 0 17 3 3 ≡ no_part 11
unfolding computed
no_side = refl
