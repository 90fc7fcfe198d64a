-- The numbers given back, with every lent byte afterwards: for the search, for reducing one line, for the rate, and for handing out a grid of a list.
-- Every input has an answer. Where an input is refused, the tests stand in the order in which they are made, and the first that fails gives the number.
use Rattle.std.specs.Prelude.{Bool, true, false, ◌&&◌, List, [], ◌++◌, ℕ, ◌+◌, ◌*◌, length, take, drop, leb, ltb, eqb, Float}
use Rattle.std.proofs.Math.Option.{Option, none, some}
use Rattle.rules.specs.Lists.{every, joined}
use Rattle.rules.specs.Sets.{proper}
use Rattle.rules.specs.Clues.{Clue, within, clues_of, clue_of}
use Rattle.rules.specs.Lines.{reduce}
use Rattle.rules.specs.Floats.{float, rate}
use Rattle.rules.specs.Probing.{Run, steps}
use Rattle.rules.specs.Search.{Outcome, solved_as, listed, dead_end, whole_run}

-- ## The tests

-- w or h
abbrev pub side : ℕ → Bool
side n = within 1 16 n

-- THE MOST COLOURS besides blank: k is 1 to 3
abbrev pub most_colours : ℕ
most_colours = 3

-- at most so many guesses wait at a node, 1,024: each colour and blank in each of 256 cells
abbrev pub most_waiting : ℕ
most_waiting = 256 * (most_colours + 1)

abbrev pub colour_count : ℕ → Bool
colour_count k = within 1 most_colours k

-- most grids at most 128, most depth at most 15, budget at most 1,000,000,000
abbrev pub limits : ℕ → ℕ → ℕ → Bool
limits grids depth budget = leb grids 128 && (leb depth 15 && leb budget 1_000_000_000)

-- n cells, none 0 and none with a bit above k
abbrev pub board : ℕ → ℕ → List ℕ → Bool
board k n cells = eqb (length cells) n && every (proper k) cells

-- ## The search

-- what a caller hands over; the cells and the list are lent to be written
pub record Asked : Type 0 where
  pub w : ℕ
  pub h : ℕ
  pub k : ℕ
  pub most_grids : ℕ
  pub most_depth : ℕ
  pub budget : ℕ
  pub clues : List ℕ
  pub cells : List ℕ
  pub list : List ℕ

-- what comes back, and the lent bytes afterwards
pub record Answer : Type 0 where
  pub number : ℕ
  pub grids : ℕ
  pub steps : ℕ
  pub deepest : ℕ
  pub limit : ℕ
  pub cells : List ℕ
  pub list : List ℕ

-- a number with zeros, and everything untouched
abbrev pub untouched : Asked → ℕ → Answer
untouched a n = record { number = n; grids = 0; steps = 0; deepest = 0; limit = 0; cells = a.cells; list = a.list }

-- the counts of a run
abbrev pub counted : ℕ → Run → List ℕ → List ℕ → Answer
counted n s cells list = record { number = n; grids = length s.stored; steps = steps s; deepest = s.deepest; limit = s.limit; cells = cells; list = list }

-- the list's first bytes are the stored grids; the rest is untouched
unfoldable pub written : List (List ℕ) → List ℕ → List ℕ
written grids list = joined grids ++ drop (length (joined grids)) list

-- 1: solved, the board is the grid, with zeros. 2: listed, the board has the deductions at depth 0. 3: dead end, everything untouched.
abbrev pub answer_of : Asked → Outcome → Answer
answer_of a (solved_as b) = record { number = 1; grids = 0; steps = 0; deepest = 0; limit = 0; cells = b; list = a.list }
answer_of a (listed b s) = counted 2 s b (written s.stored a.list)
answer_of a (dead_end s) = counted 3 s a.cells a.list

-- an accepted puzzle is searched
abbrev pub searched : Asked → List Clue → Answer
searched a clues = answer_of a
    (whole_run (record { width = a.w; height = a.h; clues = clues }) (record { most_grids = a.most_grids; most_depth = a.most_depth; budget = a.budget }) a.cells)

-- 16: the list is shorter than most grids·w·h
abbrev pub test_list : Asked → List Clue → Answer
test_list a clues = elim (leb (a.most_grids * (a.w * a.h)) (length a.list)) [ true ↦ searched a clues | false ↦ untouched a 16 ]

-- 15: cell count wrong, a cell 0, or a bit above k
abbrev pub test_cells : Asked → List Clue → Answer
test_cells a clues = elim (board a.k (a.w * a.h) a.cells) [ true ↦ test_list a clues | false ↦ untouched a 15 ]

-- 14: clue bytes break the layout
abbrev pub test_clues : Asked → Answer
test_clues a = elim (clues_of a.k (a.h + a.w) a.clues) [ some clues ↦ test_cells a clues | none ↦ untouched a 14 ]

-- 13: most grids > 128, most depth > 15 or budget > 1,000,000,000
abbrev pub test_limits : Asked → Answer
test_limits a = elim (limits a.most_grids a.most_depth a.budget) [ true ↦ test_clues a | false ↦ untouched a 13 ]

-- 12: k outside 1..3
abbrev pub test_colours : Asked → Answer
test_colours a = elim (colour_count a.k) [ true ↦ test_limits a | false ↦ untouched a 12 ]

-- 11: w or h outside 1..16
unfoldable pub solve : Asked → Answer
solve a = elim (side a.w && side a.h) [ true ↦ test_colours a | false ↦ untouched a 11 ]

-- ## Reducing one line: 1 reduced, 3 contradiction; 12, 14 for one clue, 15 also if not 1..16 cells

pub record LineAnswer : Type 0 where
  pub number : ℕ
  pub cells : List ℕ

abbrev pub line : ℕ → List ℕ → LineAnswer
line n cells = record { number = n; cells = cells }

-- the reduced sets after 1, untouched otherwise
abbrev pub line_reduced : List ℕ → Option (List ℕ) → LineAnswer
line_reduced cells none = line 3 cells
line_reduced cells (some out) = line 1 out

abbrev pub line_cells? : ℕ → List ℕ → Bool
line_cells? k cells = side (length cells) && every (proper k) cells

abbrev pub test_line_cells : ℕ → Clue → List ℕ → LineAnswer
test_line_cells k clue cells = elim (line_cells? k cells) [ true ↦ line_reduced cells (reduce clue cells) | false ↦ line 15 cells ]

abbrev pub test_line_clue : ℕ → List ℕ → List ℕ → LineAnswer
test_line_clue k bytes cells = elim (clue_of k bytes) [ some clue ↦ test_line_cells k clue cells | none ↦ line 14 cells ]

unfoldable pub reduce_line : ℕ → List ℕ → List ℕ → LineAnswer
reduce_line k bytes cells = elim (colour_count k) [ true ↦ test_line_clue k bytes cells | false ↦ line 12 cells ]

-- ## The rate: 19 with 0.0 where max > 255 or min > max, and no number otherwise, which is 0

pub record RateAnswer : Type 0 where
  pub number : ℕ
  pub rate : Float

unfoldable pub rate_asked : ℕ → ℕ → RateAnswer
rate_asked max min = elim (leb max 255 && leb min max) [
  | true ↦ record { number = 0; rate = rate max min }
  | false ↦ record { number = 19; rate = float 0 }
]

-- ## Handing out grid number i of n, counted from 0: 11, 16 if the list is shorter than n·w·h, then 20, each with an empty part; and no number otherwise, which is 0

pub record PartAnswer : Type 0 where
  pub number : ℕ
  pub part : List ℕ

abbrev pub no_part : ℕ → PartAnswer
no_part n = record { number = n; part = [] }

abbrev pub test_number : List ℕ → ℕ → ℕ → ℕ → PartAnswer
test_number list size n i = elim (ltb i n) [ true ↦ record { number = 0; part = take size (drop (i * size) list) } | false ↦ no_part 20 ]

abbrev pub test_room : List ℕ → ℕ → ℕ → ℕ → PartAnswer
test_room list size n i = elim (leb (n * size) (length list)) [ true ↦ test_number list size n i | false ↦ no_part 16 ]

unfoldable pub grid_of : List ℕ → ℕ → ℕ → ℕ → ℕ → PartAnswer
grid_of list w h n i = elim (side w && side h) [ true ↦ test_room list (w * h) n i | false ↦ no_part 11 ]
