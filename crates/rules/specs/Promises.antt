-- What the answers promise: which grids fit, and what may be said of them after a solved board, a list or a dead end. `proofs/Promises.antt` proves it.
use Rattle.std.specs.Prelude.{◌≡◌, ◌⊎◌, ◌↔◌, true, false, ◌||◌, ℕ, zero, suc, ◌+◌, ◌*◌, ◌≤◌, ◌<◌, length, get_or, take, drop, leb, eqb}
use mathlib.Core.List.{List, [], ◌∷◌, map, Memᴰ as In}
use Rattle.std.proofs.Math.Option.{Option, none, some}
use Rattle.rules.specs.Sets.{Colour, has, set_of, only}
use Rattle.rules.specs.Clues.{Clue, clues_of, clue_of}
use Rattle.rules.specs.Lines.{Meets, Shows, From, Reduces, reduce}
use Rattle.rules.specs.Boards.{Board, Cell, at, solved, Puzzle, line_count, row_of, column_of, line_cells, line_of, clue_at}
use Rattle.rules.specs.Propagation.{write, pend, propagate}
use Rattle.rules.specs.Probing.{steps}
use Rattle.rules.specs.Search.{Limits, Outcome, solved_as, listed, dead_end}
use Rattle.rules.specs.Answers.{side, colour_count, limits, board, Asked, Answer, LineAnswer, line_cells?}

-- ## Fitting grids

-- every row and every column meets its clue, where the cells have these colours, row by row
abbrev pub AllMeet : Puzzle → List Colour → Type 0
AllMeet z colours = (i : ℕ) → i < line_count z → Meets (clue_at z i) (map (λ c. get_or colours c 0) (line_cells z i))

-- Every row and every column shows its clue. Where the input is accepted, this is the same (`all_shown` of `proofs/Stretches.antt`).
abbrev pub AllShow : Puzzle → List Colour → Type 0
AllShow z colours = (i : ℕ) → i < line_count z → Shows (clue_at z i) (map (λ c. get_or colours c 0) (line_cells z i))

-- A fitting grid takes each cell's colour from those the given board allows and meets every clue.
pub record Fits (z : Puzzle) (given grid : Board) : Type 0 where
  pub colours : List Colour  -- a colour for each cell, row by row
  pub alone : grid ≡ map only colours  -- each cell of the grid has its colour alone
  pub taken : From given colours  -- each colour is one of those that the given board allows there
  pub meets : AllMeet z colours

-- A narrowing has the same cells, and in each only colours that the other board has there.
pub record ◌⊑◌ (a b : Board) : Type 0 where
  pub long : length a ≡ length b
  pub each : (c : Cell) (x : Colour) → has (at a c) x ≡ true → has (at b c) x ≡ true

infix 50 ◌⊑◌
-- no two are equal
abbrev pub Distinct : {A : Type 0} → List A → Type 0
Distinct [] = Unit {0}
Distinct (a ∷ l) = (In a l → ⊥) × Distinct l

-- ## What is promised

-- what is given back
pub record Result : Type 0 where
  pub number : ℕ  -- 1 solved, 2 listed, 3 dead end
  pub board : Board
  pub grids : List Board  -- the stored grids, in the order in which they were stored
  pub steps : ℕ
  pub limit : ℕ  -- the first limit met, 0 for none

-- The most steps of one run of probing over n cells and k colours besides blank. A round takes at most k + 1 steps for each cell, and each round but the last takes a colour from
-- the board, which has at most (k + 1)·n of them and keeps n.
abbrev pub most_probing : ℕ → ℕ → ℕ
most_probing k n = (k * n + 1) * ((k + 1) * n)

-- What is promised of an accepted puzzle z with k colours and its given board, under any limits l.
pub record Promise (z : Puzzle) (l : Limits) (k : ℕ) (given : Board) (r : Result) : Type 0 where
  -- It is answered as solved, as listed or as a dead end.
  pub answered : (r.number ≡ 1) ⊎ ((r.number ≡ 2) ⊎ (r.number ≡ 3))
  -- A dead end is answered only if no grid fits.
  pub dead_end : r.number ≡ 3 → (grid : Board) → Fits z given grid → ⊥
  -- A solved board is a fitting grid, and the only one.
  pub solved : r.number ≡ 1 → Fits z given r.board × ((grid : Board) → Fits z given grid → grid ≡ r.board)
  -- The board left behind with "listed" is a narrowing of the given board that every fitting grid still fits.
  pub deductions : r.number ≡ 2 → r.board ⊑ given × ((grid : Board) → Fits z given grid → Fits z r.board grid)
  -- Stored grids fit,
  pub stored_fit : (grid : Board) → In grid r.grids → Fits z given grid
  -- and are distinct;
  pub stored_once : Distinct r.grids
  -- at most the most grids are stored.
  pub stored_few : length r.grids ≤ l.most_grids
  -- With no limit met, the list is not empty and holds every fitting grid, and so each exactly once.
  pub complete : r.number ≡ 2 → r.limit ≡ 0 → 0 < length r.grids × ((grid : Board) → Fits z given grid → In grid r.grids)
  -- The steps are at most the budget and (most depth + 2) runs of probing.
  pub steps_few : r.steps ≤ l.budget + (l.most_depth + 2) * most_probing k (length given)

-- ## Order does not matter in propagation

-- the lines that are pending when propagating from a cell starts: its row and column
abbrev pub lines_of : Puzzle → Cell → ℕ
lines_of z c = set_of (line_count z) (λ j. eqb j (row_of z c) || eqb j (column_of z c))

-- Propagating where any pending line may be the next, so that there may be many ways to go: from a board and its pending lines to the board at the end, when nothing
-- is pending, or to none at a contradiction.
pub data Reaches (z : Puzzle) : Board → ℕ → Option Board → Type 0 where
  ended : {b : Board} {p : ℕ} → ((i : ℕ) → i < line_count z → has p i ≡ false) → Reaches z b p (some b)
  contradicted : {b : Board} {p : ℕ} (i : ℕ) → i < line_count z → has p i ≡ true → reduce (clue_at z i) (line_of z b i) ≡ none → Reaches z b p none
  onward : {b : Board} {p : ℕ} {r : Option Board} (i : ℕ) (sets : List ℕ) → i < line_count z → has p i ≡ true → reduce (clue_at z i) (line_of z b i) ≡ some sets →
      Reaches z (write b (line_cells z i) sets) (pend z i b (write b (line_cells z i) sets) p) r → Reaches z b p r

-- whichever way it goes from a cell, it comes to what `propagate` gives: `any_order` of `proofs/Order.antt`
abbrev pub AnyOrder : Puzzle → Board → Cell → Type 0
AnyOrder z b c = (r : Option Board) → Reaches z b (lines_of z c) r → r ≡ propagate z b c

-- ## What is given back by the rules, and in bytes

-- an outcome of the rules; a dead end leaves the board as it was given
abbrev pub of_outcome : Board → Outcome → Result
of_outcome given (solved_as b) = record { number = 1; board = b; grids = []; steps = 0; limit = 0 }
of_outcome given (listed b s) = record { number = 2; board = b; grids = s.stored; steps = steps s; limit = s.limit }
of_outcome given (dead_end s) = record { number = 3; board = given; grids = s.stored; steps = steps s; limit = s.limit }

-- the first n parts of a list, each of so many bytes
unfoldable pub parts : ℕ → ℕ → List ℕ → List Board
parts size zero list = []
parts size (suc n) list = take size list ∷ parts size n (drop size list)

-- an answer: its grids are the first parts of the list
abbrev pub of_answer : Asked → Answer → Result
of_answer a r = record { number = r.number; board = r.cells; grids = parts (a.w * a.h) r.grids r.list; steps = r.steps; limit = r.limit }

-- an input that is accepted: no test refuses it, and its bytes mean these clues
pub record Accepted (a : Asked) (clues : List Clue) : Type 0 where
  pub width : side a.w ≡ true
  pub height : side a.h ≡ true
  pub colours : colour_count a.k ≡ true
  pub limited : limits a.most_grids a.most_depth a.budget ≡ true
  pub read : clues_of a.k (a.h + a.w) a.clues ≡ some clues
  pub cells : board a.k (a.w * a.h) a.cells ≡ true
  pub room : leb (a.most_grids * (a.w * a.h)) (length a.list) ≡ true

abbrev pub puzzle_of : Asked → List Clue → Puzzle
puzzle_of a clues = record { width = a.w; height = a.h; clues = clues }

abbrev pub limits_of : Asked → Limits
limits_of a = record { most_grids = a.most_grids; most_depth = a.most_depth; budget = a.budget }

-- what the answer to any input promises
pub record Promised (a : Asked) (r : Answer) : Type 0 where
  -- Where the input is accepted, all of the above holds of the answer.
  pub promise : (clues : List Clue) → Accepted a clues → Promise (puzzle_of a clues) (limits_of a) a.k a.cells (of_answer a r)
  -- Order does not matter in propagation: on any board of its size, whichever pending lines are taken first, it comes to the same contradiction or the same board.
  pub any_order : (clues : List Clue) → Accepted a clues → (b : Board) (c : Cell) → length b ≡ a.w * a.h → ((e : Cell) → at b e < 256) → AnyOrder (puzzle_of a clues) b c
  -- The steps are at most budget + (most depth + 2)·787,456.
  pub most_steps : r.steps ≤ a.budget + (a.most_depth + 2) * 787_456

-- ## A grid handed over as the board

-- A grid takes its colours from the given board: each of its cells is solved, with a colour that the given board has there.
abbrev pub Takes : Board → Board → Type 0
Takes given grid = (solved grid ≡ true) × grid ⊑ given

-- the same input with a grid for its board; the given cells are no longer there
abbrev pub handed : Asked → Board → Asked
handed a grid = record {
  w = a.w;
  h = a.h;
  k = a.k;
  most_grids = a.most_grids;
  most_depth = a.most_depth;
  budget = a.budget;
  clues = a.clues;
  cells = grid;
  list = a.list;
}

-- what the answer r to the grid handed over tells of the puzzle as given
pub record Judges (z : Puzzle) (given grid : Board) (r : Answer) : Type 0 where
  -- The grid fits exactly if it takes its colours from the given board and is answered as solved.
  pub right : Fits z given grid ↔ (Takes given grid × (r.number ≡ 1))
  -- A grid that takes its colours from the given board and does not fit is answered as a dead end.
  pub wrong : Takes given grid → (Fits z given grid → ⊥) → r.number ≡ 3

-- ## Reducing one line

-- a line that is accepted: no test refuses it, and its bytes mean this clue
pub record LineAccepted (k : ℕ) (bytes cells : List ℕ) (clue : Clue) : Type 0 where
  pub colours : colour_count k ≡ true
  pub read : clue_of k bytes ≡ some clue
  pub sets : line_cells? k cells ≡ true

-- what is promised of the answer to an accepted line
pub record LinePromise (clue : Clue) (cells : List ℕ) (r : LineAnswer) : Type 0 where
  -- It is answered as reduced or as a contradiction.
  pub answered : (r.number ≡ 1) ⊎ (r.number ≡ 3)
  -- After 1 some line is arranged, and each cell has exactly the colours that are possible there.
  pub reduced : r.number ≡ 1 → Reduces clue cells (some r.cells)
  -- After 3 no line is arranged.
  pub contradiction : r.number ≡ 3 → Reduces clue cells none

-- what the answer to any line promises
abbrev pub LinePromised : ℕ → List ℕ → List ℕ → LineAnswer → Type 0
LinePromised k bytes cells r = (clue : Clue) → LineAccepted k bytes cells clue → LinePromise clue cells r
