-- A longer run only adds: what stays and what may come of a puzzle that is run again at the same most depth with a larger budget, more grids or both. `proofs/Longer.antt` proves it.
use Rattle.std.specs.Prelude.{◌≡◌, ◌⊎◌, List, [], ◌++◌, ℕ, ◌≤◌}
use Rattle.rules.specs.Boards.{Board}
use Rattle.rules.specs.Answers.{Asked, Answer}
use Rattle.rules.specs.Promises.{◌⊑◌, Result, of_answer}

-- ## Run again

-- the same puzzle at the same most depth, with another most grids, another budget and another list that is lent
abbrev pub rerun : Asked → ℕ → ℕ → List ℕ → Asked
rerun a grids budget list = record {
  w = a.w;
  h = a.h;
  k = a.k;
  most_grids = grids;
  most_depth = a.most_depth;
  budget = budget;
  clues = a.clues;
  cells = a.cells;
  list = list;
}

-- ## What is given back

-- The number, the board, the grids of the list in their order, the steps, the first limit met, and the deepest. After a solved answer the board is the grid, and the list has none.
pub record Report : Type 0 where
  pub result : Result
  pub deepest : ℕ

-- The grids stand for the bytes of the list, so that neither the length lent nor what lies behind them plays a part.
abbrev pub report : Asked → Answer → Report
report a r = record { result = of_answer a r; deepest = r.deepest }

-- ## What is promised

-- What the longer run gives back, q, keeps what the shorter one gave back, r, and may add to it.
pub record Adds (r q : Report) : Type 0 where
  -- A solved answer stays, with its board and all else.
  pub solved_stays : r.result.number ≡ 1 → q ≡ r
  -- A dead end stays, with all else.
  pub dead_end_stays : r.result.number ≡ 3 → q ≡ r
  -- A list stays a list, or it was empty and is a dead end now.
  pub listed_stays : r.result.number ≡ 2 → (q.result.number ≡ 2) ⊎ ((q.result.number ≡ 3) × (r.result.grids ≡ []))
  -- The grids are the beginning of the longer run's grids.
  pub grids_begin : (new : List Board) × (q.result.grids ≡ r.result.grids ++ new)
  -- Where both are listed, the board left behind is a narrowing of the shorter run's.
  pub board_narrows : r.result.number ≡ 2 → q.result.number ≡ 2 → q.result.board ⊑ r.result.board
  -- Steps never fall,
  pub steps_up : r.result.steps ≤ q.result.steps
  -- nor does the deepest.
  pub deepest_up : r.deepest ≤ q.deepest
  -- Where the shorter run met no limit, the two are equal in everything.
  pub unlimited_same : r.result.limit ≡ 0 → q ≡ r
  -- Where the first limit that it met is the depth, that is the first which the longer run meets, too.
  pub depth_stays : r.result.limit ≡ 3 → q.result.limit ≡ 3
