-- The worked grids of `docs/RULES.md` that are starred, 1 to 6 and 8 to 12, as a single table: what the definitions give equals what that page says.
use Rattle.std.specs.Prelude.{◌≡◌, refl, false, List, [], ◌∷◌, map, ℕ, Float}
use Rattle.std.specs.Float.{binary64}
use Rattle.std.specs.Float.Ieee.{round}
use Rattle.rules.specs.Boards.{Puzzle}
use Rattle.rules.specs.Floats.{priority}
use Rattle.rules.specs.Answers.{Asked, Answer, solve, LineAnswer, line, reduce_line, RateAnswer, rate_asked}
use Rattle.rules.specs.Examples.Computed.{computed}

-- a row of the table: a line's answer, a rate's, priorities, or a search's
pub data Row : Type 0 where
  line_is : LineAnswer → Row
  rate_is : RateAnswer → Row
  priorities_are : List Float → Row
  search_is : Answer → Row

-- a number of tenths, as f64
unfoldable pub tenths : ℕ → Float
tenths n = round binary64 false n 10

-- Twin's size, with no clue, which a priority does not ask for
unfoldable pub two_by_two : Puzzle
two_by_two = record { width = 2; height = 2; clues = [] }

unfoldable pub one : List ℕ → List ℕ → Asked
one clues cells = record { w = 1; h = 1; k = 1; most_grids = 1; most_depth = 15; budget = 100; clues = clues; cells = cells; list = 0 ∷ [] }

-- each line one block of 1, all cells open; the list is lent full of 9s
unfoldable pub twin : Asked
twin = record {
  w = 2;
  h = 2;
  k = 1;
  most_grids = 4;
  most_depth = 15;
  budget = 100;
  clues = 1 ∷ 1 ∷ 1 ∷ 1 ∷ 1 ∷ 1 ∷ 1 ∷ 1 ∷ 1 ∷ 1 ∷ 1 ∷ 1 ∷ [];
  cells = 3 ∷ 3 ∷ 3 ∷ 3 ∷ [];
  list = 9 ∷ 9 ∷ 9 ∷ 9 ∷ 9 ∷ 9 ∷ 9 ∷ 9 ∷ 9 ∷ 9 ∷ 9 ∷ 9 ∷ 9 ∷ 9 ∷ 9 ∷ 9 ∷ [];
}

unfoldable pub before : ℕ → List ℕ → List ℕ → Row
before n cells list = search_is (record { number = n; grids = 0; steps = 0; deepest = 0; limit = 0; cells = cells; list = list })

-- what the definitions give
unfoldable pub given : List Row
given =
    line_is (reduce_line 1 (1 ∷ 1 ∷ 3 ∷ []) (3 ∷ 3 ∷ 3 ∷ 3 ∷ 3 ∷ []))
    ∷ line_is (reduce_line 1 (2 ∷ 1 ∷ 1 ∷ 1 ∷ 1 ∷ []) (3 ∷ 3 ∷ 3 ∷ []))
    ∷ line_is (reduce_line 1 (0 ∷ []) (3 ∷ 3 ∷ 3 ∷ []))
    ∷ line_is (reduce_line 1 (1 ∷ 1 ∷ 2 ∷ []) (3 ∷ []))
    ∷ line_is (reduce_line 2 (2 ∷ 1 ∷ 1 ∷ 2 ∷ 1 ∷ []) (7 ∷ 7 ∷ []))
    ∷ rate_is (rate_asked 4 0)
    ∷ rate_is (rate_asked 9 3)
    ∷ rate_is (rate_asked 0 0)
    ∷ rate_is (rate_asked 255 254)
    ∷ priorities_are (map (priority two_by_two (3 ∷ 3 ∷ 3 ∷ 3 ∷ [])) (0 ∷ 1 ∷ 2 ∷ 3 ∷ []))
    ∷ priorities_are (map (priority two_by_two (1 ∷ 3 ∷ 3 ∷ 3 ∷ [])) (1 ∷ []))
    ∷ search_is (solve (one (0 ∷ 0 ∷ []) (3 ∷ [])))
    ∷ search_is (solve (one (1 ∷ 1 ∷ 1 ∷ 0 ∷ []) (3 ∷ [])))
    ∷ search_is (solve (one (0 ∷ 0 ∷ []) (2 ∷ [])))
    ∷ search_is (solve twin)
    ∷ []

-- what the page says
unfoldable pub said : List Row
said =
    line_is (line 1 (3 ∷ 3 ∷ 2 ∷ 3 ∷ 3 ∷ []))
    ∷ line_is (line 1 (2 ∷ 1 ∷ 2 ∷ []))
    ∷ line_is (line 1 (1 ∷ 1 ∷ 1 ∷ []))
    ∷ line_is (line 3 (3 ∷ []))
    ∷ line_is (line 1 (2 ∷ 4 ∷ []))
    ∷ rate_is (record { number = 0; rate = tenths 20 })
    ∷ rate_is (record { number = 0; rate = tenths 45 })
    ∷ rate_is (record { number = 0; rate = tenths 0 })
    ∷ rate_is (record { number = 0; rate = tenths 2550 })
    ∷ priorities_are (tenths 20 ∷ tenths 20 ∷ tenths 20 ∷ tenths 20 ∷ [])
    ∷ priorities_are (tenths 35 ∷ [])
    ∷ before 1 (1 ∷ []) (0 ∷ [])
    ∷ before 3 (3 ∷ []) (0 ∷ [])
    ∷ before 3 (2 ∷ []) (0 ∷ [])
    ∷ search_is (record {
      number = 2;
      grids = 2;
      steps = 8;
      deepest = 1;
      limit = 0;
      cells = 3 ∷ 3 ∷ 3 ∷ 3 ∷ [];
      list = 1 ∷ 2 ∷ 2 ∷ 1 ∷ 2 ∷ 1 ∷ 1 ∷ 2 ∷ 9 ∷ 9 ∷ 9 ∷ 9 ∷ 9 ∷ 9 ∷ 9 ∷ 9 ∷ [];
    })
    ∷ []

pub starred : given ≡ said
unfolding computed given said tenths two_by_two one twin before
starred = refl
