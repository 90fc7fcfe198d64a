-- Longer runs at work: a list that grows, an empty list that becomes a dead end, and a list at depth 1 that does not begin with the list at depth 0.
use Rattle.std.specs.Prelude.{◌≡◌, refl, List, [], ◌∷◌, ℕ, get_or, replicate}
use Rattle.std.proofs.Common.{ap, arith}
use Rattle.rules.specs.Boards.{Board}
use Rattle.rules.specs.Answers.{Asked, solve}
use Rattle.rules.specs.Promises.{parts}
use Rattle.rules.specs.Longer.{rerun, Report, report, Adds}
use Rattle.rules.specs.Examples.Computed.{computed}

-- what is given back for an input
abbrev given : Asked → Report
given a = report a (solve a)

abbrev listed : Board → List Board → ℕ → ℕ → ℕ → Report
listed board grids steps deepest limit = record { result = record { number = 2; board = board; grids = grids; steps = steps; limit = limit }; deepest = deepest }

-- ## Twin, 2 by 2, each line one block of 1, with a budget of one step

abbrev twin : ℕ → Asked
twin depth = record { w = 2; h = 2; k = 1; most_grids = 4; most_depth = depth; budget = 1; clues = replicate 12 1; cells = replicate 4 3; list = replicate 16 9 }

abbrev first : Board
first = 1 ∷ 2 ∷ 2 ∷ 1 ∷ []

abbrev second : Board
second = 2 ∷ 1 ∷ 1 ∷ 2 ∷ []

one_step : given (twin 15) ≡ listed (replicate 4 3) (first ∷ []) 1 1 2
unfolding computed parts
one_step = refl

-- with two steps a grid comes behind; with a hundred no limit is met, and with more of everything all is the same
two_steps : given (rerun (twin 15) 4 2 (replicate 20 7)) ≡ listed (replicate 4 3) (first ∷ second ∷ []) 2 1 2
unfolding computed parts
two_steps = refl

hundred_steps : given (rerun (twin 15) 4 100 (replicate 16 9)) ≡ listed (replicate 4 3) (first ∷ second ∷ []) 8 1 0
unfolding computed parts
hundred_steps = refl

more_of_all : given (rerun (twin 15) 5 1_000 (replicate 20 7)) ≡ listed (replicate 4 3) (first ∷ second ∷ []) 8 1 0
unfolding computed parts
more_of_all = refl

-- at depth 0 that is the first limit met, with two steps, and with a hundred
two_shallow : given (rerun (twin 0) 4 2 (replicate 16 9)) ≡ listed (replicate 4 3) (first ∷ second ∷ []) 2 1 3
unfolding computed parts
two_shallow = refl

hundred_shallow : given (rerun (twin 0) 4 100 (replicate 16 9)) ≡ listed (replicate 4 3) (first ∷ second ∷ []) 8 1 3
unfolding computed parts
hundred_shallow = refl

-- ## 3 by 3, a row given as 2,2,1 although its block is one cell long: with a budget of 0 an empty list, and with a budget of 1 a dead end

abbrev misread : Asked
misread = record {
  w = 3;
  h = 3;
  k = 1;
  most_grids = 2;
  most_depth = 15;
  budget = 0;
  clues = 1 ∷ 1 ∷ 2 ∷ 1 ∷ 1 ∷ 1 ∷ 1 ∷ 1 ∷ 2 ∷ 1 ∷ 1 ∷ 2 ∷ 1 ∷ 1 ∷ 3 ∷ 1 ∷ 1 ∷ 1 ∷ [];
  cells = 3 ∷ 3 ∷ 3 ∷ 2 ∷ 2 ∷ 1 ∷ 3 ∷ 3 ∷ 3 ∷ [];
  list = replicate 18 9;
}

empty_list : given misread ≡ listed (3 ∷ 2 ∷ 3 ∷ 2 ∷ 2 ∷ 1 ∷ 3 ∷ 2 ∷ 3 ∷ []) [] 0 0 2
unfolding computed parts
empty_list = refl

dead_end : given (rerun misread 2 1 (replicate 18 9)) ≡ record { result = record { number = 3; board = misread.cells; grids = []; steps = 3; limit = 0 }; deepest = 1 }
unfolding computed parts
dead_end = refl

-- ## 5 by 2, rows 1 1 and 1, columns 1, none, 1, none, 1: at depth 0 another grid comes second than at depth 1

abbrev wide : ℕ → Asked
wide depth = record {
  w = 5;
  h = 2;
  k = 1;
  most_grids = 2;
  most_depth = depth;
  budget = 1_000;
  clues = 2 ∷ 1 ∷ 1 ∷ 1 ∷ 1 ∷ 1 ∷ 1 ∷ 1 ∷ 1 ∷ 1 ∷ 1 ∷ 0 ∷ 1 ∷ 1 ∷ 1 ∷ 0 ∷ 1 ∷ 1 ∷ 1 ∷ [];
  cells = replicate 10 3;
  list = replicate 20 9;
}

abbrev grids_at : ℕ → List Board
grids_at depth = (given (wide depth)).result.grids

shallow : grids_at 0 ≡ (2 ∷ 1 ∷ 1 ∷ 1 ∷ 2 ∷ 1 ∷ 1 ∷ 2 ∷ 1 ∷ 1 ∷ []) ∷ (2 ∷ 1 ∷ 2 ∷ 1 ∷ 1 ∷ 1 ∷ 1 ∷ 1 ∷ 1 ∷ 2 ∷ []) ∷ []
unfolding computed parts
shallow = refl

deep : grids_at 1 ≡ (2 ∷ 1 ∷ 1 ∷ 1 ∷ 2 ∷ 1 ∷ 1 ∷ 2 ∷ 1 ∷ 1 ∷ []) ∷ (1 ∷ 1 ∷ 2 ∷ 1 ∷ 2 ∷ 2 ∷ 1 ∷ 1 ∷ 1 ∷ 1 ∷ []) ∷ []
unfolding computed parts
deep = refl

-- so a deeper run does not only add
deeper_alters : Adds (given (wide 0)) (given (wide 1)) → ⊥
unfolding computed parts
deeper_alters h = let n : ◌≡◌ {A = ℕ} 1 2 = ap (λ (l : List Board). get_or (get_or l 1 []) 0 0) h.grids_begin.1 in omega arith
