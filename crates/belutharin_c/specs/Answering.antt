-- The answer of a search, each number by itself, with the lent bytes afterwards.
use Rattle.std.specs.Prelude.{List, ℕ}
use Rattle.rules.specs.Answers.{Answer}

abbrev pub answer : ℕ → ℕ → ℕ → ℕ → ℕ → List ℕ → List ℕ → Answer
answer number grids steps deepest limit cells list = record { number = number; grids = grids; steps = steps; deepest = deepest; limit = limit; cells = cells; list = list }
