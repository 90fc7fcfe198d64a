-- The mends M2 and M3 at work, each on a small puzzle.
use Rattle.std.specs.Prelude.{◌≡◌, refl, List, [], ◌∷◌, ◌++◌, ℕ, replicate}
use Rattle.std.proofs.Math.Option.{none, some}
use Rattle.rules.specs.Clues.{clues_of}
use Rattle.rules.specs.Probing.{Probed, contradiction, probed, start_queue, probe}
use Rattle.rules.specs.Guesses.{Guess, choose}
use Rattle.rules.specs.Search.{fresh}
use Rattle.rules.specs.Answers.{Asked, Answer, solve}
use Rattle.rules.specs.Promises.{puzzle_of}
use Rattle.rules.specs.Examples.Computed.{computed}

-- ## M2: the probing inside the first guess solves the board. It is stored at once, before limits are asked again and the step budget of 2 is met; unstored it would be lost.

abbrev grid : List ℕ
grid = 1 ∷ 1 ∷ 1 ∷ 1 ∷ 1 ∷ 2 ∷ 1 ∷ 1 ∷ 2 ∷ 1 ∷ 1 ∷ 1 ∷ 2 ∷ 1 ∷ 1 ∷ 1 ∷ 1 ∷ 2 ∷ 2 ∷ 1 ∷ 2 ∷ 1 ∷ 1 ∷ 1 ∷ 2 ∷ 1 ∷ 1 ∷ 1 ∷ 2 ∷ 1 ∷ 1 ∷ 1 ∷ 2 ∷ 1 ∷ 2 ∷ 1 ∷ []

abbrev within : Asked
within = record {
  w = 6;
  h = 6;
  k = 1;
  most_grids = 2;
  most_depth = 1;
  budget = 2;
  clues = 1 ∷ 1 ∷ 1 ∷ 1 ∷ 1 ∷ 1 ∷ 2 ∷ 1 ∷ 1 ∷ 1 ∷ 1 ∷ 2 ∷ 1 ∷ 1 ∷ 1 ∷ 1 ∷ 2 ∷ 1 ∷ 1 ∷ 1 ∷ 1 ∷ 2 ∷ 1 ∷ 1 ∷ 1 ∷ 1 ∷ 1 ∷ 1 ∷ 3 ∷ 0 ∷ 3 ∷ 1 ∷ 1 ∷ 1 ∷ 1 ∷ 1 ∷ 1 ∷ 0 ∷ 1 ∷ 1 ∷ 2 ∷ 2 ∷ 1 ∷ 1 ∷ 1 ∷ 1 ∷ [];
  cells = replicate 36 3;
  list = replicate 72 9;
}

abbrev within_is : Answer
within_is = record {
  number = 2;
  grids = 1;
  steps = 5;
  deepest = 1;
  limit = 2;
  cells = 1 ∷ 1 ∷ 3 ∷ 1 ∷ 1 ∷ 3 ∷ 1 ∷ 1 ∷ 3 ∷ 1 ∷ 3 ∷ 3 ∷ 3 ∷ 1 ∷ 3 ∷ 1 ∷ 3 ∷ 3 ∷ 2 ∷ 1 ∷ 3 ∷ 1 ∷ 3 ∷ 3 ∷ 2 ∷ 1 ∷ 3 ∷ 1 ∷ 3 ∷ 3 ∷ 3 ∷ 1 ∷ 3 ∷ 1 ∷ 3 ∷ 3 ∷ [];
  list = grid ++ replicate 36 9;
}

solved_within : solve within ≡ within_is
unfolding computed
solved_within = refl

-- ## M3: no guess was chosen, as the round that noted rates was cut. The first unsolved cell gives its colours, and both grids are found; with no new guesses there would be none.

abbrev unchosen : Asked
unchosen = record {
  w = 2;
  h = 8;
  k = 1;
  most_grids = 3;
  most_depth = 15;
  budget = 400;
  clues = 0 ∷ 0 ∷ 1 ∷ 1 ∷ 1 ∷ 1 ∷ 1 ∷ 1 ∷ 1 ∷ 1 ∷ 1 ∷ 0 ∷ 0 ∷ 1 ∷ 1 ∷ 1 ∷ 1 ∷ 1 ∷ 1 ∷ 2 ∷ 1 ∷ 2 ∷ 1 ∷ 1 ∷ [];
  cells = 3 ∷ 1 ∷ 1 ∷ 3 ∷ 3 ∷ 3 ∷ 3 ∷ 3 ∷ 3 ∷ 3 ∷ 3 ∷ 3 ∷ 3 ∷ 3 ∷ 3 ∷ 2 ∷ [];
  list = replicate 48 9;
}

abbrev unchosen_is : Answer
unchosen_is = record {
  number = 2;
  grids = 2;
  steps = 2;
  deepest = 1;
  limit = 0;
  cells = 1 ∷ 1 ∷ 1 ∷ 1 ∷ 3 ∷ 3 ∷ 1 ∷ 2 ∷ 3 ∷ 3 ∷ 1 ∷ 1 ∷ 1 ∷ 1 ∷ 1 ∷ 2 ∷ [];
  list = 1 ∷ 1 ∷ 1 ∷ 1 ∷ 1 ∷ 2 ∷ 1 ∷ 2 ∷ 2 ∷ 1 ∷ 1 ∷ 1 ∷ 1 ∷ 1 ∷ 1 ∷ 2 ∷ 1 ∷ 1 ∷ 1 ∷ 1 ∷ 2 ∷ 1 ∷ 1 ∷ 2 ∷ 1 ∷ 2 ∷ 1 ∷ 1 ∷ 1 ∷ 1 ∷ 1 ∷ 2 ∷ replicate 16 9;
}

-- the guesses chosen after the first run of probing
abbrev chosen_of : Probed → List Guess
chosen_of (contradiction s) = []
chosen_of (probed b ns s) = choose b ns

none_chosen : ◌≡◌ {A = List Guess} (elim (clues_of 1 10 unchosen.clues) [ none ↦ [] | some clues ↦ (let z = puzzle_of unchosen clues in chosen_of (probe z unchosen.cells (start_queue z unchosen.cells) fresh)) ]) []
unfolding computed
none_chosen = refl

new_guesses : solve unchosen ≡ unchosen_is
unfolding computed
new_guesses = refl
