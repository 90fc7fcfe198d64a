-- The guesses made at a node that were not dead, held as a set of colours for each cell.
use Rattle.std.specs.Prelude.{◌≡◌, List, ℕ, ◌<◌, get_or}
use Rattle.rules.specs.Sets.{has}
use Rattle.rules.specs.Guesses.{Guess, guess}
use Rattle.rules.specs.Search.{among}

-- a colour is in a cell's set where it is among the guesses
pub record Made (made : List ℕ) (l : List Guess) : Type 0 where
  pub each : (c x : ℕ) → c < 256 → x < 8 → has (get_or made c 0) x ≡ among (guess c x) l
