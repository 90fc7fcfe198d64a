-- Two calls of `solve` for one puzzle at one most depth, the second with no fewer grids and no fewer steps. Whatever lists are lent, what it gives back keeps what the first gave back, and may add to it.
use Rattle.std.proofs.Common.{◌≡◌, List, ℕ, ◌≤◌, Result}
use Rattle.rules.specs.Answers.{Asked, solve}
use Rattle.rules.specs.Longer.{report, Adds}
use Rattle.rules.proofs.Longer.{calls_add}
use Rattle.rules.specs.declared.Refusal.{Refusal}
use Rattle.belutharin.specs.Answers.{asked, numbers, answer}
use Rattle.belutharin.specs.declared.answers.Answer.{Answer}

-- the puzzle and the most depth of both calls; the limits and the list of the first, and of the second
module _ (w h k depth : ℕ) (clues cells : List ℕ) (grids budget : ℕ) (list : List ℕ) (grids' budget' : ℕ) (list' : List ℕ) where
  abbrev first : Asked
  first = asked w h k grids depth budget clues cells list

  abbrev second : Asked
  second = asked w h k grids' depth budget' clues cells list'

  -- TWO CALLS: of what the contract of `solve` allows for each, where neither is refused
  pub two_calls : grids ≤ grids' → budget ≤ budget' → (r r' : Result Answer Refusal) (out out' written written' : List ℕ) → answer r out written ≡ solve first → answer r' out' written' ≡ solve second →
      (numbers r).number ≤ 3 → (numbers r').number ≤ 3 → Adds (report first (answer r out written)) (report second (answer r' out' written'))
  two_calls g s r r' out out' written written' = calls_add first grids' budget' list' g s (answer r out written) (answer r' out' written')
