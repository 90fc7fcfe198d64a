-- Two calls of `belutharin_solve` for one puzzle at one most depth: the second, with no fewer grids and no fewer steps, only adds.
use mathlib.Core.Path.{◌≡◌}
use mathlib.Core.List.{List}
use Prim.Native.Nat.{ℕ, ◌≤◌}
use Rattle.rules.specs.Answers.{Asked, solve}
use Rattle.rules.specs.Longer.{rerun, report, Adds}
use Rattle.rules.proofs.Longer.{calls_add}
use Rattle.belutharin_c.specs.Answering.{answer}

pub two_searches : (a : Asked) (grids budget : ℕ) (list : List ℕ) → a.most_grids ≤ grids → a.budget ≤ budget →
    {n n' g g' s s' d d' l l' : ℕ} {cells cells' written written' : List ℕ} → answer n g s d l cells written ≡ solve a → answer n' g' s' d' l' cells' written' ≡ solve (rerun a grids budget list) →
    n ≤ 3 → n' ≤ 3 → Adds (report a (answer n g s d l cells written)) (report (rerun a grids budget list) (answer n' g' s' d' l' cells' written'))
two_searches a grids budget list u v {n} {n'} {g} {g'} {s} {s'} {d} {d'} {l} {l'} {cells} {cells'} {written} {written'} =
    calls_add a grids budget list u v (answer n g s d l cells written) (answer n' g' s' d' l' cells' written')
