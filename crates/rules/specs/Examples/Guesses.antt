-- Choosing guesses, worked.
use Rattle.std.specs.Prelude.{◌≡◌, refl, [], ◌∷◌}
use Rattle.std.proofs.Math.Option.{none, some}
use Rattle.rules.specs.Guesses.{guess, choose}
use Rattle.rules.specs.Examples.Computed.{computed}

-- cells 1 and 3 tie by (4, 0), which is 2.0: cell 1 first. Cell 2 has (9, 3), which is 4.5: before both. Cell 0 is solved: skipped, whatever it solves. Cell 4 was not popped.
-- In cell 2 the colour that solves most comes first; in cell 1 colours 0 and 2 tie: ascending.
chosen : choose (2 ∷ 7 ∷ 7 ∷ 7 ∷ 7 ∷ [])
    (some ((1, 50) ∷ [])
    ∷ some ((0, 0) ∷ (1, 4) ∷ (2, 0) ∷ [])
    ∷ some ((0, 3) ∷ (1, 5) ∷ (2, 9) ∷ [])
    ∷ some ((0, 4) ∷ (1, 0) ∷ [])
    ∷ none
    ∷ [])
    ≡ guess 2 2 ∷ guess 2 1 ∷ guess 2 0 ∷ guess 1 1 ∷ guess 1 0 ∷ guess 1 2 ∷ guess 3 0 ∷ guess 3 1 ∷ []
unfolding computed
chosen = refl

-- no notes, no guesses
none_chosen : choose (3 ∷ 3 ∷ []) (none ∷ none ∷ []) ≡ []
unfolding computed
none_chosen = refl
