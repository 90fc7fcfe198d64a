-- The invariant: the guesses of the last colours wait before the others, where there is room.
use mathlib.Core.List.{List, [], ◌∷◌, map, reverse}
use Rattle.rules.specs.Boards.{Cell}
use Rattle.rules.specs.Guesses.{Guess, guess}
use Rattle.cells.specs.declared.Colour.{Colour}
use Rattle.guesses.specs.Waiting.{guesses_of, IfRoom}
use Rattle.guesses.proofs.Placing.{placed}
use Rattle.guesses.proofs.choosing.wait_cell.Given as goal

-- a colour as guesses for a cell
abbrev pub one : Cell → Colour → List Guess
one c x = guess c x.0 ∷ []

abbrev pub invariant-loop-x : goal.invariant-loop-x
invariant-loop-x l =
    (goal.iterator-loop-x).can_next l.x-iterator × (goal.iterator-loop-x).is_finite l.x-iterator
    × IfRoom (placed (one l.c.0) (guesses_of l.initial.g) (reverse (map (λ r. r.now) l.yielded))) l.g
