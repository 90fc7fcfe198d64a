-- The invariant: the guesses of the last cells wait, where there is room.
use mathlib.Core.List.{List, [], map, reverse}
use Rattle.rules.specs.Boards.{Cell}
use Rattle.rules.specs.Probing as Probing
use Rattle.rules.specs.Guesses.{Guess, guess, colour_order}
use Rattle.cells.specs.declared.CellNo.{CellNo}
use Rattle.notes.specs.Round.{notes_of}
use Rattle.guesses.specs.Waiting.{IfRoom}
use Rattle.guesses.proofs.Placing.{placed}
use Rattle.guesses.proofs.choosing.choose_directions.Given as goal

-- a cell's guesses
abbrev pub of_cell : Probing.Notes → Cell → List Guess
of_cell ns c = map (guess c) (colour_order ns c)

abbrev pub invariant-loop-c : goal.invariant-loop-c
invariant-loop-c l =
    (goal.iterator-loop-c).can_next l.c-iterator × (goal.iterator-loop-c).is_finite l.c-iterator
    × IfRoom (placed (λ (c : CellNo). of_cell (notes_of l.notes) c.0) [] (reverse (map (λ r. r.now) l.yielded))) l.g
