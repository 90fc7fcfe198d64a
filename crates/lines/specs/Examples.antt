-- Worked examples that antt computes: machines of clues, and what they make of lines.
use Rattle.std.specs.Prelude.{◌≡◌, refl, [], ◌∷◌}
use Rattle.std.proofs.Math.Option.{none, some}
use Rattle.lines.specs.Machines.{goes, before, after, able, moves, keeps, ends, kept, reduce_by, pushed, pushed_all, opened, machine, closed, need, machine_of, clue_in}

-- what unfolds where an example is computed
unfoldable computed : Unit {0}
unfolding goes before after able moves keeps ends kept reduce_by pushed pushed_all opened machine need machine_of clue_in
computed = tt

-- One block of 3 cells of colour 1. Colour 1 goes on from states 0, 1 and 2, which is the mask 7; a blank may stay at states 0 and 3, the mask 9; the line ends at state 3, the mask 8.
three_cells : machine_of (clue_in (1 ∷ 3 ∷ [])) ≡ record { by = 0 ∷ 7 ∷ 0 ∷ 0 ∷ 0 ∷ 0 ∷ 0 ∷ 0 ∷ []; gap = 9; last = 8 }
unfolding computed
three_cells = refl

-- In five cells it covers the middle one, whichever way it stands.
three_in_five : reduce_by (machine_of (clue_in (1 ∷ 3 ∷ []))) (3 ∷ 3 ∷ 3 ∷ 3 ∷ 3 ∷ []) ≡ some (3 ∷ 3 ∷ 2 ∷ 3 ∷ 3 ∷ [])
unfolding computed
three_in_five = refl

-- Two cells of colour 1, each a block. After the first, at state 1, a blank goes on to state 2, from which colour 1 goes on; none may stay at state 1.
one_colour : machine_of (clue_in (1 ∷ 1 ∷ 1 ∷ 1 ∷ [])) ≡ record { by = 2 ∷ 5 ∷ 0 ∷ 0 ∷ 0 ∷ 0 ∷ 0 ∷ 0 ∷ []; gap = 13; last = 8 }
unfolding computed
one_colour = refl

-- They do not fit two cells, and fit three in one way.
one_in_two : reduce_by (machine_of (clue_in (1 ∷ 1 ∷ 1 ∷ 1 ∷ []))) (3 ∷ 3 ∷ []) ≡ none
unfolding computed
one_in_two = refl

one_in_three : reduce_by (machine_of (clue_in (1 ∷ 1 ∷ 1 ∷ 1 ∷ []))) (3 ∷ 3 ∷ 3 ∷ []) ≡ some (2 ∷ 1 ∷ 2 ∷ [])
unfolding computed
one_in_three = refl

-- A cell of colour 1 and one of colour 2. After the first, at state 1, colour 2 goes on at once, and a blank may stay.
two_colours : machine_of (clue_in (1 ∷ 1 ∷ 2 ∷ 1 ∷ [])) ≡ record { by = 0 ∷ 1 ∷ 2 ∷ 0 ∷ 0 ∷ 0 ∷ 0 ∷ 0 ∷ []; gap = 7; last = 4 }
unfolding computed
two_colours = refl

-- They fit two cells in one way.
two_in_two : reduce_by (machine_of (clue_in (1 ∷ 1 ∷ 2 ∷ 1 ∷ []))) (7 ∷ 7 ∷ []) ≡ some (2 ∷ 4 ∷ [])
unfolding computed
two_in_two = refl

-- Two blocks of 9 need 19 cells, more than any line has.
too_long : machine_of (clue_in (1 ∷ 9 ∷ 1 ∷ 9 ∷ [])) ≡ closed
unfolding computed
too_long = refl
