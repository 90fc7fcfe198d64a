-- Lines and clues, worked.
use Rattle.std.specs.Prelude.{◌≡◌, refl, true, false, [], ◌∷◌, ℕ}
use Rattle.std.proofs.Math.Option.{none, some}
use Rattle.rules.specs.Clues.{Block}
use Rattle.rules.specs.Lines.{Meets, nothing, blank, block, stretches, blocks_of, fits, reduce}
use Rattle.rules.specs.Examples.Computed.{computed}

abbrev b : ℕ → ℕ → Block
b c n = record { colour = c; cells = n }

-- blank, two of colour 1, blank, one of colour 2: built up from its end
built : Meets (b 1 2 ∷ b 2 1 ∷ []) (0 ∷ 1 ∷ 1 ∷ 0 ∷ 2 ∷ [])
built = blank (block {b = b 1 2} (blank (block {b = b 2 1} nothing)))

-- what it falls into, and the blocks that it shows
fallen : stretches (0 ∷ 1 ∷ 1 ∷ 0 ∷ 2 ∷ []) ≡ b 0 1 ∷ b 1 2 ∷ b 0 1 ∷ b 2 1 ∷ []
unfolding computed
fallen = refl

shown : blocks_of (0 ∷ 1 ∷ 1 ∷ 0 ∷ 2 ∷ []) ≡ b 1 2 ∷ b 2 1 ∷ []
unfolding computed
shown = refl

-- the same line, as sets of one colour each
same_line : fits (b 1 2 ∷ b 2 1 ∷ []) (1 ∷ 2 ∷ 2 ∷ 1 ∷ 4 ∷ []) ≡ true
unfolding computed
same_line = refl

-- the blocks in the other order are another clue
other_order : fits (b 2 1 ∷ b 1 2 ∷ []) (1 ∷ 2 ∷ 2 ∷ 1 ∷ 4 ∷ []) ≡ false
unfolding computed
other_order = refl

-- Blocks of different colours may touch: colour 1 and colour 2 side by side,
touching : Meets (b 1 1 ∷ b 2 1 ∷ []) (1 ∷ 2 ∷ [])
touching = block {b = b 1 1} (block {b = b 2 1} nothing)

-- as they must in two cells;
side_by_side : reduce (b 1 1 ∷ b 2 1 ∷ []) (7 ∷ 7 ∷ []) ≡ some (2 ∷ 4 ∷ [])
unfolding computed
side_by_side = refl

-- in three cells a blank may stand before, between or after them.
room_for_a_blank : reduce (b 1 1 ∷ b 2 1 ∷ []) (7 ∷ 7 ∷ 7 ∷ []) ≡ some (3 ∷ 7 ∷ 5 ∷ [])
unfolding computed
room_for_a_blank = refl

-- The same colour twice needs the blank: two cells are too few, and in three it stands in the middle.
twice_in_two : reduce (b 1 1 ∷ b 1 1 ∷ []) (3 ∷ 3 ∷ []) ≡ none
unfolding computed
twice_in_two = refl

twice_in_three : reduce (b 1 1 ∷ b 1 1 ∷ []) (3 ∷ 3 ∷ 3 ∷ []) ≡ some (2 ∷ 1 ∷ 2 ∷ [])
unfolding computed
twice_in_three = refl

-- two cells of one colour side by side are one block
one_block : blocks_of (1 ∷ 1 ∷ []) ≡ b 1 2 ∷ []
unfolding computed
one_block = refl

-- Three blocks in three cells: only neighbours count, and here they differ.
three_in_three : reduce (b 1 1 ∷ b 2 1 ∷ b 1 1 ∷ []) (7 ∷ 7 ∷ 7 ∷ []) ≡ some (2 ∷ 4 ∷ 2 ∷ [])
unfolding computed
three_in_three = refl

-- Blocks that just fill the line, with a blank only where one is needed: here between the last two;
just_filled : reduce (b 1 2 ∷ b 2 1 ∷ b 2 1 ∷ []) (7 ∷ 7 ∷ 7 ∷ 7 ∷ 7 ∷ []) ≡ some (2 ∷ 2 ∷ 4 ∷ 1 ∷ 4 ∷ [])
unfolding computed
just_filled = refl

-- a cell less, and they do not fit.
not_filled : reduce (b 1 2 ∷ b 2 1 ∷ b 2 1 ∷ []) (7 ∷ 7 ∷ 7 ∷ 7 ∷ []) ≡ none
unfolding computed
not_filled = refl

-- a cell that can't be blank takes the block to itself, and what lies too far is blank
near : reduce (b 1 2 ∷ []) (3 ∷ 2 ∷ 3 ∷ 3 ∷ 3 ∷ []) ≡ some (3 ∷ 2 ∷ 3 ∷ 1 ∷ 1 ∷ [])
unfolding computed
near = refl

-- the line of no cell meets the clue of no block, and no other
no_cell : reduce [] [] ≡ some []
unfolding computed
no_cell = refl
