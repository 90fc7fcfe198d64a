-- Clue bytes, worked: a 2 by 1 puzzle of two colours, whose one row has a block of colour 2 and length 2, and whose columns have a block of it each.
use Rattle.std.specs.Prelude.{◌≡◌, refl, List, [], ◌∷◌, ℕ}
use Rattle.std.proofs.Math.Option.{none, some}
use Rattle.rules.specs.Clues.{Block, Clue, clue_bytes, clues_of, clue_of}
use Rattle.rules.specs.Examples.Computed.{computed}

abbrev two : ℕ → Block
two n = record { colour = 2; cells = n }

abbrev clues : List Clue
clues = (two 2 ∷ []) ∷ (two 1 ∷ []) ∷ (two 1 ∷ []) ∷ []

abbrev bytes : List ℕ
bytes = 1 ∷ 2 ∷ 2 ∷ 1 ∷ 2 ∷ 1 ∷ 1 ∷ 2 ∷ 1 ∷ []

are_written : clue_bytes clues ≡ bytes
unfolding computed
are_written = refl

are_read : clues_of 2 3 bytes ≡ some clues
unfolding computed
are_read = refl

-- with one colour, colour 2 breaks the layout
colour_above : clues_of 1 3 bytes ≡ none
unfolding computed
colour_above = refl

-- a line is missing; a line too many
line_missing : clues_of 2 4 bytes ≡ none
unfolding computed
line_missing = refl

line_extra : clues_of 2 2 bytes ≡ none
unfolding computed
line_extra = refl

-- no colour 0, no length 0, no length 17, no count 17, no half pair, not even a count
colour_zero : clue_of 3 (1 ∷ 0 ∷ 1 ∷ []) ≡ none
unfolding computed
colour_zero = refl

length_zero : clue_of 3 (1 ∷ 1 ∷ 0 ∷ []) ≡ none
unfolding computed
length_zero = refl

length_seventeen : clue_of 3 (1 ∷ 1 ∷ 17 ∷ []) ≡ none
unfolding computed
length_seventeen = refl

count_seventeen : clue_of 3 (17 ∷ []) ≡ none
unfolding computed
count_seventeen = refl

half_pair : clue_of 3 (1 ∷ 1 ∷ []) ≡ none
unfolding computed
half_pair = refl

no_count : clue_of 3 [] ≡ none
unfolding computed
no_count = refl

-- a clue too long for any line is none the less a clue
long : clue_of 3 (2 ∷ 3 ∷ 16 ∷ 3 ∷ 16 ∷ []) ≡ some (record { colour = 3; cells = 16 } ∷ record { colour = 3; cells = 16 } ∷ [])
unfolding computed
long = refl
