-- Clues and the bytes that they come in. Rows from the top, then columns from the left; each line is one count n (0 to 16), then n pairs: colour (1 to k), length (1 to 16).
-- Nothing follows the last line. Bytes that are not so break the layout. Reading undoes writing and the other way round: `proofs/Clues.antt`.
use Rattle.std.specs.Prelude.{Bool, true, false, ◌&&◌, List, [], ◌∷◌, ◌++◌, ℕ, zero, suc, length, leb}
use Rattle.std.proofs.Math.Option.{Option, none, some}
use Rattle.rules.specs.Lists.{every}

-- a block of a clue: its colour, and how many cells it has
pub record Block : Type 0 where
  pub colour : ℕ
  pub cells : ℕ

-- the blocks of a line, in order
abbrev pub Clue : Type 0
Clue = List Block

abbrev pub within : ℕ → ℕ → ℕ → Bool
within low high n = leb low n && leb n high

-- ## Writing

-- a block that the layout allows, with k colours
abbrev pub allowed : ℕ → Block → Bool
allowed k b = within 1 k b.colour && within 1 16 b.cells

-- a clue that the layout allows
unfoldable pub regular : ℕ → Clue → Bool
regular k clue = leb (length clue) 16 && every (allowed k) clue

unfoldable pub pair_bytes : Clue → List ℕ
pair_bytes [] = []
pair_bytes (b ∷ clue) = b.colour ∷ b.cells ∷ pair_bytes clue

-- the bytes of a line
abbrev pub line_bytes : Clue → List ℕ
line_bytes clue = length clue ∷ pair_bytes clue

-- the bytes of all lines
unfoldable pub clue_bytes : List Clue → List ℕ
clue_bytes [] = []
clue_bytes (clue ∷ clues) = line_bytes clue ++ clue_bytes clues

-- ## Reading

-- what was read from the front of the bytes, and the bytes left
pub data Read (A : Type 0) : Type 0 where
  read : A → List ℕ → Read A
  broken : Read A

-- one thing more in front of what was read
abbrev pub ahead : {A : Type 0} → A → Read (List A) → Read (List A)
ahead a broken = broken
ahead a (read l rest) = read (a ∷ l) rest

-- nothing follows
abbrev pub whole : {A : Type 0} → Read A → Option A
whole broken = none
whole (read a []) = some a
whole (read a (x ∷ rest)) = none

module _ (k : ℕ) where
  abbrev pub read_block : Block → Read Clue → Read Clue
  read_block b rest = elim (allowed k b) [ true ↦ ahead b rest | false ↦ broken ]

  -- n pairs
  unfoldable pub read_pairs : ℕ → List ℕ → Read Clue
  read_pairs zero bytes = read [] bytes
  read_pairs (suc n) [] = broken
  read_pairs (suc n) (c ∷ []) = broken
  read_pairs (suc n) (c ∷ l ∷ bytes) = read_block (record { colour = c; cells = l }) (read_pairs n bytes)

  -- a line: its count, then its pairs
  unfoldable pub read_line : List ℕ → Read Clue
  read_line [] = broken
  read_line (n ∷ bytes) = elim (leb n 16) [ true ↦ read_pairs n bytes | false ↦ broken ]

  -- m lines
  unfoldable pub read_lines : ℕ → List ℕ → Read (List Clue)
  read_lines zero bytes = read [] bytes
  read_lines (suc m) bytes = elim (read_line bytes) [ broken ↦ broken | read clue rest ↦ ahead clue (read_lines m rest) ]

  -- the clues of m lines that the bytes mean; none where they break the layout
  unfoldable pub clues_of : ℕ → List ℕ → Option (List Clue)
  clues_of m bytes = whole (read_lines m bytes)

  -- the clue of one line that the bytes mean
  unfoldable pub clue_of : List ℕ → Option Clue
  clue_of bytes = whole (read_line bytes)
