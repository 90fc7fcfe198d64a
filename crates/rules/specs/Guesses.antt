-- Choosing guesses from the notes of a run of probing.
use Rattle.std.specs.Prelude.{true, false, List, [], ◌∷◌, map, ℕ, max, min, get_or, replicate, ltb, Float}
use Rattle.std.proofs.Math.Option.{Option, none, some}
use Rattle.rules.specs.Lists.{joined}
use Rattle.rules.specs.Sets.{Colour, single}
use Rattle.rules.specs.Queues.{Queue, push, in_order}
use Rattle.rules.specs.Boards.{Board, Cell, at, cells}
use Rattle.rules.specs.Floats.{higher, rate}
use Rattle.rules.specs.Probing.{Notes}

-- a cell and a colour for it
pub data Guess : Type 0 where
  guess : Cell → Colour → Guess

-- the largest number of newly solved cells over a cell's colours
abbrev pub largest : List (Colour × ℕ) → ℕ
largest [] = 0
largest (g ∷ gs) = max g.1 (largest gs)

-- the smallest; there is a colour wherever it is asked for
abbrev pub smallest : List (Colour × ℕ) → ℕ
smallest [] = 0
smallest (g ∷ []) = g.1
smallest (g ∷ h ∷ gs) = min g.1 (smallest (h ∷ gs))

-- what was noted of a cell
abbrev pub notes_at : Notes → Cell → Option (List (Colour × ℕ))
notes_at ns c = get_or ns c none

-- a noted cell waits with its rate; solved cells are skipped
abbrev pub rate_at : Board → Notes → Cell → Option Float
rate_at b ns c = elim (single (at b c)) [ true ↦ none | false ↦ elim (notes_at ns c) [ none ↦ none | some each ↦ some (rate (largest each) (smallest each)) ] ]

-- cells go by rate, highest first, ties by row, then column
unfoldable pub cell_order : Board → Notes → List Cell
cell_order b ns = in_order higher (map (rate_at b ns) (cells b))

-- a cell's colours, each waiting with the number of cells that it newly solves
unfoldable pub tally : List (Colour × ℕ) → Queue ℕ
tally [] = replicate 8 none
tally (g ∷ gs) = push g.0 g.1 (tally gs)

-- within a cell the colour that solves most comes first, ties ascending
unfoldable pub colour_order : Notes → Cell → List Colour
colour_order ns c = elim (notes_at ns c) [ none ↦ [] | some each ↦ in_order (λ m n. ltb n m) (tally each) ]

-- the chosen guesses, first to last
unfoldable pub choose : Board → Notes → List Guess
choose b ns = joined (map (λ c. map (guess c) (colour_order ns c)) (cell_order b ns))
