-- What is passed on from colour to colour and from cell to cell where guesses are chosen.
use Rattle.std.specs.Prelude.{◌≡◌, Bool, true, false, List, map, ℕ, ◌<◌, ltb, get_or, Float, All}
use Rattle.std.specs.Prelude as Std
use Rattle.std.proofs.Math.Option.{Option, none, some}
use Rattle.rules.specs.Lists.{from}
use Rattle.rules.specs.Sets.{Colour, has, single, without}
use Rattle.rules.specs.Floats.{rate}
use Rattle.rules.specs.Queues.{Queue}
use Rattle.rules.specs.Guesses.{largest, smallest}
use Rattle.cells.specs.declared.Colour as Cells
use Rattle.cells.specs.Numbers.{colour_numbers}

-- ## Cells by rate

-- what a cell waits with: its set, and what was noted of it
abbrev pub rate_of : ℕ → Option (List (Colour × ℕ)) → Option Float
rate_of s o = elim (single s) [ true ↦ none | false ↦ elim o [ none ↦ none | some each ↦ some (rate (largest each) (smallest each)) ] ]

-- ## Colours by what they solve

-- the first solves more
abbrev pub more : ℕ → ℕ → Bool
more m n = ltb n m

-- the colours of a set, each waiting with its count
unfoldable pub waiting_colours : ℕ → List ℕ → Queue ℕ
waiting_colours s counts = map (λ x. elim (has s x) as (λ _. Option ℕ) [ true ↦ some (get_or counts x 0) | false ↦ none ]) (from 0 8)

-- the colour taken out of a set, if there is one, and the colours that wait then
abbrev pub popped_colour : ℕ → List ℕ → Std.Option Cells.Colour → Option (Colour × Queue ℕ)
popped_colour s counts Std.None = none
popped_colour s counts (Std.Some x) = some (x.0, waiting_colours (without s x.0) counts)

-- these are the colours xs, in order
pub record Ordered (xs : List Colour) (order : List Cells.Colour) : Type 0 where
  pub low : All (λ x. x.0 < 8) order
  pub colours : colour_numbers order ≡ xs
