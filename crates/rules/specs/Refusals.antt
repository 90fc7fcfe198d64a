-- Why a question is refused, and the number that its caller is given.
use Rattle.std.specs.Prelude.{ℕ}
use Rattle.rules.specs.declared.Refusal.{Refusal}
use Rattle.rules.specs.declared.Refusal.TheVariants.{Sides, Colours, Limits, Clues, Cells, List, Rate, Grid}

abbrev pub refusal_number : Refusal → ℕ
refusal_number Sides = 11
refusal_number Colours = 12
refusal_number Limits = 13
refusal_number Clues = 14
refusal_number Cells = 15
refusal_number List = 16
refusal_number Rate = 19
refusal_number Grid = 20
