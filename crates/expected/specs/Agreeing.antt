-- When an answer of the rules is the one that is expected.
use Rattle.std.specs.Prelude.{◌≡◌, ℕ, List, All, take, drop, length}
use Rattle.rules.specs.Answers as Rules
use Rattle.belutharin.specs.declared.answers.Numbers as Given
use Rattle.expected.specs.declared.TheConstants.{UNTOUCHED}
use Rattle.expected.specs.declared.Numbers.{Numbers}
use Rattle.expected.specs.declared.Expected.{Expected}

-- the same five numbers
abbrev pub widened_of : Given.Numbers → Numbers
widened_of n = record { number = n.number; grids = n.grids; steps = n.steps; deepest = n.deepest; limit = n.limit }

-- the five numbers of an answer of the rules
abbrev pub numbers : Rules.Answer → Numbers
numbers a = record { number = a.number; grids = a.grids; steps = a.steps; deepest = a.deepest; limit = a.limit }

-- a list begins with the stored grids, and is untouched after them
abbrev pub IsList : List ℕ → List ℕ → Type 0
IsList grids list = (take (length grids) list ≡ grids) × All (λ b. b ≡ UNTOUCHED) (drop (length grids) list)

-- the answer has the numbers, the board and the list that are expected
abbrev pub Agrees : Expected → Rules.Answer → Type 0
Agrees e a = (numbers a ≡ e.answer) × (a.cells ≡ e.board.now) × IsList e.grids.now a.list
