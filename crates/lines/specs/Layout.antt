-- What reading the layout of a line's clue answers.
use Rattle.std.specs.Prelude.{Bool, true, false, ℕ, ◌-◌, length, Option, Some, None}
use Rattle.std.proofs.Math.Option.{none, some}
use Rattle.std.proofs.Math.Option as math
use Rattle.rules.specs.Clues.{Clue, Read, read, broken}

-- before which of n bytes the line that was read ends; none where the layout is broken
abbrev pub line_read : ℕ → Read Clue → Option ℕ
line_read n broken = None
line_read n (read clue rest) = Some (n - length rest)

-- ## One line with its clue

-- whether there is a clue
abbrev pub given : math.Option Clue → Bool
given none = false
given (some clue) = true
