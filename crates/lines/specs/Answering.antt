-- What reducing one line answers, and the number that its caller is given.
use Rattle.std.specs.Prelude.{List, ℕ, Result, Ok, Err}
use Rattle.rules.specs.declared.Refusal.{Refusal}
use Rattle.rules.specs.Clues.{Clue}
use Rattle.rules.specs.Refusals.{refusal_number}
use Rattle.rules.specs.Promises.{LineAccepted}
use Rattle.lines.specs.declared.single.Reduction.{Reduction}
use Rattle.lines.specs.declared.single.Reduction.TheVariants.{Reduced, Contradiction}

abbrev pub reduction_number : Reduction → ℕ
reduction_number Reduced = 1
reduction_number Contradiction = 3

-- what came of a line, or why it is refused
abbrev pub line_number : Result Reduction Refusal → ℕ
line_number (Ok reduction) = reduction_number reduction
line_number (Err refusal) = refusal_number refusal

-- no test refuses it, and its bytes mean a clue
abbrev pub Accepted : ℕ → List ℕ → List ℕ → Type 0
Accepted k bytes cells = (clue : Clue) × LineAccepted k bytes cells clue
