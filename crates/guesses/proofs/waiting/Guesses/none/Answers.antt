-- From place 1,024 on none waits, whatever stands in the arrays.
use Rattle.guesses.proofs.Arrays.{none_waiting}
use Rattle.guesses.proofs.waiting.Guesses.none.Goals as goal

pub returns : goal.returns
returns c = none_waiting _ _
