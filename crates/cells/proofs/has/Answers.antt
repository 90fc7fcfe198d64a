-- The code's test of a bit is the definition's.
use mathlib.Core.Path.{refl}
use Rattle.rules.specs.Sets.{bit, has}
use Rattle.cells.proofs.has.Goals as goal

pub returns : goal.returns
unfolding has bit
returns c = refl
