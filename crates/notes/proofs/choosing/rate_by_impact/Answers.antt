use native.Mathlib.Omega.{arith}
use Rattle.rules.proofs.Noting.{smallest_least}
use Rattle.notes.specs.Round.{note_of}
use Rattle.notes.proofs.choosing.rate_by_impact.Goals as goal

pub rate_of-requires : goal.rate_of-requires
rate_of-requires c = omega (arith, smallest_least (note_of c.args.t), c.least.ensures, c.most.ensures)
