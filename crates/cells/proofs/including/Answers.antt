-- The bit of the colour is set, and no other.
use mathlib.Core.Path.{ap, ◌∙◌}
use native.Mathlib.Omega.{arith}
use lib.Bits.{bit_or}
use Rattle.cells.proofs.Bytes.{or_including}
use Rattle.cells.proofs.including.Goals as goal

pub returns : goal.returns
returns c = let a = c.args in ap (bit_or a.s) c.only.ensures ∙ or_including a.s a.x.0 (omega arith) c.requires
