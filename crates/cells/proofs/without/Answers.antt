-- The bit of the colour is cleared, and no other.
use mathlib.Core.Path.{ap, ◌∙◌}
use Prim.Native.Nat.{◌-◌}
use native.Mathlib.Omega.{arith}
use lib.Bits.{bit_and}
use Rattle.cells.proofs.Bytes.{and_without}
use Rattle.cells.proofs.without.Goals as goal

pub returns : goal.returns
returns c = let a = c.args in ap (λ n. bit_and a.s (255 - n)) c.only.ensures ∙ and_without a.s a.x.0 (omega arith) c.requires
