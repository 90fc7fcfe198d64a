use mathlib.Core.Path.{ap₂, ◌∙◌}
use Prim.Native.Nat.{ℕ, ◌*◌, ◌%◌, ◌^◌}
use native.Mathlib.Omega.{arith}
use lib.Bits.{bit_or}
use Rattle.boards.proofs.Differing.{differ_none, differ_more}
use Rattle.boards.proofs.line.differing.Goals as goal

pub loop-j-init : goal.loop-j-init
loop-j-init c = differ_none _ _

pub loop-j-preserved : goal.loop-j-preserved
loop-j-preserved c =
    ap₂ (λ (b d : ℕ). bit_or b (d * 2 ^ c.loop-j.j % 4294967296)) c.loop-j.invariant c.from.ensures ∙ differ_more c.args.old c.args.new c.loop-j.j (omega arith)
