-- The bits that are counted are the set's colours.
use native.Mathlib.Omega.{arith}
use Rattle.cells.proofs.Bytes.{ones_single}
use Rattle.cells.proofs.is_solved.Goals as goal

pub returns : goal.returns
returns c = ones_single c.args.s (omega arith)
