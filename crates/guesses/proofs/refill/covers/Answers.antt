-- A set is covered where it is what both sets have.
use native.Mathlib.Omega.{arith}
use Rattle.guesses.proofs.Closed.{covers_every}
use Rattle.guesses.proofs.refill.covers.Goals as goal

pub returns : goal.returns
returns c = covers_every c.args.s c.args.m (omega arith)
