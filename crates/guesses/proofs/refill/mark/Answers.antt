-- The cell's set gets the colour; a cell past the array has no set.
use native.Mathlib.Omega.{arith}
use Rattle.guesses.proofs.Closed.{made_more, made_past}
use Rattle.guesses.proofs.refill.mark.Goals as goal

pub returns-then-i-lt256 : goal.returns-then-i-lt256
returns-then-i-lt256 c l m =
    let a = c.args in
    rw c.including.ensures (made_more a.made a.c.0 a.x.0 l m (omega (arith, c.well_formed.0)) c.if-i-lt256.true)

pub returns-else-i-lt256 : goal.returns-else-i-lt256
returns-else-i-lt256 c l m = let a = c.args in made_past a.made a.c.0 a.x.0 l m c.if-i-lt256.false
