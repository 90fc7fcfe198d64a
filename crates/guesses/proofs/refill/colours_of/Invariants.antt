-- The invariant: the guesses are those of the colours from y on.
use Rattle.guesses.specs.Waiting.{IfRoom}
use Rattle.guesses.proofs.Unsolved.{colours_from}
use Rattle.guesses.proofs.refill.colours_of.Given as goal

abbrev pub invariant-loop-y : goal.invariant-loop-y
invariant-loop-y l = IfRoom (colours_from l.c.0 l.s l.y) l.g
