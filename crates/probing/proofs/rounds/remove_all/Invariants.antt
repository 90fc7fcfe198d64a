-- The invariant: removing the colours from x on is all that is left to do.
use Rattle.probing.proofs.Cutting.{Removing}
use Rattle.probing.proofs.rounds.remove_all.Given as goal

abbrev pub invariant-loop-x : goal.invariant-loop-x
invariant-loop-x l = Removing l.initial.board l.c.0 l.bad l.board l.x
