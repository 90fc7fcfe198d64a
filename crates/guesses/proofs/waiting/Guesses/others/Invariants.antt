-- The invariant: the colours from y on are all that is left to add.
use Rattle.guesses.specs.Waiting.{guesses_of}
use Rattle.guesses.proofs.Others.{Adding}
use Rattle.guesses.proofs.waiting.Guesses.others.Given as goal

abbrev pub invariant-loop-y : goal.invariant-loop-y
invariant-loop-y l = Adding l.c.0 l.x.0 l.set (guesses_of l.initial.self) l.self l.y
