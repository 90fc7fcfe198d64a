-- The invariant: writing the rest of the sets is writing all.
use Rattle.boards.proofs.Places.{Writing}
use Rattle.boards.proofs.line.scatter.Given as goal

abbrev pub invariant-loop-j : goal.invariant-loop-j
invariant-loop-j l = Writing l.initial.cells l.sets l.line.start l.line.stride l.line.len l.cells l.j
