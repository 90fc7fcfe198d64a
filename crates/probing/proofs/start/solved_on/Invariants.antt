-- The invariant: the line's places are in the array; and what is counted of the line, and what is still to be counted, is all.
use Rattle.rules.proofs.Counting.{Counted}
use Rattle.boards.specs.Line.{Reaches}
use Rattle.probing.proofs.Starting.{solved_at}
use Rattle.probing.proofs.start.solved_on.Given as goal

abbrev pub invariant-loop-j : goal.invariant-loop-j
invariant-loop-j l = Reaches l.line 256 × Counted (solved_at l.b l.line) l.line.len l.n l.j
