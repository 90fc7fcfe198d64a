-- The invariant: the unsolved cells passed wait, each with its priority.
use Rattle.probing.proofs.Starting.{Starting}
use Rattle.probing.proofs.start.unsolved_cells.Given as goal

abbrev pub invariant-loop-i : goal.invariant-loop-i
invariant-loop-i l = Starting l.b l.q l.i
