-- The invariant: what is found, and what is unsolved of the sides that are left, is all; each side adds one at most.
use Rattle.std.proofs.Common.{◌≤◌, length}
use Rattle.probing.proofs.Sides.{Found}
use Rattle.probing.proofs.neighbours.around.Given as goal

abbrev pub invariant-loop-n : goal.invariant-loop-n
invariant-loop-n l = Found l.b.cells l.n-items l.found.items l.n-index × (length l.found.items ≤ l.n-index)
