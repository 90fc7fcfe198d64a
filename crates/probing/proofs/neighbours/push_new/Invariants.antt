-- The invariants: the unsolved neighbours of the newly solved cells before cell i are found; and of cell i's the first are added.
use Rattle.std.proofs.Common.{◌≡◌, ◌++◌, take}
use Rattle.probing.proofs.Pushing.{Finding}
use Rattle.probing.proofs.neighbours.push_new.Given as goal

abbrev pub invariant-loop-i : goal.invariant-loop-i
invariant-loop-i l = Finding l.start l.end l.found.items l.i

abbrev pub invariant-loop-n : goal.invariant-loop-n
invariant-loop-n l = l.found.items ≡ l.initial.found.items ++ take l.n-index l.n-items
