-- The invariant: no more cases differ than were read.
use Rattle.std.proofs.Common.{◌≤◌}
use Rattle.replay.proofs.all.Given as goal

abbrev pub invariant-loop-i : goal.invariant-loop-i
invariant-loop-i g l = l.differing ≤ l.i-counter
