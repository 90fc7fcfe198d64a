-- The measure is how many bytes there are.
use Rattle.std.proofs.Common.{length}
use Rattle.lines.proofs.machine.+need.Given as goal

abbrev pub decreases-need : goal.decreases-need
decreases-need l = length l.pairs.now
