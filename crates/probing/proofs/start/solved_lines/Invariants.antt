-- The invariant: the lines passed are counted.
use Rattle.std.proofs.Common.{◌≡◌, length}
use Rattle.probing.specs.Start.{SolvedOn}
use Rattle.probing.proofs.start.solved_lines.Given as goal

abbrev pub invariant-loop-i : goal.invariant-loop-i
invariant-loop-i l = SolvedOn l.b l.i l.solved × (length l.solved ≡ 32)
