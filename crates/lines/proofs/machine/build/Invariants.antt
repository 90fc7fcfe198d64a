-- The invariant: m is the machine of the blocks from block j on.
use Rattle.std.proofs.Common.{◌≡◌, ◌/◌, ◌≤◌, length}
use Rattle.lines.specs.Machines.{machine}
use Rattle.lines.proofs.Building.{rest_at}
use Rattle.lines.proofs.machine.build.Given as goal

abbrev pub invariant-loop-j : goal.invariant-loop-j
invariant-loop-j l = (l.j ≤ length l.pairs / 2) × (l.m ≡ machine (rest_at l.pairs l.j))
