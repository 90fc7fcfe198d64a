-- The invariant: the bits are those of the cells passed.
use mathlib.Core.Path.{◌≡◌}
use Rattle.boards.specs.Line.{differ_bits}
use Rattle.boards.proofs.line.differing.Given as goal

abbrev pub invariant-loop-j : goal.invariant-loop-j
invariant-loop-j l = l.bits ≡ differ_bits l.old l.new l.j
