-- The invariant: the cells passed are gathered.
use Prim.Native.Nat.{◌+◌, ◌*◌}
use lib.ListN.{get_or}
use Rattle.rules.proofs.Given.{Written}
use Rattle.boards.proofs.line.gather.Given as goal

abbrev pub invariant-loop-j : goal.invariant-loop-j
invariant-loop-j l = Written (λ k. get_or l.cells (l.line.start + k * l.line.stride) 0) 0 16 l.j l.sets
