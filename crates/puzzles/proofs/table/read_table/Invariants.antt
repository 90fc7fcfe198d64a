-- The invariant: the lines passed are read, and their machines are in the table.
use Prim.Native.Nat.{◌+◌}
use Rattle.puzzles.proofs.Filling.{Filled}
use Rattle.puzzles.proofs.table.read_table.Given as goal

abbrev pub invariant-loop-i : goal.invariant-loop-i
invariant-loop-i l = Filled l.k (l.h + l.w) l.clues l.machines l.at l.i
