-- The invariant: so many cells are pushed.
use Rattle.std.proofs.Common.{◌≡◌, replicate}
use Rattle.lines.specs.Machines.{pushed_all}
use Rattle.lines.proofs.machine.push_all.Given as goal

abbrev pub invariant-loop : goal.invariant-loop
invariant-loop l = l.m ≡ pushed_all (replicate l.counter l.c) l.fn.m
