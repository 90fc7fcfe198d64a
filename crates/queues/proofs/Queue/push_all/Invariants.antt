-- The invariant: pushing the cells that are left is all that is left to do.
use Rattle.queues.proofs.Entries.{Pushing}
use Rattle.queues.proofs.Queue.push_all.Given as goal

abbrev pub invariant-loop-c : goal.invariant-loop-c
invariant-loop-c l = Pushing l.cells l.p l.initial.self l.self l.c-index
