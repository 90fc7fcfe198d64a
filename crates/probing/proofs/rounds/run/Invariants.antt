-- The invariant: for every puzzle of the table and every run before, the rules' run of probing from the start is that from here on, with the steps that were counted.
-- A turn is a step of the rules, in one of its ways. The measure is that of the rules' loop, which falls with each step; so the steps stay few.
use Rattle.probing.proofs.Running.{measured, Running}
use Rattle.probing.proofs.rounds.run.Given as goal

abbrev pub invariant-loop-c : goal.invariant-loop-c
invariant-loop-c l = Running l.initial.board l.initial.queue l.machines l.board l.queue l.notes l.steps

abbrev pub decreases-loop-c : goal.decreases-loop-c
decreases-loop-c l = measured l.board l.queue
