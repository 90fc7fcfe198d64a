use native.Mathlib.Omega.{arith}
use borrow.Author.Rules.{rules}
use Rattle.queues.proofs.Entries.{none_taken, leader_low, some_taken}
use Rattle.queues.proofs.Queue.take.Goals as goal

pub returns-in_err-c : goal.returns-in_err-c
returns-in_err-c c = rw c.from_residual.ensures (none_taken c.args.self.now (c.in_err-c.ensures))

pub bounds-self-c : goal.bounds-self-c
bounds-self-c c = omega (arith, leader_low c.args.self.now _ _ (c.in_ok-c.ensures), c.args.self.now.within)

pub overflow_cast-result : goal.overflow_cast-result
overflow_cast-result c = omega (arith, leader_low c.args.self.now _ _ (c.in_ok-c.ensures), c.args.self.now.within)

pub returns : goal.returns
returns c = some_taken c.args.self.now _ _ (c.in_ok-c.ensures) (record { waits = search rules; priority = search rules })
