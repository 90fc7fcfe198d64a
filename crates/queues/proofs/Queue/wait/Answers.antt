-- Stores below n are a push; a cell past the last is past the queue too.
use borrow.Author.Rules.{rules}
use Rattle.queues.proofs.Entries.{pushed_holds, past_holds}
use Rattle.queues.proofs.Queue.wait.Goals as goal

pub returns-then-i-self : goal.returns-then-i-self
returns-then-i-self c = let a = c.args in pushed_holds a.self.now a.c.0 a.p (record { waits = search rules; priority = search rules })

pub returns-else-i-self : goal.returns-else-i-self
returns-else-i-self c = let a = c.args in past_holds a.self.now a.c.0 a.p c.if-i-self.false
