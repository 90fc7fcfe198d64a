-- A cell waits with what the test gives of it.
use mathlib.Core.Path.{◌≡◌, ◌∙◌}
use borrow.Author.Rules.{rules}
use Rattle.rules.specs.Options.{opt_of}
use Rattle.queues.specs.Entries.{queue_of, entry_at}
use Rattle.queues.proofs.Entries.{queue_at_lem}
use Rattle.queues.proofs.Queue.leader.Goals as goal

pub returns : goal.returns
returns c = let q = c.args.self.now in c.leader.ensures (queue_of q) (λ k r h e. (let f : entry_at q k ≡ opt_of r = search rules in queue_at_lem q k h ∙ f))
