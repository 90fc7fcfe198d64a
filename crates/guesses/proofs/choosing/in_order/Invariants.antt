-- The invariant: the cells taken out, and those still waiting, are all, in order. The measure is how many wait.
use Rattle.rules.specs.Floats.{higher}
use Rattle.rules.specs.Queues.{waiting}
use Rattle.queues.specs.Entries.{queue_of}
use Rattle.queues.proofs.Popping.{Popping}
use Rattle.guesses.proofs.choosing.in_order.Given as goal

abbrev pub invariant-loop-c : goal.invariant-loop-c
invariant-loop-c l = Popping (λ c. c.0) higher (queue_of l.initial.q) (queue_of l.q) 256 l.order.items

abbrev pub decreases-loop-c : goal.decreases-loop-c
decreases-loop-c l = waiting (queue_of l.q)
