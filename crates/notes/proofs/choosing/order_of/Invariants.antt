-- The invariant: the colours taken out, and those left, are all in order. The measure is how many are left.
use Rattle.rules.specs.Queues.{waiting}
use Rattle.notes.specs.Choosing.{waiting_colours}
use Rattle.notes.proofs.Ordering.{Taken}
use Rattle.notes.proofs.choosing.order_of.Given as goal

abbrev pub invariant-loop-x : goal.invariant-loop-x
invariant-loop-x l = Taken l.initial.left l.t.counts l.left l.order.items

abbrev pub decreases-loop-x : goal.decreases-loop-x
decreases-loop-x l = waiting (waiting_colours l.left l.t.counts)
