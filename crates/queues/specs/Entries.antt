-- What the queue's arrays stand for: the rules' queue, and the cell that is taken out of it.
use Rattle.std.specs.Prelude.{◌≡◌, map, ℕ, zero, suc, ◌<◌, get_or, Float, Option, None, Some, IfSome}
use Rattle.std.proofs.Math.Option as Math
use Rattle.std.specs.Float.{nan}
use Rattle.rules.specs.Lists.{from}
use Rattle.rules.specs.Boards.{Cell}
use Rattle.rules.specs.Queues.{pop}
use Rattle.rules.specs.Floats.{higher}
use Rattle.rules.specs.Probing.{CellQueue}
use Rattle.cells.specs.declared.CellNo.{CellNo}
use Rattle.queues.specs.declared.Queue.{Queue}

-- a cell waits with its priority where its byte is not 0
abbrev pub entry : ℕ → Float → Math.Option Float
entry zero p = Math.none
entry (suc w) p = Math.some p

-- what a cell waits with
abbrev pub entry_at : Queue → Cell → Math.Option Float
entry_at q c = entry (get_or q.waits c 0) (get_or q.priority c nan)

-- the rules' queue: an entry for each of the n cells
unfoldable pub queue_of : Queue → CellQueue
queue_of q = map (entry_at q) (from 0 q.n)

-- q is the rules' queue e, for n cells
pub record Holds (n : ℕ) (e : CellQueue) (q : Queue) : Type 0 where
  pub size : q.n ≡ n
  pub queue : queue_of q ≡ e

-- the cell taken out, if one waited, and the queue then
abbrev pub taken_of : Option CellNo → Queue → Math.Option (Cell × CellQueue)
taken_of None r = Math.none
taken_of (Some c) r = Math.some (c.0, queue_of r)

-- what taking out of q gives: a cell, if one waits, and the queue r then; where none waits the queue is as it was
pub record TakenFrom (q : Queue) (o : Option CellNo) (r : Queue) : Type 0 where
  pub first : taken_of o r ≡ pop higher (queue_of q)
  pub below : IfSome o (λ c. c.0 < q.n)
  pub size : r.n ≡ q.n
  pub kept : o ≡ None → r ≡ q

-- the cell popped, and the queue without it
abbrev pub popped_of : Option (CellNo × Queue) → Math.Option (Cell × CellQueue)
popped_of None = Math.none
popped_of (Some p) = Math.some (p.0.0, queue_of p.1)

-- what popping gives of q
pub record PoppedFrom (q : Queue) (o : Option (CellNo × Queue)) : Type 0 where
  pub first : popped_of o ≡ pop higher (queue_of q)
  pub below : IfSome o (λ p. p.0.0 < q.n)
  pub size : IfSome o (λ p. p.1.n ≡ q.n)
