-- The invariant: propagating from the lines pending at first is propagating from those pending now. A turn is a step of the rules, and the measure is theirs.
use Rattle.boards.proofs.Propagating.{Propagating, propagating_measure}
use Rattle.boards.proofs.board.Board.propagate.Given as goal

abbrev pub invariant-loop-pending : goal.invariant-loop-pending
invariant-loop-pending l = Propagating l.fn.self l.machines l.initial.pending l.self l.pending

abbrev pub decreases-loop-pending : goal.decreases-loop-pending
decreases-loop-pending l = propagating_measure l.fn.self.w l.fn.self.h l.self.cells l.pending
