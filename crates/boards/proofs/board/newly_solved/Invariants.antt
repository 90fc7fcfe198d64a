-- The invariant: what is counted, and what is still to be counted, is all.
use lib.ListN.{length}
use Rattle.boards.proofs.Counting.{Counted}
use Rattle.boards.proofs.board.newly_solved.Given as goal

abbrev pub invariant-loop-a : goal.invariant-loop-a
invariant-loop-a l = Counted l.fn.start l.fn.end l.n l.count (length l.yielded)
