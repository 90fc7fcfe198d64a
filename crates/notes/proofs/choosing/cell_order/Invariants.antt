-- The invariant: the cells below i are rated.
use Rattle.notes.proofs.Rating.{Rated}
use Rattle.notes.proofs.choosing.cell_order.Given as goal

abbrev pub invariant-loop-i : goal.invariant-loop-i
invariant-loop-i l = Rated l.board l.notes l.q l.i
