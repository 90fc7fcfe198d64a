-- The neighbours of the newly solved cells come first, so that those of the cell get the higher priority.
use lib.Ieee.{of_int, of_bits}
use Rattle.rules.specs.Boards.{newly}
use Rattle.boards.specs.Board.{board_of}
use Rattle.probing.proofs.Pushing.{pushed_both}
use Rattle.probing.proofs.neighbours.push_both.Goals as goal

pub returns : goal.returns
unfolding of_int of_bits
returns c z o =
    let a = c.args in
    pushed_both a.end (newly (board_of a.start) (board_of a.end)) a.c.0 a.queue z (c.push_new-pushed.ensures z o) (rw (c.deref.ensures.0, c.around.ensures z o) at c.push_all.ensures)
