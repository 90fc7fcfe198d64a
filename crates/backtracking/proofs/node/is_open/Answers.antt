-- By the two tests.
use native.Mathlib.Omega.{arith}
use Rattle.backtracking.proofs.Boarding.{colour_past, colour_high, colour_there}
use Rattle.backtracking.proofs.node.is_open.Goals as goal
use Rattle.backtracking.proofs.node.is_open.Goals.{then-board-from-via-then-board-from, then-board-from-via-else-board-from+then-guess-ge8}

pub returns-then-board-from : goal.returns-then-board-from
returns-then-board-from c = elim c.then-board-from.branch [
  | then-board-from-via-then-board-from w ↦ colour_past c.args.board _ c.args.guess.colour.0 (omega arith)
  | then-board-from-via-else-board-from+then-guess-ge8 w ↦ colour_high c.args.board _ c.args.guess.colour.0 c.cell-set.result (omega arith) c.cell-set.ensures (omega arith) w.if-guess-ge8.true
]

pub returns : goal.returns
returns c = colour_there c.args.board c.args.guess.cell.0 c.args.guess.colour.0 c.cell-set.result _ (omega arith) (omega arith) c.cell-set.ensures c.has.ensures
