-- By whether the guess was dead, whether its colour was the cell's last, and how the node's own probing went.
use mathlib.Core.Path.{sym, ◌∙◌}
use Rattle.backtracking.proofs.Ending.{ends_last, ends_over, ends_probed}
use Rattle.backtracking.proofs.node.after_guess.Goals as goal

pub returns-then-cell-eq0 : goal.returns-then-cell-eq0
returns-then-cell-eq0 c =
    ends_last _ _ _ _ _ _ _ c.requires.0.few c.requires.1 _ c.requires.2 c.if-not-dead.false c.remove-board.ensures (sym c.cell.ensures ∙ c.if-cell-eq0.true)

pub returns-in_err-board : goal.returns-in_err-board
returns-in_err-board c = rw c.from_residual.ensures
    (ends_over _ _ _ _ _ _ _ c.requires.0.few c.requires.1 _ c.requires.2 c.if-not-dead.false c.remove-board.ensures
    c.cell.result c.cell.ensures c.cell.type_inv c.if-cell-eq0.false c.in_err-board.ensures)

pub returns : goal.returns
returns c =
    ends_probed _ _ _ _ _ _ _ c.requires.0.few c.requires.1 _ c.requires.2 c.if-not-dead.false c.remove-board.ensures
    c.cell.result c.cell.ensures c.cell.type_inv c.if-cell-eq0.false c.others-node.result c.cell-set.result c.requires.0.sized c.in_ok-board.ensures c.cell-set.ensures c.others-node.ensures
