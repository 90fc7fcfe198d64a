-- By the limit asked, whether the guess's colour is still there, whether it is the only one, and whether the node has been probed.
use mathlib.Core.Path.{◌≡◌, sym, ap, ◌∙◌}
use native.Mathlib.Omega.{arith}
use Rattle.rules.specs.Sets.{single}
use Rattle.rules.specs.Boards.{at}
use Rattle.boards.specs.Board.{board_of}
use Rattle.backtracking.proofs.Boarding.{cell_at}
use Rattle.backtracking.proofs.Asking.{limit_none}
use Rattle.backtracking.proofs.Beginning.{begins_met, begins_gone, begins_tries, begins_lone, begins_over, begins_probed}
use Rattle.backtracking.proofs.node.before_guess.Goals as goal
use Rattle.backtracking.proofs.node.before_guess.Goals.{After-is_solved}

pub returns-in_err-ask : goal.returns-in_err-ask
returns-in_err-ask c = rw c.from_residual.ensures (begins_met _ _ _ _ _ c.requires.0.few c.in_err-ask.ensures)

pub returns-then-not-is_open : goal.returns-then-not-is_open
returns-then-not-is_open c =
    begins_gone _ _ _ _ _ c.requires.0.few c.in_ok-ask.ensures.is c.first-guess.result _ c.first-guess.ensures c.rest-node.ensures (sym c.is_open.ensures.0 ∙ c.if-not-is_open.true)

-- whether one colour is left
alone : (c : After-is_solved) → single (at (board_of c.args.node.now.board) c.first-guess.result.cell.0) ≡ c.is_solved.result
alone c = ap single (cell_at _ _ (c.is_open.ensures.1 c.if-not-is_open.false).0 ∙ sym c.cell.ensures) ∙ sym c.is_solved.ensures

pub returns-then-not-is_solved : goal.returns-then-not-is_solved
returns-then-not-is_solved c =
    let low = c.is_open.ensures.1 c.if-not-is_open.false in
    begins_tries _ _ _ _ _ c.requires.0.few c.in_ok-ask.ensures.is c.first-guess.result _ c.first-guess.ensures c.rest-node.ensures (sym c.is_open.ensures.0 ∙ c.if-not-is_open.false)
    low.0 low.1 (alone (goal.at.returns-then-not-is_solved c).After-is_solved ∙ c.if-not-is_solved.true)

pub returns-then-node : goal.returns-then-node
returns-then-node c =
    begins_lone _ _ _ _ _ c.requires.0.few c.in_ok-ask.ensures.is c.first-guess.result _ c.first-guess.ensures c.rest-node.ensures (sym c.is_open.ensures.0 ∙ c.if-not-is_open.false)
    (alone (goal.at.returns-then-node c).After-is_solved ∙ c.if-not-is_solved.false) c.if-node.true

pub probe_node-requires : goal.probe_node-requires
probe_node-requires c = let m = limit_none _ _ _ c.in_ok-ask.ensures.is in let b = c.requires.0.budget in (c.requires.0, omega arith)

pub returns-in_err-board : goal.returns-in_err-board
returns-in_err-board c = rw c.from_residual-in_err-board.ensures
    (begins_over c.args.node.now c.args.task.machines.now c.args.list.now c.args.task.limits c.args.depth c.requires.0.few c.in_ok-ask.ensures.is c.first-guess.result _ c.first-guess.ensures c.rest-node.ensures (sym c.is_open.ensures.0 ∙ c.if-not-is_open.false)
    (alone (goal.at.returns-in_err-board c).After-is_solved ∙ c.if-not-is_solved.false) c.if-node.false c.in_err-board.ensures)

pub returns : goal.returns
returns c =
    begins_probed c.args.node.now c.args.task.machines.now c.args.list.now c.args.task.limits c.args.depth c.requires.0.few c.in_ok-ask.ensures.is c.first-guess.result _ c.first-guess.ensures c.rest-node.ensures (sym c.is_open.ensures.0 ∙ c.if-not-is_open.false)
    (alone (goal.at.returns c).After-is_solved ∙ c.if-not-is_solved.false) c.if-node.false c.in_ok-board.ensures
