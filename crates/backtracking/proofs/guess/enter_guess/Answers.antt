-- By what the two parts come to, the limits asked after each, and whether the board is solved.
use mathlib.Core.Path.{◌≡◌, sym, ◌∙◌}
use Prim.Native.Nat.{◌*◌}
use Rattle.backtracking.proofs.Boarding.{size_at, ready_on}
use Rattle.backtracking.proofs.Asking.{limit_none}
use Rattle.backtracking.proofs.Entering.{set_limited, probe_died, probed_limited, probed_solved, probed_deeper}
use Rattle.backtracking.proofs.guess.enter_guess.Goals as goal

pub returns-in_err-ask : goal.returns-in_err-ask
returns-in_err-ask c = rw c.from_residual-in_err-ask.ensures (set_limited c.args.depth c.requires.4 c.in_ok-board.ensures c.in_err-ask.ensures)

pub probe_guess-requires : goal.probe_guess-requires
probe_guess-requires c =
    let w = c.in_ok-board.ensures.within in
    (ready_on c.requires.0 w.0.size c.set_guess.auto.list w.0.few, size_at (λ a b. c.in_ok-board.queue.n ≡ a * b) w.0.size w.1, (limit_none _ _ _ c.in_ok-ask.ensures.is).1)

pub returns-in_err-board-2 : goal.returns-in_err-board-2
returns-in_err-board-2 c = rw c.from_residual-in_err-board-2.ensures (probe_died c.args.depth c.requires.4 c.in_ok-board.ensures c.in_ok-ask.ensures.is c.in_err-board-2.ensures)

pub returns-in_err-ask-2 : goal.returns-in_err-ask-2
returns-in_err-ask-2 c = rw c.from_residual-in_err-ask-2.ensures
    (probed_limited c.args.depth c.requires.4 c.in_ok-board.ensures c.in_ok-ask.ensures.is c.in_ok-board-2.ensures c.in_err-ask-2.ensures)

pub returns-then-is_solved_full : goal.returns-then-is_solved_full
returns-then-is_solved_full c =
    probed_solved c.args.depth c.requires.4 c.in_ok-board.ensures c.in_ok-ask.ensures.is c.in_ok-board-2.ensures c.in_ok-ask-2.ensures.is (sym c.is_solved_full.ensures ∙ c.if-is_solved_full.true)

pub returns : goal.returns
returns c =
    probed_deeper c.args.depth c.requires.4 c.in_ok-board.ensures c.in_ok-ask.ensures.is c.in_ok-board-2.ensures c.in_ok-ask-2.ensures.is
    c.requires.0.sized c.choose_directions.ensures (sym c.is_solved_full.ensures ∙ c.if-is_solved_full.false)
