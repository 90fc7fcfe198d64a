-- By the limit asked, and whether the board is solved or a cell is closed.
use mathlib.Core.Path.{sym, ◌∙◌}
use Rattle.backtracking.proofs.Refilling.{refills_met, refills_over, refills_more}
use Rattle.backtracking.proofs.node.refill.Goals as goal
use Rattle.backtracking.proofs.node.refill.Goals.{then-is_solved_full-via-then-is_solved_full, then-is_solved_full-via-else-is_solved_full+then-any_closed}

pub returns-in_err-ask : goal.returns-in_err-ask
returns-in_err-ask c machines list = rw c.from_residual.ensures (refills_met _ _ _ _ _ c.requires.1 c.in_err-ask.ensures)

pub returns-then-is_solved_full : goal.returns-then-is_solved_full
returns-then-is_solved_full c machines list = refills_over _ _ _ _ _ c.requires.1 c.in_ok-ask.ensures.is (λ those i. elim c.then-is_solved_full.branch [
  | then-is_solved_full-via-then-is_solved_full w ↦ rw (← c.is_solved_full.ensures, w.if-is_solved_full.true)
  | then-is_solved_full-via-else-is_solved_full+then-any_closed w ↦ rw (← c.is_solved_full.ensures, w.if-is_solved_full.false) (sym (w.any_closed.ensures those i) ∙ w.if-any_closed.true)
])

pub returns : goal.returns
returns c machines list = refills_more _ _ _ _ _ c.requires.1 c.in_ok-ask.ensures.is c.first_unsolved-node.result (λ those i. rw (← c.is_solved_full.ensures, c.if-is_solved_full.false) (sym (c.any_closed.ensures those i) ∙ c.if-any_closed.false)) c.first_unsolved-node.ensures
