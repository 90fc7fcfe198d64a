-- Where the final check passes, the board is stored.
use mathlib.Core.Path.{sym, ◌∙◌}
use Rattle.boards.proofs.Sizes.{board_cells}
use Rattle.backtracking.proofs.Storing.{stores_met}
use Rattle.backtracking.proofs.store.check_and_store.Goals as goal

pub returns : goal.returns
returns c =
    let a = c.args in
    stores_met a.board _ _ a.task.limits a.stats _ _ c.requires.sized (board_cells a.board _ c.well_formed.0) (λ z i. sym c.if-not-check.false ∙ c.check.ensures.is z i) c.add_solution.ensures
