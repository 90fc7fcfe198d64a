-- The colour is set and propagated as the rules do. The cell itself was solved by setting, so that fewer than 256 cells are newly solved.
use Rattle.std.proofs.Common.{ap, ◌∙◌}
use Rattle.rules.specs.Options.{opt_of}
use Rattle.boards.specs.Board.{board_of}
use Rattle.boards.proofs.Sizes.{board_cells}
use Rattle.probing.proofs.Assuming.{assumed_none, assumed_some, assumed_few}
use Rattle.probing.proofs.probe.assume.Goals as goal

pub returns-in_err-end : goal.returns-in_err-end
returns-in_err-end c z t =
    let a = c.args in
    ap opt_of c.from_residual.ensures ∙ assumed_none a.board a.c.0 a.x.0 c.requires.2 c.set-b.ensures z (c.in_err-end.ensures.to z (rw c.set-b.ensures t))

pub overflow_cast-result : goal.overflow_cast-result
overflow_cast-result c =
    let a = c.args in
    record { fits = rw c.newly_solved.ensures (assumed_few a.board a.c.0 a.x.0 c.requires.2 c.set-b.ensures (board_of c.in_ok-end.end) c.requires.0 (board_cells a.board _ c.well_formed.0) c.requires.3) }

pub returns : goal.returns
returns c z t =
    let a = c.args in
    assumed_some a.board a.c.0 a.x.0 c.requires.2 c.set-b.ensures z c.in_ok-end.end (c.in_ok-end.ensures.to z (rw c.set-b.ensures t)) c.newly_solved.ensures
