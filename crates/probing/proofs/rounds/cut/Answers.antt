-- The colours are gone; where one is left the cell is propagated.
use Rattle.std.proofs.Common.{sym, ◌∙◌, arith}
use Rattle.rules.specs.Sets.{colours}
use Rattle.queues.specs.Entries.{queue_of}
use Rattle.probing.proofs.Frames.{same_cells}
use Rattle.probing.proofs.Cutting.{cut_last, cut_goes_on, pushes_from}
use Rattle.probing.proofs.rounds.cut.Goals as goal

pub returns-then-cell-eq0 : goal.returns-then-cell-eq0
returns-then-cell-eq0 c =
    let a = c.args in
    let e = c.remove_all-b.ensures in
    record { size = tt; room = tt; to = λ z t. cut_last a.board c.remove_all-b.result a.c.0 (colours a.bad) e.1 (rw (same_cells e.0) c.requires.2) (queue_of a.queue) z (sym c.cell.ensures ∙ c.if-cell-eq0.true) }

pub returns : goal.returns
returns c =
    let a = c.args in
    let e = c.remove_all-b.ensures in
    pushes_from a.queue c.propagate_point.result e.0
    (λ z. cut_goes_on a.board c.remove_all-b.result a.c.0 (colours a.bad) e.1 (rw (same_cells e.0) c.requires.2) (queue_of a.queue) z (omega (arith, c.cell.ensures, c.cell.type_inv))
    (λ e. c.if-cell-eq0.false (c.cell.ensures ∙ e)))
    c.propagate_point.ensures
