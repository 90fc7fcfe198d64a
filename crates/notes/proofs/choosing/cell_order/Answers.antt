use mathlib.Core.Path.{ap, ◌∙◌}
use native.Mathlib.Omega.{arith}
use lib.ListN.{get_or}
use Rattle.notes.specs.Choosing.{rate_of}
use Rattle.notes.proofs.Rating.{rated_start, rated_pass, rated_push, rated_end}
use Rattle.notes.proofs.choosing.cell_order.Goals as goal
use Rattle.notes.proofs.choosing.cell_order.Goals.{in-Some, in_default}

pub loop-i-init : goal.loop-i-init
loop-i-init c = rated_start _ c.args.notes.now c.empty-q.result c.empty-q.ensures

pub loop-i-preserved : goal.loop-i-preserved
loop-i-preserved c =
    let l = c.loop-i in
    let rate = ap (rate_of (get_or c.args.board.now l.i 0)) c.at.ensures in
    elim c.match-rate_if.branch [
      | in-Some w ↦ rw w.q-is (rated_push _ c.args.notes.now l.q l.i l.invariant _ _ (w.in-Some.ensures ∙ rate) w.wait.ensures)
      | in_default w ↦ rw w.q-is (rated_pass _ c.args.notes.now l.q l.i l.invariant (w.in_default.ensures ∙ rate))
    ]

pub returns : goal.returns
returns c = rated_end _ c.args.notes.now c.loop-i.q c.loop-i.i c.loop-i.invariant (omega arith) c.requires
