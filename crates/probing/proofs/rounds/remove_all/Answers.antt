use Rattle.std.proofs.Common.{sym, ◌∙◌}
use Rattle.probing.proofs.Cutting.{removing_start, removing_turn, removing_pass, removing_end}
use Rattle.probing.proofs.rounds.remove_all.Goals as goal
use Rattle.probing.proofs.rounds.remove_all.Goals.{then-has, else-has}

pub loop-x-init : goal.loop-x-init
loop-x-init c = removing_start c.args.board _ _

pub loop-x-preserved : goal.loop-x-preserved
loop-x-preserved c =
    let l = c.loop-x in
    let a = c.args in
    let on = c.loop-x-test.true in
    elim c.if-has.branch [
      | then-has w ↦ removing_turn a.board a.c.0 a.bad l.board l.x l.invariant on c.requires (sym c.has.ensures ∙ w.if-has.true) (w.board-is ∙ w.remove-board.ensures)
      | else-has w ↦ rw w.board-is (removing_pass a.board a.c.0 a.bad l.board l.x l.invariant on (sym c.has.ensures ∙ w.if-has.false))
    ]

pub returns : goal.returns
returns c =
    let l = c.loop-x in
    (l.invariant.size, removing_end c.args.board c.args.c.0 c.args.bad l.board l.x l.invariant c.loop-x-test.false)
