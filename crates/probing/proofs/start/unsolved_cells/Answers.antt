use Rattle.std.proofs.Common.{ap, sym, ◌∙◌}
use Rattle.rules.specs.Sets.{single}
use Rattle.boards.proofs.Sizes.{board_cells, board_length}
use Rattle.probing.proofs.Frames.{at_cell}
use Rattle.probing.proofs.Starting.{starting_start, starting_pass, starting_wait, starting_end}
use Rattle.probing.proofs.start.unsolved_cells.Goals as goal
use Rattle.probing.proofs.start.unsolved_cells.Goals.{then-not-is_solved, else-not-is_solved}

pub loop-i-init : goal.loop-i-init
loop-i-init c = starting_start c.args.b c.empty-q.result c.empty-q.ensures

pub loop-i-preserved : goal.loop-i-preserved
loop-i-preserved c =
    let l = c.loop-i in
    let b = c.args.b in
    let said = ap single (at_cell b l.i c.loop-i-test.true) ∙ sym c.is_solved.ensures in
    elim c.if-not-is_solved.branch [
      | then-not-is_solved w ↦ rw w.q-is (starting_wait b l.q l.i l.invariant c.solved_lines-solved.result c.requires c.loop-i-test.true c.solved_lines-solved.ensures (said ∙ w.if-not-is_solved.true) w.priority_at-priority.ensures w.wait.ensures)
      | else-not-is_solved w ↦ rw w.q-is (starting_pass b l.q l.i l.invariant (said ∙ w.if-not-is_solved.false))
    ]

pub returns : goal.returns
returns c =
    let l = c.loop-i in
    starting_end c.args.b l.q l.i l.invariant c.loop-i-test.false (board_length c.args.b c.requires (board_cells c.args.b _ c.well_formed.0))
