use Rattle.std.proofs.Common.{◌≡◌, ◌++◌, ap, sym, ◌∙◌, take_all, length, rules}
use lib.Ieee.{of_int, of_bits}
use Rattle.boards.proofs.Sizes.{board_length}
use Rattle.probing.proofs.Frames.{same_cells}
use Rattle.probing.proofs.Pushing.{new_here, finding_pass, finding_more, finding_end}
use Rattle.probing.proofs.neighbours.push_new.Goals as goal
use Rattle.probing.proofs.neighbours.push_new.Goals.{then-is_new+else-loop-n-test, else-is_new}

pub loop-i-preserved : goal.loop-i-preserved
loop-i-preserved c =
    let l = c.loop-i in
    let start = c.args.start.now in
    let end = c.args.end.now in
    let on = c.loop-i-test.true in
    let new = new_here start end l.i on c.requires.1 ∙ sym c.is_new.ensures in
    elim c.if-is_new.branch [
      | then-is_new+else-loop-n-test w ↦ (let next = w.around.result.items in
          let all : w.loop-n.found.items ≡ l.found.items ++ next =
          w.loop-n.invariant ∙ ap (λ xs. l.found.items ++ xs) (take_all w.loop-n.n-index w.deref-n-items.result.now w.loop-n-test.false ∙ w.deref-n-items.ensures.0) in
          rw (w.found-is, all) (finding_more start end l.found.items l.i l.invariant on next (new ∙ w.if-is_new.true) (rw w.deref-n-items.ensures.0 at w.deref-n-items.ensures.1) w.around.ensures))
      | else-is_new w ↦ rw w.found-is (finding_pass start end l.found.items l.i l.invariant on (new ∙ w.if-is_new.false))
    ]

pub returns : goal.returns
unfolding of_int of_bits
returns c =
    let l = c.loop-i in
    let start = c.args.start.now in
    let full : length start.cells ≡ 256 = search rules in
    let long = board_length start c.requires.0 full ∙ sym (same_cells c.requires.1) in
    finding_end start c.args.end.now l.found.items l.i l.invariant c.args.queue c.loop-i-test.false c.requires.1 long (rw c.deref.ensures.0 at c.push_all.ensures)
