-- By the tests, in their order.
use Rattle.std.proofs.Common.{sym}
use Rattle.grids.proofs.Parts.{refused_width, refused_height, refused_list, refused_grid, placed}
use Rattle.grids.proofs.handing.place_of.Goals as goal
use Rattle.grids.proofs.handing.place_of.Goals.{then-not-within-via-then-not-within, then-not-within-via-else-not-within+then-not-within-2}

pub returns-then-not-within : goal.returns-then-not-within
returns-then-not-within c =
    let a = c.args in
    elim c.then-not-within.branch [
      | then-not-within-via-then-not-within w ↦ refused_width a.list.now a.w a.h a.n a.i (sym w.if-not-within.ensures)
      | then-not-within-via-else-not-within+then-not-within-2 w ↦ refused_height a.list.now a.w a.h a.n a.i (sym w.if-not-within-2.ensures)
    ]

pub returns-then-n-list : goal.returns-then-n-list
returns-then-n-list c = refused_list _ _ _ _ _ (sym c.if-not-within.ensures) (sym c.if-not-within-2.ensures) c.if-n-list.true

pub returns-then-i-n : goal.returns-then-i-n
returns-then-i-n c = refused_grid _ _ _ _ _ (sym c.if-not-within.ensures) (sym c.if-not-within-2.ensures) c.if-n-list.false c.if-i-n.true

pub returns : goal.returns
returns c = placed _ _ _ _ _ (sym c.if-not-within.ensures) (sym c.if-not-within-2.ensures) c.if-n-list.false c.if-i-n.false
