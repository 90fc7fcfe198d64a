-- A line that was read has the pairs of its clue, from which its machine is made (`line_right`).
use mathlib.Core.Path.{refl, sym, subst}
use native.Mathlib.Omega.{arith}
use Rattle.std.proofs.Common.{rules}
use Rattle.lines.proofs.Reading.{RightLine, line_right}
use Rattle.puzzles.specs.Table.{Reads}
use Rattle.puzzles.proofs.Filling.{line_legal, filled_start, filled_turn, filled_fails, filled_end}
use Rattle.puzzles.proofs.table.read_table.Goals as goal
use Rattle.puzzles.proofs.table.read_table.Goals.{In_ok-end}

line : (c : In_ok-end) → RightLine c.args.k c.args.clues.now c.loop-i.at c.in_ok-end.end
line c = line_right c.args.k c.args.clues.now c.loop-i.at c.in_ok-end.end c.in_ok-end.ensures

pub loop-i-init : goal.loop-i-init
loop-i-init c = filled_start _ _ _ _ (search rules)

pub returns-in_err-end : goal.returns-in_err-end
returns-in_err-end c =
    let l = c.loop-i in
    let a = c.args in
    subst (Reads a.k a.w a.h a.clues.now) (sym c.from_residual.ensures)
    (filled_fails _ _ _ _ l.at l.i l.invariant a.w a.h refl c.loop-i-test.true c.in_err-end.ensures)

pub slice_bounds-machine_of-count : goal.slice_bounds-machine_of-count
slice_bounds-machine_of-count c = let l = line c in omega (arith, l.after)

pub slice_bounds-machine_of-start : goal.slice_bounds-machine_of-start
slice_bounds-machine_of-start c = let l = line c in omega (arith, l.after)

pub slice_bounds-machine_of-end : goal.slice_bounds-machine_of-end
slice_bounds-machine_of-end c = (line (goal.at.slice_bounds-machine_of-end c).In_ok-end).inside

pub machine_of-requires : goal.machine_of-requires
machine_of-requires c = line_legal c.args.k _ _ _ (omega arith) (line (goal.at.machine_of-requires c).In_ok-end)

pub loop-i-preserved : goal.loop-i-preserved
loop-i-preserved c =
    let l = c.loop-i in
    filled_turn _ _ _ _ l.at l.i l.invariant _ _ (omega arith) c.loop-i-test.true (omega arith) (line (goal.at.loop-i-preserved c).In_ok-end) c.machine_of.ensures

pub returns : goal.returns
returns c =
    let l = c.loop-i in
    let a = c.args in
    subst (Reads a.k a.w a.h a.clues.now) (sym c.then_some.ensures)
    (filled_end _ _ _ _ l.at l.i l.invariant a.w a.h refl c.loop-i-test.false)
