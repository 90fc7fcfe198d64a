use Rattle.std.proofs.Common.{ap, ◌∙◌, length}
use Rattle.rules.specs.Lists.{keep, from}
use Rattle.rules.proofs.Counting.{counted_start, counted_end}
use Rattle.boards.specs.declared.line.Line.{Line}
use Rattle.probing.proofs.Starting.{solved_at, solved_line, reaches_line}
use Rattle.probing.proofs.start.solved_on.Goals as goal

pub loop-j-init : goal.loop-j-init
loop-j-init c = (reaches_line c.args.b.now c.args.i c.requires.0 c.requires.1 c.line_of-line.ensures, counted_start _ _)

pub returns : goal.returns
returns c z o =
    let l = c.loop-j in
    let b = c.args.b.now in
    counted_end _ _ l.n l.j l.invariant.1 c.loop-j-test.false ∙ ap (λ (l : Line). length (keep (solved_at b l) (from 0 l.len))) c.line_of-line.ensures
    ∙ solved_line b c.args.i c.requires.1 z o
