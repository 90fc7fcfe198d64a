use Rattle.std.proofs.Common.{ap, sym, ◌∙◌, arith}
use Rattle.rules.specs.Sets.{has}
use Rattle.probing.proofs.Frames.{at_cell}
use Rattle.probing.proofs.Impacts.{tried_start, tried_has, tried_lacks, tried_bad, tried_good, tried_steps}
use Rattle.probing.proofs.probe.probe.Goals as goal
use Rattle.probing.proofs.probe.probe.Goals.{then-has, else-has}

pub loop-x-init : goal.loop-x-init
loop-x-init c z t = tried_start z _ _

pub with-impact-requires : goal.with-impact-requires
with-impact-requires c =
    let p = c.requires.1 in
    (c.loop-x-test.true, omega (arith, (c.loop-x.invariant p.puzzle p.table).steps.few))

pub loop-x-preserved : goal.loop-x-preserved
loop-x-preserved c z t =
    let l = c.loop-x in
    let on = c.loop-x-test.true in
    let said = ap (λ s. has s l.x) (at_cell c.args.board c.args.c.0 c.requires.2 ∙ sym c.cell.ensures) ∙ sym c.has.ensures in
    elim c.if-has.branch [
      | then-has w ↦ tried_has z _ _ l.x l.impact (l.invariant z t) on (said ∙ w.if-has.true) (w.assume.ensures z t) (w.impact-is ∙ w.with-impact.ensures)
      | else-has w ↦ tried_lacks z _ _ l.x l.impact (l.invariant z t) on (said ∙ w.if-has.false) w.impact-is
    ]

pub returns : goal.returns
returns c =
    let l = c.loop-x in
    let end = c.loop-x-test.false in
    let p = c.requires.1 in
    let s = l.invariant p.puzzle p.table in
    record {
      low = s.low;
      steps = tried_steps _ _ _ l.x l.impact s end;
      bad = λ z t. tried_bad z _ _ l.x l.impact (l.invariant z t) end;
      good = λ z t. tried_good z _ _ l.x l.impact (l.invariant z t) end;
    }
