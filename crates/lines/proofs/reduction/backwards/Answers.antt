use Rattle.std.proofs.Common.{◌≡◌, refl, ap, ◌∙◌, ◌+◌, ◌-◌, drop, length-set, arith}
use Rattle.lines.specs.Machines.{ends}
use Rattle.lines.specs.Ways.{way}
use Rattle.lines.proofs.Turns.{ends_last, ends_again, filled_again}
use Rattle.lines.proofs.reduction.backwards.Goals as goal

pub loop-i-init : goal.loop-i-init
loop-i-init c = (refl, ends_last c.args.m c.args.sets.now, λ k other h l. absurd (omega arith))

pub loop-i-preserved : goal.loop-i-preserved
loop-i-preserved c =
    let a = c.args in
    let l = c.loop-i in
    let e = ends_again a.m a.sets.now l.i _ _ l.to (omega arith) (omega arith) l.invariant.1 c.goes.ensures c.pick.ensures in
    let z : l.i - 1 + 1 ≡ l.i = omega arith in
    let v : record { goes = c.goes.result; ends = l.to } ≡ way a.m a.sets.now (l.i - 1) = rw (c.goes.ensures, z, l.invariant.1) in
    (simp length-set l.invariant.0, e, filled_again (way a.m a.sets.now) l.cells l.i _ _ (omega arith) (omega arith) v l.invariant.2)

pub returns : goal.returns
returns c =
    let l = c.loop-i in
    let z : l.i ≡ 0 = omega arith in
    record { cells = λ i other h. l.invariant.2 i other (omega arith) h; start = l.invariant.1 ∙ ap (λ i. ends c.args.m (drop i c.args.sets.now)) z }
