use Rattle.std.proofs.Common.{ap, get_or, bit_and, shl_exact, rules, arith}
use Rattle.lines.proofs.Masks.{sign_le}
use Rattle.lines.specs.Machines.{moves}
use Rattle.lines.proofs.Turns.{able_again, able_over, able_left}
use Rattle.lines.proofs.reduction.moves.Goals as goal
use Rattle.lines.proofs.reduction.moves.Goals.{else-loop-c-test, then-loop-c-test+then-s-c-eq0}

pub loop-c-preserved : goal.loop-c-preserved
loop-c-preserved c =
    let l = c.loop-c in
    let v = sign_le (bit_and (get_or c.args.m.by l.c 0) c.args.states) in
    rw (shl_exact {a = c.sign.result} 1 l.c 8 (omega (arith, c.sign.ensures)) (omega arith), c.sign.ensures) (able_again c.args.m.by l.c c.args.states l.able _ (search rules) l.invariant.0 l.invariant.1)

pub returns : goal.returns
unfolding moves
returns c =
    let l = c.loop-c in
    let a = c.args in
    elim c.loop-c-test.branch [
      | else-loop-c-test w ↦ ap (λ colours. bit_and colours a.s) (able_over a.m.by l.c a.states l.able _ (search rules) l.invariant.1)
      | then-loop-c-test+then-s-c-eq0 w ↦ able_left a.m.by l.c a.s a.states l.able _ (search rules) l.invariant.0 l.invariant.1
    ]
