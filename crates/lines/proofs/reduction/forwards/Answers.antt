use Rattle.std.proofs.Common.{◌≡◌, ap, ◌∙◌, ◌<◌, length, get_or, arith}
use Rattle.lines.specs.Machines.{keeps}
use Rattle.lines.proofs.Turns.{reached_again, rest_again, after_again, kept_again, kept_over}
use Rattle.lines.proofs.reduction.forwards.Goals as goal

pub loop-i-preserved : goal.loop-i-preserved
loop-i-preserved c =
    let l = c.loop-i in
    let m = c.args.m in
    let line₀ = c.args.line.now in
    let h : l.i < length line₀ = omega arith in
    let long : length l.line ≡ length line₀ = omega arith in
    let w = c.requires.1.cells l.i (record { goes = 0; ends = 0 }) h in
    let t = c.keeps.ensures ∙ ap (λ x. keeps m (get_or l.line l.i 0) l.from x.ends) w in
    let a = after_again m line₀ l.line l.from l.i c.keeps.result h long l.invariant.0 _ _ (ap (λ x. x.goes) w) c.pick.ensures in (
      rest_again m line₀ l.line l.from l.i c.keeps.result h long l.invariant.0,
      reached_again l.i _ _ l.from l.invariant.1,
      rw a (kept_again m line₀ l.line l.from l.i c.keeps.result h long l.invariant.0 l.invariant.2 t),
    )

pub returns : goal.returns
returns c =
    let l = c.loop-i in
    let a = c.args in
    kept_over a.m a.line.now l.line l.from l.i (omega arith) (omega arith) l.invariant.2
