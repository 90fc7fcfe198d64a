use Rattle.std.proofs.Common.{rules, arith}
use Rattle.lines.proofs.Building.{pushed_room}
use Rattle.lines.proofs.machine.push_all.Goals as goal

pub push-m-requires : goal.push-m-requires
push-m-requires c =
    let l = c.loop in
    (c.requires.0, pushed_room c.args.m l.m c.args.c c.args.n l.counter (search rules) c.requires.0 c.requires.1 c.requires.2 (omega arith) l.invariant)
