-- Each mask has room to be raised, and that of c then has state 0 too.
use Rattle.std.proofs.Common.{◌≡◌, ◌%◌, ◌*◌, ◌<◌, ℕ, length, get_or, rules, arith}
use Rattle.lines.proofs.Building.{raised_is, pushed_is}
use Rattle.lines.proofs.machine.push.Goals as goal

pub returns : goal.returns
returns c =
    let m = c.args.m in
    let each : (i : ℕ) → i < length m.by → get_or c.map-by.result i 0 ≡ get_or m.by i 0 * 2 = λ i h. let w = (c.map-by.ensures.items.at i 0 0 (search rules)).2 in search rules in
    let gap : m.gap * 2 % 4294967296 ≡ m.gap * 2 = omega (arith, c.requires.1.gaps) in
    let last : m.last * 2 % 4294967296 ≡ m.last * 2 = omega (arith, c.requires.1.lasts) in
    rw (gap, last) (pushed_is m c.map-by.result c.args.c (raised_is m.by c.map-by.result (search rules) each))
