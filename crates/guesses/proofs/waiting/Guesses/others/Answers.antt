use Rattle.guesses.proofs.Others.{adding_start, adding_turn, adding_end}
use Rattle.guesses.proofs.waiting.Guesses.others.Goals as goal

pub loop-y-init : goal.loop-y-init
loop-y-init c = let a = c.args in adding_start a.c.0 a.x.0 a.set a.self c.requires

pub loop-y-preserved : goal.loop-y-preserved
loop-y-preserved c =
    let l = c.loop-y in
    let a = c.args in
    adding_turn a.c.0 a.x.0 a.set _ l.self _ l.y l.invariant c.loop-y-test.true c.other.ensures

pub returns : goal.returns
returns c =
    let l = c.loop-y in
    let a = c.args in
    adding_end a.c.0 a.x.0 a.set _ l.self l.y l.invariant c.loop-y-test.false
