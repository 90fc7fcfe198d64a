use Rattle.guesses.proofs.Room.{waiting_room}
use Rattle.guesses.proofs.Unsolved.{listed_has, listed_has_not, listed_end}
use Rattle.guesses.proofs.refill.colours_of.Goals as goal

pub loop-y-init : goal.loop-y-init
loop-y-init c = waiting_room c.none-g.ensures

pub loop-y-preserved-then-has : goal.loop-y-preserved-then-has
loop-y-preserved-then-has c =
    let l = c.loop-y in listed_has c.args.c.0 c.args.s l.g l.y c.loop-y-test.true l.auto.y l.invariant c.wait.new.self c.if-has.ensures c.wait.ensures

pub loop-y-preserved : goal.loop-y-preserved
loop-y-preserved c = let l = c.loop-y in listed_has_not c.args.c.0 c.args.s l.g l.y c.loop-y-test.true l.auto.y l.invariant c.if-has.ensures

pub returns : goal.returns
returns c = let l = c.loop-y in listed_end c.args.c.0 c.args.s l.g l.y c.loop-y-test.false l.invariant
