use Rattle.std.proofs.Common.{arith}
use Rattle.rates.proofs.Turns.{turned_one, turned_zero, turned_all}
use Rattle.rates.proofs.roots.digits.Goals as goal
use Rattle.rates.proofs.roots.digits.Goals.{then-odd-more, else-odd-more}

pub loop-turn-preserved : goal.loop-turn-preserved
loop-turn-preserved c =
    let inv = c.loop-turn.invariant in
    elim c.if-odd-more.branch [
      | then-odd-more w ↦ rw (w.root-is, w.rest-is) (turned_one _ _ _ _ _ inv (omega arith) w.if-odd-more.true)
      | else-odd-more w ↦ rw (w.root-is, w.rest-is) (turned_zero _ _ _ _ _ inv (omega arith) w.if-odd-more.false)
    ]

pub returns : goal.returns
returns c = turned_all _ _ _ _ _ c.requires c.loop-turn.invariant (omega arith)
