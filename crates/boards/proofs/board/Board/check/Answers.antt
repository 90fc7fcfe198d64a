use Rattle.std.proofs.Common.{sym, arith, rules}
use Rattle.boards.proofs.Checking.{checked_turn, checked_fails, checked_end}
use Rattle.boards.proofs.board.Board.check.Goals as goal

pub loop-i-init : goal.loop-i-init
loop-i-init c = λ z t j k m. absurd (omega arith)

pub loop-i-preserved : goal.loop-i-preserved
loop-i-preserved c = let l = c.loop-i in checked_turn c.args.self c.args.machines.now c.requires.0 (search rules) l.i l.invariant (omega arith) (λ z t. sym (c.if-not-line_fits.ensures z t))

pub returns-then-not-line_fits : goal.returns-then-not-line_fits
returns-then-not-line_fits c = let l = c.loop-i in checked_fails c.args.self c.args.machines.now c.requires.0 (search rules) l.i (omega arith) (omega arith) (λ z t. sym (c.if-not-line_fits.ensures z t))

pub returns : goal.returns
returns c = checked_end c.args.self c.args.machines.now c.requires.0 (search rules) (λ z t j k m. c.loop-i.invariant z t j (omega arith) m)
