use mathlib.Core.Path.{sym, subst}
use Rattle.std.proofs.Common.{rules}
use Rattle.boards.specs.Propagation.{Propagates}
use Rattle.boards.proofs.Propagating.{propagating_start, propagating_low, propagating_narrowed, propagating_turn, propagating_less, propagating_fails, propagating_end}
use Rattle.boards.proofs.board.Board.propagate.Goals as goal

pub loop-pending-init : goal.loop-pending-init
loop-pending-init c = propagating_start c.args.self _ c.args.c.0 c.first_pending-pending.ensures (search rules)

pub reduce_on-requires : goal.reduce_on-requires
reduce_on-requires c = propagating_low c.loop-pending.invariant c.requires.0 c.loop-pending-test.true

pub returns-in_err-lost : goal.returns-in_err-lost
returns-in_err-lost c =
    subst (Propagates c.args.self c.args.c.0 c.args.machines.now) (sym c.from_residual.ensures)
    (propagating_fails c.loop-pending.invariant c.requires.0 c.loop-pending-test.true c.args.c.0 c.first_pending-pending.ensures c.in_err-lost.ensures)

pub woken-requires : goal.woken-requires
woken-requires c = propagating_narrowed c.loop-pending.invariant c.requires.0 c.loop-pending-test.true c.in_ok-lost.ensures

pub loop-pending-smaller : goal.loop-pending-smaller
loop-pending-smaller c =
    propagating_less c.loop-pending.invariant c.requires.0 c.loop-pending-test.true c.in_ok-lost.ensures c.woken.ensures c.requires.1

pub loop-pending-preserved : goal.loop-pending-preserved
loop-pending-preserved c = propagating_turn c.loop-pending.invariant c.requires.0 c.loop-pending-test.true c.in_ok-lost.ensures c.woken.ensures

pub returns : goal.returns
returns c = propagating_end c.loop-pending.invariant c.requires.0 c.args.c.0 c.first_pending-pending.ensures c.loop-pending-test.false
