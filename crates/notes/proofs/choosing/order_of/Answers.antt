use native.Mathlib.Omega.{arith}
use Rattle.notes.proofs.Ordering.{taken_start, taken_low, taken_fewer, taken_room, taken_turn, taken_end}
use Rattle.notes.proofs.choosing.order_of.Goals as goal

pub loop-x-init : goal.loop-x-init
loop-x-init c = taken_start _ _ _ c.new-order.ensures

pub push-requires : goal.push-requires
push-requires c = (omega arith, taken_room _ _ _ _ c.loop-x.invariant _ c.in-Some.ensures)

pub without-left-requires : goal.without-left-requires
without-left-requires c = taken_low _ _ _ _ c.loop-x.invariant _ c.in-Some.ensures

pub loop-x-smaller : goal.loop-x-smaller
loop-x-smaller c = rw c.without-left.ensures (taken_fewer _ _ _ _ c.loop-x.invariant _ c.in-Some.ensures)

pub loop-x-preserved : goal.loop-x-preserved
loop-x-preserved c = rw c.without-left.ensures (taken_turn _ _ _ _ c.loop-x.invariant _ c.in-Some.ensures _ c.push.ensures.items)

pub returns : goal.returns
returns c = taken_end _ _ _ _ c.loop-x.invariant c.in_default.ensures
