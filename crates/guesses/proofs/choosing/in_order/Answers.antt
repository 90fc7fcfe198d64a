use native.Mathlib.Omega.{arith}
use Rattle.cells.specs.declared.CellNo.{CellNo}
use Rattle.rules.specs.Floats.{higher}
use Rattle.queues.specs.Entries.{queue_of}
use Rattle.queues.proofs.Entries.{queue_length}
use Rattle.queues.proofs.Popping.{popping_start, popping_fewer, popping_room, popping_turn, popping_end}
use Rattle.guesses.proofs.choosing.in_order.Goals as goal

pub loop-c-init : goal.loop-c-init
loop-c-init c = popping_start (λ (k : CellNo). k.0) higher (queue_of c.args.q) 256 (omega (arith, queue_length c.args.q, c.args.q.within)) _ c.new-order.ensures

pub push-requires : goal.push-requires
push-requires c = (omega arith, popping_room (λ (k : CellNo). k.0) higher (queue_of c.args.q) 256 _ _ c.loop-c.invariant c.in-Some.c _ c.in-Some.ensures.first)

pub loop-c-smaller : goal.loop-c-smaller
loop-c-smaller c = popping_fewer (λ (k : CellNo). k.0) higher (queue_of c.args.q) 256 _ _ c.loop-c.invariant c.in-Some.c _ c.in-Some.ensures.first

pub loop-c-preserved : goal.loop-c-preserved
loop-c-preserved c = popping_turn (λ (k : CellNo). k.0) higher (queue_of c.args.q) 256 _ _ c.loop-c.invariant c.in-Some.c _ c.in-Some.ensures.first _ c.push.ensures.items

pub returns : goal.returns
returns c = popping_end (λ (k : CellNo). k.0) higher (queue_of c.args.q) 256 _ _ c.loop-c.invariant c.in_default.ensures.first
