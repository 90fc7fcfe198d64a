-- The invariant: what has been gathered, with what the colours that are left go on from, is what all colours go on from.
use Rattle.std.proofs.Common.{◌≡◌, drop, bit_or}
use Rattle.lines.specs.Machines.{goes}
use Rattle.lines.proofs.reduction.goes.Given as goal

abbrev pub invariant-loop-p : goal.invariant-loop-p
invariant-loop-p l = bit_or l.states (goes (drop l.p-index l.fn.m.by) l.rest) ≡ goes l.fn.m.by l.s
