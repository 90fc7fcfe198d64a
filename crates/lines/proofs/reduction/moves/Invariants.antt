-- The invariant: what has been gathered, with the able colours that are left, each by its weight, is the set of all able colours.
use Rattle.std.proofs.Common.{◌≡◌, ◌+◌, ◌*◌, ◌^◌, ◌<◌, drop}
use Rattle.lines.specs.Machines.{able}
use Rattle.lines.proofs.reduction.moves.Given as goal

abbrev pub invariant-loop-c : goal.invariant-loop-c
invariant-loop-c l = (l.able < 2 ^ l.c) × (l.able + 2 ^ l.c * able (drop l.c l.fn.m.by) l.states ≡ able l.fn.m.by l.states)
