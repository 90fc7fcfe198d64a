-- The invariant: the cells before i have what they keep, those from i on are as they were, and `from` is what the line can be in before cell i.
use Rattle.std.proofs.Common.{◌≡◌, ◌++◌, take, drop}
use Rattle.lines.specs.Machines.{kept}
use Rattle.lines.proofs.Turns.{Reached}
use Rattle.lines.proofs.reduction.forwards.Given as goal

abbrev pub invariant-loop-i : goal.invariant-loop-i
invariant-loop-i l = (drop l.i l.line ≡ drop l.i l.initial.line) × Reached l.i l.from × (take l.i l.line ++ kept l.m l.from (drop l.i l.initial.line) ≡ kept l.m 1 l.initial.line)
