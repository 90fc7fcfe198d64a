-- The invariant: from cell i on the ways are stored, and `to` is what leads on to the end from cell i.
use Rattle.std.proofs.Common.{◌≡◌, ℕ, ◌≤◌, ◌<◌, length, drop, get_or}
use Rattle.lines.specs.declared.reduction.Way.{Way}
use Rattle.lines.specs.Machines.{ends}
use Rattle.lines.specs.Ways.{way}
use Rattle.lines.proofs.reduction.backwards.Given as goal

abbrev pub invariant-loop-i : goal.invariant-loop-i
invariant-loop-i l = (length l.cells ≡ 16) × (l.to ≡ ends l.m (drop l.i l.sets)) × ((k : ℕ) (other : Way) → l.i ≤ k → k < length l.sets → get_or l.cells k other ≡ way l.m l.sets k)
