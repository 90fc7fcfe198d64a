-- The invariant: as many numbers as there were iterations are read and put.
use Rattle.std.proofs.Common.{◌≡◌}
use Rattle.vectors.specs.Numbers.{numbers, put}
use Rattle.vectors.proofs.Vectors.bytes.Given as goal

abbrev pub invariant-loop-i : goal.invariant-loop-i
invariant-loop-i l = (l.self ≡ (numbers l.i l.initial.self).1) × (l.out ≡ put (numbers l.i l.initial.self).0 l.initial.out)
