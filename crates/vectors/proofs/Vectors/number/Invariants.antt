-- The invariant: the number that the text goes on with is the one that has been read so far, with what is left. The measure is what is left.
use Rattle.std.proofs.Common.{◌≡◌, length}
use Rattle.std.specs.Slice.Iter.{iter_rest}
use Rattle.vectors.specs.Numbers.{number, number_from}
use Rattle.vectors.proofs.Vectors.number.Given as goal

abbrev pub invariant-loop-d : goal.invariant-loop-d
invariant-loop-d l = number_from l.value (iter_rest l.self-inside.left) ≡ number l.fn.self

abbrev pub decreases-loop-d : goal.decreases-loop-d
decreases-loop-d l = length (iter_rest l.self-inside.left)
