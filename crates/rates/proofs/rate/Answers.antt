-- Counts that pass both tests have their rate (`accepted`); where either fails, the rate is refused (`refused`).
use Rattle.std.proofs.Common.{inl, inr, arith}
use Rattle.rates.proofs.Answers.{accepted, refused}
use Rattle.rates.proofs.rate.Goals as goal

pub returns-then-min-max : goal.returns-then-min-max
returns-then-min-max c = accepted _ _ (omega arith) c.if-min-max.true c.rate_of.ensures

pub returns-else-max-le-LARGEST_COUNT : goal.returns-else-max-le-LARGEST_COUNT
returns-else-max-le-LARGEST_COUNT c = refused _ _ (elim c.else-max-le-LARGEST_COUNT.either [ inl w ↦ inr w.1 | inr w ↦ inl (omega (arith, w)) ])
