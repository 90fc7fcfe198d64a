-- The number begins with the digit that was found.
use Rattle.std.proofs.Common.{rules, arith}
use Rattle.std.proofs.lemmas.Grind.{common_steps}
use Rattle.vectors.proofs.Finding.{found}
use Rattle.vectors.proofs.Vectors.number.Goals as goal

pub loop-d-init : goal.loop-d-init
loop-d-init c =
    let (xs, last, yields, folds, ends) = c.find-first.ensures.ran in
    let start = found _ (λ f x b q k. search rules) _ _ xs _ _ last yields folds ends in
    grind (arith, common_steps, start)
