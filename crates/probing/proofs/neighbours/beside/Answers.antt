-- The four sides, each by its test.
use Rattle.std.proofs.Common.{◌≡◌, ◌+◌, ◌-◌, IfSome, rules}
use Rattle.probing.proofs.Sides.{those_when, beside_four}
use Rattle.probing.proofs.neighbours.beside.Goals as goal

pub returns : goal.returns
returns c z o =
    let w = c.args.b.now.w in
    let k = c.args.c.0 in
    let above : IfSome c.then.result (λ x. x ≡ record { 0 = k - w }) = search rules in
    let left : IfSome c.then-2.result (λ x. x ≡ record { 0 = k - 1 }) = search rules in
    let right : IfSome c.then-3.result (λ x. x ≡ record { 0 = k + 1 }) = search rules in
    let below : IfSome c.then-4.result (λ x. x ≡ record { 0 = k + w }) = search rules in
    beside_four z k o (those_when z _ _ _ c.then.ensures.variant above) (those_when z _ _ _ c.then-2.ensures.variant left)
    (those_when z _ _ _ c.then-3.ensures.variant right) (those_when z _ _ _ c.then-4.ensures.variant below)
