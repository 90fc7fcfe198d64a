-- A quotient of 0 or 1 is the definition's root of itself (`short_root`). Any other times 2 ^ 54 is a whole number, `digits` gives its root, and the doubled root with its last digit, rounded and
-- divided, is the definition's root (`root_found`). That root is the nearest (`quotient_nearest`).
use Rattle.std.proofs.Common.{w64, ◌≡◌, ℕ, ◌+◌, ◌*◌, ◌≤◌, sym, ap, ◌∙◌, subst, inl, inr, arith}
use lib.Ieee.{Float, binary64, mul, div, of_bits, of_int}
use Rattle.std.specs.Float.{float_to_unsigned}
use Rattle.rules.specs.Floats.{float, quotient, root}
use Rattle.rules.specs.Roots.{Nearest}
use Rattle.rules.proofs.Rates.{quotient_nearest}
use Rattle.rates.proofs.Scaled.{power, units_of, units_few, units_whole, root_found}
use Rattle.rates.proofs.Short.{short_root}
use Rattle.rates.proofs.roots.root.Goals as goal
use Rattle.rates.proofs.roots.root.Goals.{then-quotient-via-then-quotient, then-quotient-via-else-quotient+then-quotient-2}

-- the definition's root is also the nearest
both : (max min : ℕ) {r : Float} → max ≤ 255 → min ≤ max → r ≡ root (quotient max min) → (r ≡ root (quotient max min)) × Nearest (quotient max min) r
both max min few in_order is = (is, subst (Nearest (quotient max min)) (sym is) (quotient_nearest max min few in_order))

-- the units that are asked for are the quotient's
counted : (max min : ℕ) (few : max ≤ 255) (in_order : min ≤ max) {q : Float} {n : ℕ} → q ≡ div binary64 (float max) (float (min + 1)) → n ≡ float_to_unsigned w64 (mul binary64 q (power 54)) → n ≡ units_of max min few in_order
counted max min few in_order e is = (rw e at is) ∙ (units_whole max min few in_order).is

pub returns-then-quotient : goal.returns-then-quotient
unfolding of_bits of_int
returns-then-quotient c =
    let few : c.args.max ≤ 255 = omega arith in
    let q : div binary64 c.from.result c.from-3.result ≡ div binary64 (float c.args.max) (float (c.args.min + 1)) = cc in
    let b = both c.args.max c.args.min few c.requires (q ∙ short_root c.args.max c.args.min few c.requires (elim c.then-quotient.branch [
      | then-quotient-via-then-quotient w ↦ inl (rw q at w.if-quotient.true)
      | then-quotient-via-else-quotient+then-quotient-2 w ↦ inr (rw q at w.if-quotient-2.true)
    ])) in
    record { value = b.0; nearest = b.1 }

pub truncating_f64_to_u64-units-requires : goal.truncating_f64_to_u64-units-requires
unfolding of_bits
truncating_f64_to_u64-units-requires c =
    let q : div binary64 c.from.result c.from-3.result ≡ div binary64 (float c.args.max) (float (c.args.min + 1)) = cc in
    let whole = units_whole c.args.max c.args.min (omega arith) c.requires in
    rw q (record { lower_bound = whole.above; upper_bound = whole.below })

pub digits-found-requires : goal.digits-found-requires
unfolding of_bits
digits-found-requires c =
    let few : c.args.max ≤ 255 = omega arith in
    let q : div binary64 c.from.result c.from-3.result ≡ div binary64 (float c.args.max) (float (c.args.min + 1)) = cc in
    omega (arith, counted c.args.max c.args.min few c.requires q c.truncating_f64_to_u64-units.ensures, units_few c.args.max c.args.min few c.requires)

pub returns : goal.returns
unfolding of_bits
returns c =
    let few : c.args.max ≤ 255 = omega arith in
    let q : div binary64 c.from.result c.from-3.result ≡ div binary64 (float c.args.max) (float (c.args.min + 1)) = cc in
    let units = counted c.args.max c.args.min few c.requires q c.truncating_f64_to_u64-units.ensures in
    let doubled = ap (λ (s : ℕ). float (c.digits-found.result.root * 2 + s)) c.sticky.ensures in
    let b = both c.args.max c.args.min few c.requires
    (ap (λ (x : Float). div binary64 x (power 55)) (c.nearest_u64_to_f64.ensures ∙ doubled)
    ∙ root_found c.args.max c.args.min few c.requires _ _ _ units c.digits-found.ensures) in
    record { value = b.0; nearest = b.1 }
