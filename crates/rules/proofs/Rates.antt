-- The quotient of a rate is 0.0, or from 1/2 up and at most 255, so that its root is the nearest; and each pair of counts has one rate.
use mathlib.Core.Path.{◌≡◌, refl, sym, ap, ap₂, subst, ◌∙◌}
use mathlib.Core.Logic.{◌⊎◌, inl, inr, ⊎_elim}
use mathlib.Core.Bool.{false}
use Prim.Native.Nat.{ℕ, suc, ◌+◌, ◌-◌, ◌*◌, ◌^◌, ◌≤◌, ◌<◌}
use native.Mathlib.Nat.{mul_assoc, mul-one, one-mul, le_of_mul-le-mul_right, lt_of_mul-lt-mul_right, eq-zero-or-pos, lt_of_not-le, le_of_lt}
use native.Mathlib.Omega.{arith}
use lib.IntN.{ℤ, pos, negsuc}
use lib.Pow.{pow-add, pow_mono}
use lib.Dec.{T, lit<, lit≤}
use lib.Ieee.{Float, fin, binary64, up, down, add, div, of_int, round, le, fits}
use lib.Ieee.Digits.{back}
use lib.Ieee.Fits.{down_pos}
use lib.Ieee.Order.{round_mono}
use lib.Ieee.Positive.{num, den}
use Rattle.rules.specs.Floats.{root, quotient, float, rate}
use Rattle.rules.specs.Roots.{Plain, plain, Nearest, IsRate}
use Rattle.rules.proofs.Plain.{held, le_plain, AtMost, ratio_is, ratio_at_most}
use Rattle.rules.proofs.Roots.{InUnits, root_nearest, nought, nought_root, nought_nearest, nearest_one}

-- a plain q from 1/2 up and at most 255 is a whole number of units of 2 ^ -54
places_of : (m : ℕ) (e : ℤ) → m < 2 ^ 53 → down e ≤ m * up e * 2 → (j : ℕ) × (2 ^ j * down e ≡ up e * 2 ^ 54)
places_of m (pos k) s h = (k + 54, mul-one (2 ^ (k + 54)) ∙ pow-add 2 k 54)
places_of m (negsuc k) s h = (54 - suc k, sym (pow-add 2 (54 - suc k) (suc k)) ∙ ap (λ (n : ℕ). 2 ^ n) (back 54 (suc k) few) ∙ sym (one-mul (2 ^ 54)))
  where
    few : suc k ≤ 54
    few = le_of_lt (lt_of_not-le (λ (g : 54 ≤ suc k). let p : 2 ^ 54 ≤ 2 ^ suc k = pow_mono g in omega arith))

from_half : {q : Float} → Plain q → den q ≤ num q * 2 → num q ≤ 255 * den q → (u : InUnits q) × (2 ^ 53 ≤ u.units)
from_half (plain {m} {e} h) low high =
    let s = (held m e h).digits in
    let j = places_of m e s low in
    let units = m * 2 ^ j.0 in
    let v : m * up e * 2 ^ 54 ≡ units * down e = mul_assoc m (up e) (2 ^ 54) ∙ ap (λ (z : ℕ). m * z) (sym j.1) ∙ sym (mul_assoc m (2 ^ j.0) (down e)) in (
      record { units = units; kept = m; places = j.0; value = v; is = refl; short = s; high = lt_of_mul-lt-mul_right (down e) {m = units} {n = 2 ^ 62} (omega (arith, down_pos e)) },
      le_of_mul-le-mul_right {m = 2 ^ 53} {n = units} {k = down e} (omega arith) (down_pos e),
    )

nought_units : InUnits nought
nought_units = record { units = 0; kept = 0; places = 0; value = refl; is = refl; short = lit< tt; high = lit< tt }

nought_quotient : quotient 0 0 ≡ nought
unfolding div of_int
nought_quotient = refl

abbrev half : Float
half = fin false 1 (negsuc 0)

half_plain : Plain half
unfolding fits
half_plain = plain tt

half_is : round binary64 false 1 2 ≡ half
unfolding round
half_is = refl

module _ (max min : ℕ) (few : max ≤ 255) (in_order : min ≤ max) where
  pub quotient_at_most : AtMost 255 (quotient max min)
  quotient_at_most = ratio_at_most max (suc min) 255 (omega arith) (omega arith) (omega arith) (lit≤ tt) (omega arith)

  -- the quotient is zero, or from 1/2 up
  from_or_none : (quotient max min ≡ nought) ⊎ (den (quotient max min) ≤ num (quotient max min) * 2)
  from_or_none = elim (eq-zero-or-pos max) [
    | inl z ↦
        (let none : min ≡ 0 = omega arith in
        inl (ap₂ quotient z none ∙ nought_quotient))
    | inr l ↦
        (let q = round binary64 false max (suc min) in
        let e : q ≡ quotient max min = sym (ratio_is max (suc min) (omega arith) (omega arith) (omega arith)) in
        let above : T (le half (quotient max min)) = subst (λ (x : Float). T (le half x)) e (rw half_is at (round_mono binary64 1 2 max (suc min) (lit< tt) (omega arith) (omega arith))) in
        inr (omega (arith, le_plain half_plain quotient_at_most.number above)))
  ]

  pub quotient_units : InUnits (quotient max min)
  quotient_units = ⊎_elim (λ (e : quotient max min ≡ nought). subst InUnits (sym e) nought_units) (λ (l : den (quotient max min) ≤ num (quotient max min) * 2). (from_half quotient_at_most.number l quotient_at_most.bound).0) from_or_none

  -- THE ROOT IN A RATE: the f64 nearest the quotient's exact root
  pub quotient_nearest : Nearest (quotient max min) (root (quotient max min))
  quotient_nearest =
      ⊎_elim
      (λ (e : quotient max min ≡ nought). subst (λ (q : Float). Nearest q (root q)) (sym e) (subst (Nearest nought) (sym nought_root) nought_nearest))
      (λ (l : den (quotient max min) ≤ num (quotient max min) * 2).
      (let u = from_half quotient_at_most.number l quotient_at_most.bound in
      root_nearest (quotient max min) quotient_at_most.number u.0 u.1))
      from_or_none

  pub rate_is : IsRate max min (rate max min)
  unfolding rate
  rate_is = record { root = root (quotient max min); nearest = quotient_nearest; sum = refl }

-- one rate for each pair of counts
pub rate_one : {max min : ℕ} {r s : Float} → IsRate max min r → IsRate max min s → r ≡ s
rate_one {min} f g = f.sum ∙ ap (λ (x : Float). add binary64 x (float min)) (nearest_one f.nearest g.nearest) ∙ sym g.sum
