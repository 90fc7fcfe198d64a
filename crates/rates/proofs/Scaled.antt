-- Multiplying a quotient by 2 ^ 54, and dividing a rounded whole number by 2 ^ 55, are exact.
use Rattle.std.proofs.Common.{◌≡◌, ℕ, zero, suc, ◌+◌, ◌-◌, ◌*◌, ◌/◌, ◌^◌, ◌<◌, ◌≤◌, true, false, T, pos, sym, refl, ap, ◌∙◌, subst, le_trans, le_of_eq, lt_of_lt_of_le, lt_of_le_of_lt, mul-le-mul_right, mul_assoc, mul-lt-mul_of_pos_right, mul-pos, mul-one, mul_right_comm, le_of_mul-le-mul_right, mul-div_cancel, add-one, arith, lit<, lit≤, lt→ltb, pow_pos, pow-add}
use native.Mathlib.Nat.{eq_of_mul-eq-mul_right}
use lib.Ieee.{Float, fin, binary64, up, down, fits, lt, mul, div, of_int, round, to_unsigned}
use lib.Ieee.Fits.{down_pos, round-fits}
use lib.Ieee.Exact.{HasValue, round_exact}
use lib.Ieee.Scale.{grid, round_same, round_val, round_under, grid_scale, normal_of_fraction}
use lib.Ieee.Positive.{num, den, den_pos, value→cross}
use Rattle.rules.specs.Floats as Floats
use Rattle.rules.specs.Floats.{float, quotient, whole_root, sticky}
use Rattle.rules.specs.Roots.{Plain, plain}
use Rattle.rules.proofs.Plain.{plain_of, plain_finite, round_own, AtMost, round_at_most, quotient_is}
use Rattle.rules.proofs.Roots.{InUnits, doubled, doubled_few, root_is}
use Rattle.rules.proofs.Rates.{quotient_at_most, quotient_units}
use Rattle.rates.specs.Digits.{Digits}

-- ## A quotient in units

-- 2 ^ k as f64
abbrev pub power : ℕ → Float
power k = fin false 1 (pos k)

-- what is turned into a whole number: a plain f64 that is one, below 2 ^ 62
pub record IsWhole (x : Float) (n : ℕ) : Type 0 where
  pub above : T (lt (fin true 1 (pos 0)) x)
  pub below : T (lt x (power 64))
  pub is : to_unsigned 64 x ≡ n

is_whole : {x : Float} {n : ℕ} → Plain x → num x ≡ n * den x → n < 2 ^ 62 → IsWhole x n
unfolding lt to_unsigned
is_whole {n} (plain {m} {e} h) v few =
    let some = down_pos e in
    let most = mul-lt-mul_of_pos_right {m = n} {n = 2 ^ 62} {k = down e} few some in
    let cut : m * up e / down e ≡ n = ap (λ (z : ℕ). z / down e) v ∙ mul-div_cancel n some in
    record {
      above = lt→ltb 0 (1 * down e + m * up e * 1) (omega arith);
      below = lt→ltb (m * up e * 1) (2 ^ 64 * down e) (omega arith);
      is = omega arith;
    }

product_is : {x y : Float} → Plain x → Plain y → mul binary64 x y ≡ round binary64 false (num x * num y) (den x * den y)
unfolding mul
product_is (plain h) (plain k) = refl

power_54 : Plain (power 54)
unfolding fits
power_54 = plain tt

power_55 : Plain (power 55)
unfolding fits
power_55 = plain tt

-- the units of a quotient are a whole number that an f64 holds
units_value : {q : Float} (u : InUnits q) → HasValue (round binary64 false u.units 1) false u.units 1
units_value u =
    let n = u.units in
    let wide : u.kept * 2 ^ (u.places + 1074) ≡ n * 2 ^ 1074 =
    ap (λ (z : ℕ). u.kept * z) (pow-add 2 u.places 1074) ∙ sym (mul_assoc u.kept (2 ^ u.places) (2 ^ 1074)) ∙ ap (λ (z : ℕ). z * 2 ^ 1074) (sym u.is) in
    round_exact binary64 false n 1 u.kept (u.places + 1074) (lit< tt) u.short
    (lt_of_le_of_lt (le_of_eq wide) (lt_of_lt_of_le (mul-lt-mul_of_pos_right {m = n} {n = 2 ^ 62} {k = 2 ^ 1074} u.high (pow_pos 1074)) (lit≤ tt)))
    (sym wide ∙ sym (mul-one (u.kept * 2 ^ (u.places + 1074))))

pub in_units : {q : Float} → Plain q → (u : InUnits q) → IsWhole (mul binary64 q (power 54)) u.units
in_units {q} p u =
    let n = u.units in
    let x = round binary64 false n 1 in
    let e : mul binary64 q (power 54) ≡ x =
    product_is p power_54 ∙ round_same binary64 false (num q * 2 ^ 54) (den q * 1) n 1 (mul-pos (den_pos q) (lit< tt)) (lit< tt) (omega (arith, u.value)) in
    let v : HasValue x false n 1 = units_value u in
    subst (λ (z : Float). IsWhole z n) (sym e)
    (is_whole (plain_of x n 1 (round-fits binary64 false n 1) v) (sym (mul-one (num x)) ∙ value→cross x n 1 v) u.high)

-- ## A whole number, rounded and divided

module _ (n : ℕ) (some : 0 < n) (few : n < 2 ^ 60) where
  -- n / 2 ^ 55, rounded
  y : Float
  y = round binary64 false n (2 ^ 55)

  y_at_most : AtMost 32 y
  unfolding y
  y_at_most = round_at_most n (2 ^ 55) 32 (lit< tt) (lit≤ tt) (omega arith)

  g : ℕ
  g = grid binary64 n (2 ^ 55)

  y_is : num y * 2 ^ 1074 ≡ g * den y
  unfolding y g
  y_is = value→cross y g (2 ^ 1074) (round_val binary64 n (2 ^ 55) (round_under binary64 n (2 ^ 55) (plain_finite y_at_most.number)))

  -- n, rounded: the same digits, 55 places higher
  x : Float
  x = round binary64 false n 1

  raised : x ≡ round binary64 false (n * 2 ^ 55) (2 ^ 55)
  unfolding x
  raised = round_same binary64 false n 1 (n * 2 ^ 55) (2 ^ 55) (lit< tt) (lit< tt) (sym (mul-one (n * 2 ^ 55)))

  g_raised : grid binary64 (n * 2 ^ 55) (2 ^ 55) ≡ g * 2 ^ 55
  unfolding g
  g_raised =
      grid_scale binary64 n (2 ^ 55) 55 (lit< tt)
      (normal_of_fraction binary64 n (2 ^ 55) (lit< tt) (le_trans (lit≤ {m = 2 ^ 52 * 2 ^ 55} {n = 1 * 2 ^ 1074} tt) (mul-le-mul_right (2 ^ 1074) some)))

  g_few : g ≤ 32 * 2 ^ 1074
  g_few =
      le_of_mul-le-mul_right {m = g} {n = 32 * 2 ^ 1074} {k = den y}
      (le_trans (le_of_eq (sym y_is)) (le_trans (mul-le-mul_right (2 ^ 1074) y_at_most.bound) (le_of_eq (mul_right_comm 32 (den y) (2 ^ 1074)))))
      (den_pos y)

  x_value : HasValue x false (g * 2 ^ 55) (2 ^ 1074)
  x_value =
      subst (λ (z : Float). HasValue z false (g * 2 ^ 55) (2 ^ 1074)) (sym raised)
      (subst (λ (z : ℕ). HasValue (round binary64 false (n * 2 ^ 55) (2 ^ 55)) false z (2 ^ 1074)) g_raised
      (round_val binary64 (n * 2 ^ 55) (2 ^ 55) (lt_of_le_of_lt (le_of_eq g_raised) (lt_of_le_of_lt (mul-le-mul_right (2 ^ 55) g_few) (lit< tt)))))

  x_plain : Plain x
  unfolding x
  x_plain = plain_of x (g * 2 ^ 55) (2 ^ 1074) (round-fits binary64 false n 1) x_value

  same_digits : num x * den (power 55) * den y ≡ num y * (num (power 55) * den x)
  same_digits =
      let a : num x * 2 ^ 1074 ≡ g * 2 ^ 55 * den x = value→cross x (g * 2 ^ 55) (2 ^ 1074) x_value in
      let mix : g * 2 ^ 55 * den x * den y ≡ g * den y * (2 ^ 55 * den x) = ap (λ (z : ℕ). z * den y) (mul_assoc g (2 ^ 55) (den x)) ∙ mul_right_comm g (2 ^ 55 * den x) (den y) in
      eq_of_mul-eq-mul_right (2 ^ 1074) (pow_pos 1074) (num x * den (power 55) * den y) (num y * (num (power 55) * den x))
      (ap (λ (z : ℕ). z * den y * 2 ^ 1074) (mul-one (num x)) ∙ mul_right_comm (num x) (den y) (2 ^ 1074) ∙ ap (λ (z : ℕ). z * den y) a ∙ mix ∙ ap (λ (z : ℕ). z * (2 ^ 55 * den x)) (sym y_is) ∙ mul_right_comm (num y) (2 ^ 1074) (2 ^ 55 * den x))

  some_divided : div binary64 x (power 55) ≡ y
  some_divided =
      quotient_is x_plain power_55 (lit< tt)
      ∙ round_same binary64 false (num x * den (power 55)) (num (power 55) * den x) (num y) (den y) (mul-pos (lit< tt) (den_pos x)) (den_pos y) same_digits
      ∙ round_own y_at_most.number

none_divided : div binary64 (round binary64 false 0 1) (power 55) ≡ round binary64 false 0 (2 ^ 55)
unfolding round div
none_divided = refl

pub divided : (n : ℕ) → n < 2 ^ 60 → div binary64 (of_int binary64 (pos n)) (power 55) ≡ round binary64 false n (2 ^ 55)
unfolding of_int x y
divided zero few = none_divided
divided (suc n) few = some_divided (suc n) (omega arith) few

-- ## The root of a quotient of counts

module _ (max min : ℕ) (few : max ≤ 255) (in_order : min ≤ max) where
  u : InUnits (quotient max min)
  u = quotient_units max min few in_order

  -- the quotient, in units, is a whole number
  pub units_of : ℕ
  units_of = u.units

  pub units_few : units_of < 2 ^ 62
  unfolding units_of
  units_few = u.high

  pub units_whole : IsWhole (mul binary64 (div binary64 (float max) (float (min + 1))) (power 54)) units_of
  unfolding units_of
  units_whole = rw add-one (in_units (quotient_at_most max min few in_order).number u)

  -- and the doubled digits of its root, rounded and divided, are its root
  pub root_found : (units root rest : ℕ) → units ≡ units_of → Digits units root rest → div binary64 (float (root * 2 + sticky rest)) (power 55) ≡ Floats.root (quotient max min)
  unfolding units_of
  root_found units root rest e d =
      let n = u.units * 2 ^ 54 in
      let digits : root ≡ whole_root 58 n = d.is_root ∙ ap (λ (z : ℕ). whole_root 58 (z * 2 ^ 54)) e in
      let left : rest ≡ n - root * root = d.is_rest ∙ ap (λ (z : ℕ). z * 2 ^ 54 - root * root) e in
      let same : root * 2 + sticky rest ≡ doubled n = ap (λ (z : ℕ). root * 2 + sticky z) left ∙ ap (λ (z : ℕ). z * 2 + sticky (n - z * z)) digits in
      ap (λ (z : ℕ). div binary64 (float z) (power 55)) same
      ∙ divided (doubled n) (doubled_few n (omega (arith, u.high)))
      ∙ sym (root_is (quotient_at_most max min few in_order).number u)
