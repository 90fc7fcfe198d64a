-- A whole number of 55 to 60 binary digits, over 2 ^ 55, rounded to f64: its first 53 digits are kept, and the result is at most half a unit of the last of them away.
use mathlib.Core.Path.{◌≡◌, sym, ap, subst, ◌∙◌}
use mathlib.Core.Bool.{false, not}
use Prim.Native.Nat.{ℕ, suc, ◌+◌, ◌-◌, ◌*◌, ◌/◌, ◌%◌, ◌^◌, ◌≤◌, ◌<◌, compare, Ordering}
use native.Mathlib.Nat.{mul_assoc, mul_comm, mul_left_comm, mul_right_comm, add-mul, suc-mul, one-mul, lt_of_not-le, not-le_of_lt, le_trans, le_of_eq, div-add-mod', mod-lt, mul-le-mul_right, le_of_mul-le-mul_right, eq_of_mul-eq-mul_right, mul-pos, mul-div_cancel}
use native.Mathlib.Omega.{arith}
use lib.Pow.{pow-add, pow_mono, pow_pos}
use lib.Dec.{T, is_le, compare_is_eq, leb→le, nleb→lt, eqb→eq, lit<, lit≤}
use lib.Ieee.{Float, binary64, size, nearest, round}
use lib.Ieee.Digits.{size-lt, size_reaches}
use lib.Ieee.Nearest.{closest, closest_same}
use lib.Ieee.Scale.{grid, round_val, round_under}
use lib.Ieee.Positive.{num, den, value→cross}
use Rattle.rules.specs.Roots.{Plain}
use Rattle.rules.proofs.Plain.{plain_finite, AtMost, round_at_most}

-- ## The nearest whole number is at most a half away

-- w and r / b, moved by how twice r compares with b
moved : (w r b : ℕ) (o : Ordering) → (T (is_le o) → r * 2 ≤ b) → (T (not (is_le o)) → b < r * 2) → (T (compare_is_eq o) → r * 2 ≡ b) → r < b →
    (nearest w o * b * 2 ≤ (w * b + r) * 2 + b) × ((w * b + r) * 2 ≤ nearest w o * b * 2 + b)
moved w r b Ordering.lt x y z h = let p = x tt in (omega arith, omega arith)
moved w r b Ordering.eq x y z h =
    let p = z tt in
    let q : (w + w % 2) * b ≡ w * b + w % 2 * b = add-mul w (w % 2) b in
    let e : w % 2 * b ≤ 1 * b = mul-le-mul_right b (omega arith) in
    (omega arith, omega arith)
moved w r b Ordering.gt x y z h =
    let p = y tt in
    let q : suc w * b ≡ w * b + b = suc-mul w b in
    (omega arith, omega arith)

pub half_away : (a b : ℕ) → 0 < b → (closest a b * b * 2 ≤ a * 2 + b) × (a * 2 ≤ closest a b * b * 2 + b)
half_away a b B =
    subst (λ (n : ℕ). (closest a b * b * 2 ≤ n * 2 + b) × (n * 2 ≤ closest a b * b * 2 + b)) (div-add-mod' a b)
    (moved (a / b) (a % b) b (compare (a % b * 2) b) (leb→le (a % b * 2) b) (nleb→lt (a % b * 2) b) (eqb→eq (a % b * 2) b) (mod-lt a B))

-- ## What is kept

-- D units of P * 4 are at most half a unit from n
record Sides (n D P : ℕ) : Type 0 where
  long : 2 ^ 52 ≤ D
  under : (D * 2 - 1) * P * 2 ≤ n
  over : n ≤ (D * 2 + 1) * P * 2

sides_of : (n D P : ℕ) → 0 < P → 2 ^ 54 * P ≤ n → D * (P * 4) * 2 ≤ n * 2 + P * 4 → n * 2 ≤ D * (P * 4) * 2 + P * 4 → Sides n D P
sides_of n D P some low most least =
    let flat : D * (P * 4) ≡ D * P * 4 = sym (mul_assoc D P 4) in
    let eight : (D * 8 + 4) * P ≡ D * P * 8 + 4 * P = add-mul (D * 8) 4 P ∙ ap (λ (z : ℕ). z + 4 * P) (mul_right_comm D 8 P) in
    let l : 2 ^ 55 * P ≤ (D * 8 + 4) * P = omega arith in
    let k : 2 ^ 55 ≤ D * 8 + 4 = le_of_mul-le-mul_right {m = 2 ^ 55} {n = D * 8 + 4} {k = P} l some in
    let less : D * 2 - 1 + 1 ≡ D * 2 = omega arith in
    let below : (D * 2 - 1) * P + P ≡ D * P * 2 = ap (λ (z : ℕ). (D * 2 - 1) * P + z) (sym (one-mul P)) ∙ sym (add-mul (D * 2 - 1) 1 P) ∙ ap (λ (z : ℕ). z * P) less ∙ mul_right_comm D 2 P in
    let above : (D * 2 + 1) * P ≡ D * P * 2 + P = add-mul (D * 2) 1 P ∙ ap (λ (z : ℕ). z + 1 * P) (mul_right_comm D 2 P) ∙ ap (λ (z : ℕ). D * P * 2 + z) (one-mul P) in
    record { long = omega arith; under = omega arith; over = omega arith }

-- The result is digits * 2 ^ place / 2 ^ 53. The number lies from `under` to `over`, the points half a unit from it, and a result of only 2 ^ 52 units, the power of two, is not above it.
pub record Rounded (n : ℕ) : Type 0 where
  pub digits : ℕ
  pub place : ℕ
  pub number : Plain (round binary64 false n (2 ^ 55))
  pub value : num (round binary64 false n (2 ^ 55)) * 2 ^ 53 ≡ digits * 2 ^ place * den (round binary64 false n (2 ^ 55))
  pub long : 2 ^ 52 ≤ digits
  pub floor : 2 ^ 54 * 2 ^ place ≤ n
  pub under : (digits * 2 - 1) * 2 ^ place * 2 ≤ n
  pub over : n ≤ (digits * 2 + 1) * 2 ^ place * 2

module _ (n : ℕ) (low : 2 ^ 54 ≤ n) (high : n < 2 ^ 60) where
  x : Float
  x = round binary64 false n (2 ^ 55)

  w : ℕ
  w = n * 2 ^ 1074 / 2 ^ 55

  w_is : w ≡ n * 2 ^ 1019
  unfolding w
  w_is = ap (λ (m : ℕ). m / 2 ^ 55) (sym (mul_assoc n (2 ^ 1019) (2 ^ 55))) ∙ mul-div_cancel (n * 2 ^ 1019) (lit< tt)

  many : 1074 ≤ size w
  many = lt_of_not-le (λ (g : size w ≤ 1073). not-le_of_lt (size-lt w) (le_trans (pow_mono g) (rw w_is (mul-le-mul_right {m = 2 ^ 54} (2 ^ 1019) low))))

  i : ℕ
  i = size w - 1074

  size_is : size w ≡ i + 1074
  unfolding i
  size_is = omega (arith, many)

  floor_is : 2 ^ i * 2 ^ 54 ≤ n
  floor_is =
      le_of_mul-le-mul_right {m = 2 ^ i * 2 ^ 54} {n = n} {k = 2 ^ 1019}
      (le_trans (le_of_eq (mul_assoc (2 ^ i) (2 ^ 54) (2 ^ 1019) ∙ sym (pow-add 2 i 1073)))
      (subst (λ (m : ℕ). 2 ^ (i + 1073) ≤ m) w_is (size_reaches w (i + 1073) (rw size_is (omega arith)))))
      (pow_pos 1019)

  -- the last digit that is kept, in the number's units
  unit : ℕ
  unit = 2 ^ i * 4

  unit_pos : 0 < unit
  unfolding unit
  unit_pos = mul-pos (pow_pos i) (lit< tt)

  D : ℕ
  D = closest n unit

  half : (D * unit * 2 ≤ n * 2 + unit) × (n * 2 ≤ D * unit * 2 + unit)
  unfolding D
  half = half_away n unit unit_pos

  last_is : 2 ^ (size w - 53) ≡ unit * 2 ^ 1019
  unfolding unit
  last_is =
      let fewer : i + 1074 - 53 ≡ i + 1021 = omega arith in
      ap (λ (z : ℕ). 2 ^ (z - 53)) size_is ∙ ap (λ (z : ℕ). 2 ^ z) fewer ∙ pow-add 2 i 1021 ∙ sym (mul_assoc (2 ^ i) 4 (2 ^ 1019))

  grid_is : grid binary64 n (2 ^ 55) ≡ D * unit * 2 ^ 1019
  unfolding D w
  grid_is =
      ap (λ (z : ℕ). closest (n * 2 ^ 1074) (2 ^ 55 * z) * z) last_is
      ∙ ap (λ (z : ℕ). z * (unit * 2 ^ 1019))
      (closest_same (n * 2 ^ 1074) (2 ^ 55 * (unit * 2 ^ 1019)) n unit (mul-pos (lit< tt) (mul-pos unit_pos (pow_pos 1019))) unit_pos
      (mul_assoc n (2 ^ 1074) unit ∙ ap (λ (z : ℕ). n * z) (mul_comm (2 ^ 1074) unit ∙ mul_left_comm unit (2 ^ 55) (2 ^ 1019))))
      ∙ sym (mul_assoc (closest n unit) unit (2 ^ 1019))

  at_most : AtMost 32 x
  unfolding x
  at_most = round_at_most n (2 ^ 55) 32 (lit< tt) (lit≤ tt) (omega arith)

  value_is : num x * 2 ^ 53 ≡ D * 2 ^ i * den x
  unfolding x unit
  value_is =
      let g = round_under binary64 n (2 ^ 55) (plain_finite at_most.number) in
      let v : num x * 2 ^ 1074 ≡ grid binary64 n (2 ^ 55) * den x = value→cross x (grid binary64 n (2 ^ 55)) (2 ^ 1074) (round_val binary64 n (2 ^ 55) g) in
      eq_of_mul-eq-mul_right (2 ^ 1021) (pow_pos 1021) (num x * 2 ^ 53) (D * 2 ^ i * den x)
      (mul_assoc (num x) (2 ^ 53) (2 ^ 1021)
      ∙ v
      ∙ ap (λ (z : ℕ). z * den x) (grid_is ∙ ap (λ (z : ℕ). z * 2 ^ 1019) (sym (mul_assoc D (2 ^ i) 4)) ∙ mul_assoc (D * 2 ^ i) 4 (2 ^ 1019))
      ∙ mul_right_comm (D * 2 ^ i) (2 ^ 1021) (den x))

  sides : Sides n D (2 ^ i)
  unfolding unit
  sides = sides_of n D (2 ^ i) (pow_pos i) (omega (arith, floor_is)) half.0 half.1

  pub rounded : Rounded n
  unfolding x unit
  rounded = record {
    digits = D;
    place = i;
    number = at_most.number;
    value = value_is;
    long = sides.long;
    floor = omega (arith, floor_is);
    under = sides.under;
    over = sides.over;
  }
