-- Every f64 but the one within half a unit of the root is farther from the root: it is a whole unit away from that one at least, so that half way to it lies beyond the root.
use mathlib.Core.Path.{◌≡◌, refl, sym, ap, ◌∙◌}
use mathlib.Core.Logic.{◌⊎◌, inl, inr, ⊎_elim}
use mathlib.Core.Bool.{true, false}
use Prim.Native.Nat.{ℕ, suc, ◌+◌, ◌-◌, ◌*◌, ◌^◌, ◌≤◌, ◌<◌}
use native.Mathlib.Nat.{mul_assoc, mul_right_comm, add-mul, mul-one, mul-le-mul, mul-le-mul_right, mul-lt-mul_of_pos_right, lt_of_mul-lt-mul_right, mul-pos, mul-mul-mul_comm, not-le_of_lt, le_of_lt, lt_of_lt_of_le, lt_of_le_of_lt, le_trans, le_of_eq, eq-or-lt_of_le}
use native.Mathlib.Omega.{arith}
use native.Mathlib.Decide.{dec_le, dec_lt}
use lib.IntN.{ℤ, pos, negsuc}
use lib.Pow.{pow-add, pow_mono, pow_pos}
use lib.Arith.{lt_of_le-ne}
use lib.Ieee.{Float, up, down}
use lib.Ieee.Digits.{back}
use lib.Ieee.Positive.{num, den, den_pos}
use Rattle.rules.specs.Roots.{BelowTwice, AboveTwice, Nearer}
use Rattle.rules.proofs.Squares.{square_mono}

-- ## Each other f64 is a whole number of the root's units, or below 2 ^ 52 of them

powers : (e : ℤ) (i : ℕ) → (a : ℕ) × (b : ℕ) × (up e * 2 ^ 53 ≡ 2 ^ a) × (2 ^ i * down e ≡ 2 ^ b)
powers (pos k) i = (k + 53, i, sym (pow-add 2 k 53), mul-one (2 ^ i))
powers (negsuc k) i = (53, i + suc k, refl, sym (pow-add 2 i (suc k)))

in_steps : (m a b : ℕ) → m < 2 ^ 53 → ((k : ℕ) × (m * 2 ^ a ≡ k * 2 ^ b)) ⊎ (m * 2 ^ a < 2 ^ 52 * 2 ^ b)
in_steps m a b h = elim (dec_le b a) [
  | yes l ↦ inl (m * 2 ^ (a - b), ap (λ (n : ℕ). m * n) (ap (λ (n : ℕ). 2 ^ n) (sym (back a b l)) ∙ pow-add 2 (a - b) b) ∙ sym (mul_assoc m (2 ^ (a - b)) (2 ^ b)))
  | no l ↦
      (let g : a + 1 ≤ b = omega arith in
      let p : 2 ^ a * 2 ≤ 2 ^ b = le_trans (le_of_eq (sym (pow-add 2 a 1))) (pow_mono g) in
      let s : m * 2 ^ a < 2 ^ 53 * 2 ^ a = mul-lt-mul_of_pos_right h (pow_pos a) in
      inr (omega arith))
]

-- m * 2 ^ e in units of 2 ^ i / 2 ^ 53
pub steps : (m : ℕ) (e : ℤ) (i : ℕ) → m < 2 ^ 53 → ((k : ℕ) × (m * up e * 2 ^ 53 ≡ k * 2 ^ i * down e)) ⊎ (m * up e * 2 ^ 53 < 2 ^ 52 * 2 ^ i * down e)
steps m e i h =
    let p = powers e i in
    let a = p.0 in
    let b = p.1 in
    let left : m * up e * 2 ^ 53 ≡ m * 2 ^ a = mul_assoc m (up e) (2 ^ 53) ∙ ap (λ (n : ℕ). m * n) p.2 in
    let right : (k : ℕ) → k * 2 ^ i * down e ≡ k * 2 ^ b = λ k. mul_assoc k (2 ^ i) (down e) ∙ ap (λ (n : ℕ). k * n) p.3 in
    elim (in_steps m a b h) [
      | inl k ↦ inl (k.0, left ∙ k.1 ∙ sym (right k.0))
      | inr l ↦ inr (lt_of_le_of_lt (le_of_eq left) (lt_of_lt_of_le l (le_of_eq (sym (right (2 ^ 52))))))
    ]

-- ## Squares compared

-- A fraction s / d is below twice the root of q, or above it, by its square and that of the root's units: q is n / 2 ^ 108, and s / d is counted in 2 ^ -53.
module _ (q : Float) (n : ℕ) (scaled : num q * 2 ^ 108 ≡ n * den q) (s d : ℕ) where
  left_is : s * 2 ^ 53 * (s * 2 ^ 53) * den q ≡ s * s * den q * 2 ^ 106
  left_is = ap (λ (z : ℕ). z * den q) (mul-mul-mul_comm s (2 ^ 53) s (2 ^ 53)) ∙ mul_right_comm (s * s) (2 ^ 106) (den q)

  right_is : n * (d * d) * den q ≡ 4 * num q * (d * d) * 2 ^ 106
  right_is =
      let four : 4 * num q * (d * d) ≡ 4 * (num q * (d * d)) = mul_assoc 4 (num q) (d * d) in
      let most : num q * (d * d) * 2 ^ 108 ≡ 4 * num q * (d * d) * 2 ^ 106 = omega arith in
      mul_right_comm n (d * d) (den q) ∙ ap (λ (z : ℕ). z * (d * d)) (sym scaled) ∙ mul_right_comm (num q) (2 ^ 108) (d * d) ∙ most

  below_twice : s * 2 ^ 53 * (s * 2 ^ 53) < n * (d * d) → BelowTwice q s d
  below_twice l = lt_of_mul-lt-mul_right (2 ^ 106) {m = s * s * den q} {n = 4 * num q * (d * d)}
      (lt_of_le_of_lt (le_of_eq (sym left_is)) (lt_of_lt_of_le (mul-lt-mul_of_pos_right l (den_pos q)) (le_of_eq right_is)))

  above_twice : n * (d * d) < s * 2 ^ 53 * (s * 2 ^ 53) → AboveTwice q s d
  above_twice l = lt_of_mul-lt-mul_right (2 ^ 106) {m = 4 * num q * (d * d)} {n = s * s * den q}
      (lt_of_le_of_lt (le_of_eq (sym right_is)) (lt_of_lt_of_le (mul-lt-mul_of_pos_right l (den_pos q)) (le_of_eq left_is)))

  module _ (h : ℕ) where
    -- by a point h, in units of 2 ^ -54, between it and the root
    below_by : s * 2 ^ 53 ≤ h * d → h * h < n → 0 < d → BelowTwice q s d
    below_by l r D = below_twice (lt_of_le_of_lt (mul-le-mul l l) (lt_of_le_of_lt (le_of_eq (mul-mul-mul_comm h d h d)) (mul-lt-mul_of_pos_right r (mul-pos D D))))

    below_at : s * 2 ^ 53 < h * d → h * h ≤ n → BelowTwice q s d
    below_at l r = below_twice (lt_of_lt_of_le (square_mono l) (le_trans (le_of_eq (mul-mul-mul_comm h d h d)) (mul-le-mul_right (d * d) r)))

    above_by : h * d ≤ s * 2 ^ 53 → n < h * h → 0 < d → AboveTwice q s d
    above_by l r D = above_twice (lt_of_lt_of_le (mul-lt-mul_of_pos_right r (mul-pos D D)) (le_trans (le_of_eq (sym (mul-mul-mul_comm h d h d))) (mul-le-mul l l)))

-- ## Every other f64 is farther

-- n lies between the points half a unit from D units of P, and a result of 2 ^ 52 units is not above the root
pub record Around (n D P : ℕ) : Type 0 where
  pub long : 2 ^ 52 ≤ D
  pub floor : 2 ^ 53 * P * (2 ^ 53 * P) ≤ n
  pub under : (D * 2 - 1) * P * ((D * 2 - 1) * P) < n
  pub over : n < (D * 2 + 1) * P * ((D * 2 + 1) * P)

module _ (q : Float) (n D P : ℕ) (scaled : num q * 2 ^ 108 ≡ n * den q) (at : Around n D P) (d : ℕ) (some : 0 < d) (a c : ℕ) (here : a * 2 ^ 53 ≡ D * P * d) where
  lower : (k : ℕ) → k < D → c * 2 ^ 53 ≤ k * P * d → BelowTwice q (a + c) d
  lower k l h =
      let step : k * (P * d) ≤ (D - 1) * (P * d) = mul-le-mul_right (P * d) (omega arith) in
      let two : D - 1 + D ≡ D * 2 - 1 = omega arith in
      let sum : (D - 1) * (P * d) + D * (P * d) ≡ (D * 2 - 1) * (P * d) = sym (add-mul (D - 1) D (P * d)) ∙ ap (λ (z : ℕ). z * (P * d)) two in
      let e₁ = mul_assoc k P d in
      let e₂ = mul_assoc D P d in
      let e₃ = mul_assoc (D * 2 - 1) P d in
      below_by q n scaled (a + c) d ((D * 2 - 1) * P) (omega arith) at.under some

  -- below a power of two the f64s stand closer
  lower_close : D ≡ 2 ^ 52 → c * 2 ^ 53 < 2 ^ 52 * P * d → BelowTwice q (a + c) d
  lower_close e h =
      let top : D * P * d ≡ 2 ^ 52 * P * d = ap (λ (z : ℕ). z * P * d) e in
      let e₁ = mul_assoc (2 ^ 52) P d in
      let e₂ = mul_assoc (2 ^ 53) P d in
      below_at q n scaled (a + c) d (2 ^ 53 * P) (omega arith) at.floor

  higher : (k : ℕ) → D < k → c * 2 ^ 53 ≡ k * P * d → AboveTwice q (a + c) d
  higher k l h =
      let step : (D + 1) * (P * d) ≤ k * (P * d) = mul-le-mul_right (P * d) (omega arith) in
      let two : D + 1 + D ≡ D * 2 + 1 = omega arith in
      let sum : (D + 1) * (P * d) + D * (P * d) ≡ (D * 2 + 1) * (P * d) = sym (add-mul (D + 1) D (P * d)) ∙ ap (λ (z : ℕ). z * (P * d)) two in
      let e₁ = mul_assoc k P d in
      let e₂ = mul_assoc D P d in
      let e₃ = mul_assoc (D * 2 + 1) P d in
      above_by q n scaled (a + c) d ((D * 2 + 1) * P) (omega arith) at.over some

  less : (k l : ℕ) → k * P * d < l * P * d → k < l
  less k l h = lt_of_mul-lt-mul_right (P * d) (lt_of_le_of_lt (le_of_eq (sym (mul_assoc k P d))) (lt_of_lt_of_le h (le_of_eq (mul_assoc l P d))))

  pub nearer : ((k : ℕ) × (c * 2 ^ 53 ≡ k * P * d)) ⊎ (c * 2 ^ 53 < 2 ^ 52 * P * d) → (c ≡ a → ⊥) → Nearer q d a false c
  nearer v unlike = elim (dec_lt c a) [
    | yes l ↦ inl (
      l,
      ⊎_elim
          (λ (k : (k : ℕ) × (c * 2 ^ 53 ≡ k * P * d)). lower k.0 (less k.0 D (omega (arith, k.1))) (le_of_eq k.1))
          (λ (g : c * 2 ^ 53 < 2 ^ 52 * P * d). ⊎_elim (λ (e : 2 ^ 52 ≡ D). lower_close (sym e) g) (λ (m : 2 ^ 52 < D). lower (2 ^ 52) m (le_of_lt g)) (eq-or-lt_of_le at.long)) v,
    )
    | no l ↦
        (let m : a < c = lt_of_le-ne (omega arith) (λ (e : a ≡ c). unlike (sym e)) in
        inr (
          m,
          ⊎_elim
              (λ (k : (k : ℕ) × (c * 2 ^ 53 ≡ k * P * d)). higher k.0 (less D k.0 (omega (arith, k.1))) k.1)
              (λ (g : c * 2 ^ 53 < 2 ^ 52 * P * d). absurd (not-le_of_lt (less D (2 ^ 52) (omega arith)) at.long)) v,
        ))
  ]

  pub nearer_minus : Nearer q d a true c
  nearer_minus =
      let step : D * (P * d) ≤ (D * 2 - 1) * (P * d) = mul-le-mul_right (P * d) (omega (arith, at.long)) in
      let e₂ = mul_assoc D P d in
      let e₃ = mul_assoc (D * 2 - 1) P d in
      inr (below_by q n scaled (a - c) d ((D * 2 - 1) * P) (omega arith) at.under some)
