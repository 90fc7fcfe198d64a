-- Plain f64s: each is one number, their order is that of fractions, and counts, sums and quotients of them stay plain as long as they are bounded.
use mathlib.Core.Path.{◌≡◌, refl, sym, ap, subst, ◌∙◌}
use mathlib.Core.Logic.{◌⊎◌, inl, inr}
use mathlib.Core.Bool.{Bool, true, false, not, ◌&&◌, ◌||◌, cond, true≢false}
use Prim.Native.Nat.{ℕ, zero, suc, ◌+◌, ◌-◌, ◌*◌, ◌/◌, ◌%◌, ◌^◌, ◌≤◌, ◌<◌}
use native.Mathlib.Nat.{le_of_lt, le_of_eq, le_trans, lt_of_lt_of_le, lt_of_not-le, not-le_of_lt, mul-one, mul_assoc, mul_comm, mul_right_comm, mul_left_comm, mul-lt-mul_of_pos_right, lt_of_mul-lt-mul_right, mul-le-mul_right, zero-mul, mul-pos, add-mul, le_of_mul-le-mul_right}
use native.Mathlib.Omega.{arith}
use lib.IntN.{ℤ, pos, negsuc}
use lib.Pow.{pow-add, pow_pos, pow-lt}
use lib.Dec.{T, leb, ltb, eqb, lit<, lit≤, ltb→lt, leb→le, eqb→eq, eqb-suc-zero}
use lib.Ieee.{Float, nan, inf, fin, binary64, up, down, size, fits, is_nan, lt, le, eq, ne, odd, units, round, add, div, of_int, to_bits, of_bits}
use lib.Ieee.Digits.{back}
use lib.Ieee.Fits.{up_pos, down_pos, and_l, and_r, round_is, round-fits}
use lib.Ieee.Bits.{of_bits-to_bits, is_true}
use lib.Ieee.Exact.{HasValue, odd_sign, round_exact}
use lib.Ieee.Back.{round_whole}
use lib.Ieee.Order.{round_mono}
use lib.Ieee.Nearest.{closest, div_same}
use lib.Ieee.Scale.{round_same, finite}
use lib.Ieee.Positive.{num, den, den_pos, value→cross}
use borrow.Author.Tests.{ltb-true, ltb-false, lt-ltb, eqb-true, eq-eqb, ne_eqb}
use Rattle.rules.specs.Floats.{float}
use Rattle.rules.specs.Roots.{Plain, plain}
use Rattle.rules.proofs.Tests.{and_true, or_true}

pub plain_fits : {x : Float} → Plain x → T (fits binary64 x)
plain_fits (plain h) = h

pub plain_finite : {x : Float} → Plain x → T (finite x)
plain_finite (plain h) = tt

pub not_nan : {x : Float} → Plain x → T (not (is_nan x))
unfolding is_nan
not_nan (plain h) = tt

-- what has a value with no minus sign is plain
pub plain_of : (x : Float) (a c : ℕ) → T (fits binary64 x) → HasValue x false a c → Plain x
plain_of nan a c h v = absurd v
plain_of (inf s) a c h v = absurd v
plain_of (fin true m e) a c h v = absurd (true≢false v.0)
plain_of (fin false m e) a c h v = plain h

-- what `fits` says of m * 2 ^ e
pub record Held (m : ℕ) (e : ℤ) : Type 0 where
  pub digits : m < 2 ^ 53
  pub place : down e ≤ 2 ^ 1074
  pub top : m * up e < 2 ^ 1024 * down e

pub held : (m : ℕ) (e : ℤ) → T (fits binary64 (fin false m e)) → Held m e
unfolding fits
held zero e h =
    let one : up e * down e ≡ 1 = eqb→eq (up e * down e) 1 h in
    let d : 1 * down e ≤ up e * down e = mul-le-mul_right (down e) (up_pos e) in
    let flat : down e ≤ 1 = omega arith in
    record { digits = lit< tt; place = le_trans flat (lit≤ tt); top = rw zero-mul (mul-pos (pow_pos 1024) (down_pos e)) }
held (suc m) e h =
    let odd = eqb (suc m % 2) 1 in
    let few = ltb (suc m) (2 ^ 53) in
    let deep = leb (down e) (2 ^ 1074) in
    let top = ltb (suc m * up e) (2 ^ 1024 * down e) in
    let t = and_l (odd && few && deep) top h in
    record {
      digits = ltb→lt (suc m) (2 ^ 53) (and_r odd few (and_l (odd && few) deep t));
      place = leb→le (down e) (2 ^ 1074) (and_r (odd && few) deep t);
      top = ltb→lt (suc m * up e) (2 ^ 1024 * down e) (and_r (odd && few && deep) top h);
    }

-- ## Each is one number

same_bits : {x y : Float} → Plain x → Plain y → num x * den y ≡ num y * den x → to_bits binary64 x ≡ to_bits binary64 y
unfolding to_bits
same_bits (plain {m} {e} h) (plain {m = n} {e = d} k) c =
    let l = 2 ^ 1074 in
    let units : m * up e * l / down e ≡ n * up d * l / down d =
    div_same (m * up e * l) (down e) (n * up d * l) (down d) (down_pos e) (down_pos d)
    (mul_right_comm (m * up e) l (down d) ∙ ap (λ (z : ℕ). z * l) c ∙ mul_right_comm (n * up d) (down e) l) in
    ap (λ (w : ℕ). 0 + (size w - 53) * 2 ^ 52 + w / 2 ^ (size w - 53)) units

pub same_number : {x y : Float} → Plain x → Plain y → num x * den y ≡ num y * den x → x ≡ y
same_number {x} {y} p q c = sym (of_bits-to_bits binary64 x (plain_fits p)) ∙ ap (of_bits binary64) (same_bits p q c) ∙ of_bits-to_bits binary64 y (plain_fits q)

-- two that do not equal each other are different fractions
pub different : {x y : Float} → Plain x → Plain y → T (ne x y) → num x * den y ≡ num y * den x → ⊥
unfolding ne eq
different (plain {m} {e} h) (plain {m = n} {e = d} k) t c = subst (λ (b : Bool). T (not (b && true))) (eq-eqb (m * up e * down d) (n * up d * down e) c) t

pub unequal : {x y : Float} → Plain x → Plain y → (num x * den y ≡ num y * den x → ⊥) → T (ne x y)
unfolding ne eq
unequal (plain {m} {e} h) (plain {m = n} {e = d} k) c = subst (λ (b : Bool). T (not (b && true))) (sym (ne_eqb (m * up e * down d) (n * up d * down e) c)) tt

-- ## Rounding

-- a plain f64's units of 2 ^ -1074
exponent : (m : ℕ) (e : ℤ) → down e ≤ 2 ^ 1074 → (j : ℕ) × (m * up e * 2 ^ 1074 ≡ m * 2 ^ j * down e)
exponent m (pos k) h = (k + 1074, mul_assoc m (2 ^ k) (2 ^ 1074) ∙ ap (λ (n : ℕ). m * n) (sym (pow-add 2 k 1074)) ∙ sym (mul-one (m * 2 ^ (k + 1074))))
exponent m (negsuc k) h = (
  1074 - suc k,
  ap (λ (n : ℕ). n * 2 ^ 1074) (mul-one m)
      ∙ ap (λ (n : ℕ). m * n) (ap (λ (n : ℕ). 2 ^ n) (sym (back 1074 (suc k) few)) ∙ pow-add 2 (1074 - suc k) (suc k))
      ∙ sym (mul_assoc m (2 ^ (1074 - suc k)) (2 ^ suc k)),
)
  where
    few : suc k ≤ 1074
    few = let z : suc k < 1075 = lt_of_not-le (λ (g : 1075 ≤ suc k). not-le_of_lt (pow-lt {i = 1074} {j = suc k} g) h) in omega arith

-- a plain f64 rounds to itself
pub round_own : {x : Float} → Plain x → round binary64 false (num x) (den x) ≡ x
round_own (plain {m} {e} h) =
    let a = held m e h in
    let j = exponent m e a.place in
    let top : m * up e * 2 ^ 1074 < 2 ^ 2098 * down e =
    lt_of_lt_of_le (mul-lt-mul_of_pos_right {m = m * up e} {n = 2 ^ 1024 * down e} {k = 2 ^ 1074} a.top (pow_pos 1074)) (le_of_eq (mul_right_comm (2 ^ 1024) (down e) (2 ^ 1074))) in
    let v : HasValue (round binary64 false (m * up e) (down e)) false (m * up e) (down e) =
    round_exact binary64 false (m * up e) (down e) m j.0 (down_pos e) a.digits
    (lt_of_mul-lt-mul_right (down e) {m = m * 2 ^ j.0} {n = 2 ^ 2098} (subst (λ (z : ℕ). z < 2 ^ 2098 * down e) j.1 top)) j.1 in
    same_number (plain_of (round binary64 false (m * up e) (down e)) (m * up e) (down e) (round-fits binary64 false (m * up e) (down e)) v) (plain h)
    (value→cross (round binary64 false (m * up e) (down e)) (m * up e) (down e) v)

-- ## Order

-- what `lt` tests, as whole numbers
pub lt_is : {x y : Float} → Plain x → Plain y → lt x y ≡ ltb (num x * den y) (num y * den x)
unfolding lt
lt_is (plain h) (plain k) = refl

pub lt_true : {x y : Float} → Plain x → Plain y → lt x y ≡ true → num x * den y < num y * den x
lt_true {x} {y} p q e = ltb-true (num x * den y) (num y * den x) (sym (lt_is p q) ∙ e)

pub lt_false : {x y : Float} → Plain x → Plain y → lt x y ≡ false → num y * den x ≤ num x * den y
lt_false {x} {y} p q e = ltb-false (num x * den y) (num y * den x) (sym (lt_is p q) ∙ e)

pub true_lt : {x y : Float} → Plain x → Plain y → num x * den y < num y * den x → lt x y ≡ true
true_lt {x} {y} p q h = lt_is p q ∙ lt-ltb (num x * den y) (num y * den x) h

-- ## Bounds

-- plain, and at most C
pub record AtMost (C : ℕ) (x : Float) : Type 0 where
  pub number : Plain x
  pub bound : num x ≤ C * den x

-- a fraction rounds to a plain f64, or to an infinity
units_to : (q k : ℕ) → HasValue (units binary64 false q k) false (q * 2 ^ k) (2 ^ 1074) ⊎ (units binary64 false q k ≡ inf false)
unfolding units
units_to q k = go (ltb (q * 2 ^ k) (2 ^ 2098))
  where
    go : (b : Bool) → HasValue (cond b (odd 54 false q k 1074) (inf false)) false (q * 2 ^ k) (2 ^ 1074) ⊎ (cond b (odd 54 false q k 1074) (inf false) ≡ inf false)
    go true = inl (odd_sign 54 false q k 1074)
    go false = inr refl

rounds_to : (a b : ℕ) → Plain (round binary64 false a b) ⊎ (round binary64 false a b ≡ inf false)
rounds_to a b =
    let n = a * 2 ^ 1074 in
    let k = size (n / b) - 53 in
    let q = closest n (b * 2 ^ k) in
    let e : round binary64 false a b ≡ units binary64 false q k = round_is binary64 false a b in
    elim (units_to q k) [
      | inl v ↦ inl (plain_of (round binary64 false a b) (q * 2 ^ k) (2 ^ 1074) (round-fits binary64 false a b) (subst (λ (x : Float). HasValue x false (q * 2 ^ k) (2 ^ 1074)) (sym e) v))
      | inr i ↦ inr (e ∙ i)
    ]

no_infinity : {y : Float} → Plain y → T (le (inf false) y) → ⊥
unfolding le
no_infinity (plain h) t = t

pub le_plain : {x y : Float} → Plain x → Plain y → T (le x y) → num x * den y ≤ num y * den x
unfolding le
le_plain {x} {y} (plain {m} {e} h) (plain {m = n} {e = d} k) t = go (m * up e * down d) (n * up d * down e) t
  where
    go : (a b : ℕ) → T (ltb a b || (eqb a b && true)) → a ≤ b
    go a b t = elim (or_true (ltb a b) (eqb a b && true) (is_true (ltb a b || (eqb a b && true)) t)) [
      | inl l ↦ le_of_lt (ltb-true a b l)
      | inr l ↦ le_of_eq (eqb-true a b (and_true (eqb a b) true l).0)
    ]

pub round_at_most : (a b C : ℕ) → 0 < b → C ≤ 2 ^ 53 → a ≤ C * b → AtMost C (round binary64 false a b)
round_at_most a b C B few h =
    let x = round binary64 false a b in
    let y = round binary64 false C 1 in
    let v = round_whole binary64 false C few in
    let q = plain_of y C 1 (round-fits binary64 false C 1) v in
    let l : T (le x y) = round_mono binary64 a b C 1 B (lit< tt) (le_trans (le_of_eq (mul-one a)) h) in
    let p : Plain x = elim (rounds_to a b) [ inl p ↦ p | inr i ↦ absurd (no_infinity q (subst (λ (z : Float). T (le z y)) i l)) ] in
    let e : num y * 1 ≡ C * den y = value→cross y C 1 v in
    let f : num y * den x ≡ C * den x * den y = ap (λ (z : ℕ). z * den x) (sym (mul-one (num y)) ∙ e) ∙ mul_right_comm C (den y) (den x) in
    record { number = p; bound = le_of_mul-le-mul_right (le_trans (le_plain p q l) (le_of_eq f)) (den_pos y) }

pub float_at_most : (n C : ℕ) → C ≤ 2 ^ 53 → n ≤ C → AtMost C (float n)
unfolding of_int
float_at_most n C few h = round_at_most n 1 C (lit< tt) few (le_trans h (le_of_eq (sym (mul-one C))))

-- a sum of two plain f64s, before it is rounded
pub sum_is : {x y : Float} → Plain x → Plain y → add binary64 x y ≡ round binary64 false (num x * den y + num y * den x) (den x * den y)
unfolding add
sum_is (plain h) (plain k) = refl

pub sum_at_most : {x y : Float} (A C : ℕ) → A + C ≤ 2 ^ 53 → AtMost A x → AtMost C y → AtMost (A + C) (add binary64 x y)
sum_at_most {x} {y} A C few p q =
    let dx = den x in
    let dy = den y in
    let l : num x * dy ≤ A * (dx * dy) = le_trans (mul-le-mul_right dy p.bound) (le_of_eq (mul_assoc A dx dy)) in
    let r : num y * dx ≤ C * (dx * dy) = le_trans (mul-le-mul_right dx q.bound) (le_of_eq (mul_right_comm C dy dx ∙ mul_assoc C dx dy)) in
    let s : (A + C) * (dx * dy) ≡ A * (dx * dy) + C * (dx * dy) = add-mul A C (dx * dy) in
    subst (AtMost (A + C)) (sym (sum_is p.number q.number)) (round_at_most (num x * dy + num y * dx) (dx * dy) (A + C) (mul-pos (den_pos x) (den_pos y)) few (omega arith))

-- a quotient of two plain f64s, before it is rounded
pub quotient_is : {x y : Float} → Plain x → Plain y → 0 < num y → div binary64 x y ≡ round binary64 false (num x * den y) (num y * den x)
unfolding div
quotient_is (plain h) (plain {m = zero} {e = d} k) l = absurd (omega (arith, zero-mul (up d)))
quotient_is (plain h) (plain {m = suc n} k) l = rw eqb-suc-zero

-- a count as f64 is that count
pub float_is : (n : ℕ) → n ≤ 2 ^ 53 → num (float n) ≡ n * den (float n)
unfolding of_int
float_is n few = sym (mul-one (num (float n))) ∙ value→cross (float n) n 1 (round_whole binary64 false n few)

pub float_plain : (n : ℕ) → n ≤ 2 ^ 53 → Plain (float n)
unfolding of_int
float_plain n few = plain_of (float n) n 1 (round-fits binary64 false n 1) (round_whole binary64 false n few)

-- a quotient of counts is rounded once
pub ratio_is : (a b : ℕ) → 0 < b → a ≤ 2 ^ 53 → b ≤ 2 ^ 53 → div binary64 (float a) (float b) ≡ round binary64 false a b
ratio_is a b B few few' =
    let x = float a in
    let y = float b in
    let some : 0 < num y = subst (λ (n : ℕ). 0 < n) (sym (float_is b few')) (mul-pos B (den_pos y)) in
    let mix : a * den x * den y * b ≡ a * (b * den y * den x) = simp (mul_assoc, mul_comm, mul_left_comm) in
    quotient_is (float_plain a few) (float_plain b few') some
    ∙ round_same binary64 false (num x * den y) (num y * den x) a b (mul-pos some (den_pos x)) B
    (ap (λ (n : ℕ). n * den y * b) (float_is a few) ∙ mix ∙ ap (λ (n : ℕ). a * (n * den x)) (sym (float_is b few')))

pub ratio_at_most : (a b C : ℕ) → 0 < b → a ≤ 2 ^ 53 → b ≤ 2 ^ 53 → C ≤ 2 ^ 53 → a ≤ C * b → AtMost C (div binary64 (float a) (float b))
ratio_at_most a b C B few few' high h = subst (AtMost C) (sym (ratio_is a b B few few')) (round_at_most a b C B high h)
