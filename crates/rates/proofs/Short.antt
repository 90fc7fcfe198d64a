-- The quotients whose root is not worked out, 0 and 1: each is its own root, and which counts give them.
use Rattle.std.proofs.Common.{◌≡◌, ℕ, suc, ◌+◌, ◌*◌, ◌^◌, ◌<◌, ◌≤◌, true, false, T, eqb, ◌⊎◌, sym, refl, ◌∙◌, subst, ⊎_elim, lt_of_not-le, mul-one, add-one, arith, lit<, lit≤, eq-eqb, eqb-true}
use lib.Ieee.{Float, binary64, up, down, round, of_int, div, le, eq}
use lib.Ieee.Order.{round_mono}
use lib.Ieee.Scale.{round_same}
use lib.Ieee.Positive.{num, den}
use Rattle.rules.specs.Floats.{float, quotient, root, whole_root}
use Rattle.rules.specs.Roots.{Plain, plain}
use Rattle.rules.proofs.Tests.{and_true, same_test}
use Rattle.rules.proofs.Plain.{same_number, float_plain, ratio_is}
use Rattle.rules.proofs.Roots.{nought_root}
use Rattle.rules.proofs.Rates.{quotient_at_most}

-- ## Their roots

-- plain f64s pass the test for being equal exactly if they are one
equal_one : {x y : Float} → Plain x → Plain y → eq x y ≡ true → x ≡ y
unfolding eq
equal_one {x} {y} (plain h) (plain k) e =
    let a = num x * den y in
    let b = num y * den x in
    same_number (plain h) (plain k) (eqb-true a b (and_true (eqb a b) true e).0)

one_equal : {x : Float} → Plain x → eq x x ≡ true
unfolding eq
one_equal (plain {m} {e} h) = let a = m * up e * down e in rw (eq-eqb a a refl)

zero_root : float 0 ≡ root (float 0)
unfolding of_int round
zero_root = sym nought_root

one_root : float 1 ≡ root (float 1)
unfolding of_int root whole_root round
one_root = refl

own_root : {q : Float} (n : ℕ) → n ≤ 2 ^ 53 → float n ≡ root (float n) → Plain q → eq q (float n) ≡ true → q ≡ root q
own_root n l e p t = subst (λ (x : Float). x ≡ root x) (sym (equal_one p (float_plain n l) t)) e

-- ## Their counts

-- no other quotient comes nearer than 1/256
above_zero : T (le (round binary64 false 1 256) (float 0)) → ⊥
unfolding le round of_int
above_zero t = t

below_one : T (le (float 1) (round binary64 false 255 256)) → ⊥
unfolding le round of_int
below_one t = t

above_one : T (le (round binary64 false 257 256) (float 1)) → ⊥
unfolding le round of_int
above_one t = t

module _ (max min : ℕ) (few : max ≤ 255) (in_order : min ≤ max) where
  number : Plain (quotient max min)
  number = (quotient_at_most max min few in_order).number

  -- the root of a quotient that is tested to be 0 or 1
  pub short_root : let q = div binary64 (float max) (float (min + 1)) in (eq q (float 0) ≡ true) ⊎ (eq q (float 1) ≡ true) → q ≡ root (quotient max min)
  short_root = rw add-one (⊎_elim (own_root 0 (lit≤ tt) zero_root number) (own_root 1 (lit≤ tt) one_root number))

  rounded : round binary64 false max (suc min) ≡ quotient max min
  rounded = sym (ratio_is max (suc min) (omega arith) (omega arith) (omega arith))

  at_least : (n : ℕ) {y : Float} → quotient max min ≡ y → n * suc min ≤ max * 256 → T (le (round binary64 false n 256) y)
  at_least n e l = subst (λ (x : Float). T (le (round binary64 false n 256) x)) (rounded ∙ e) (round_mono binary64 n 256 max (suc min) (lit< tt) (omega arith) l)

  at_most : (n : ℕ) {y : Float} → quotient max min ≡ y → max * 256 ≤ n * suc min → T (le y (round binary64 false n 256))
  at_most n e l = subst (λ (x : Float). T (le x (round binary64 false n 256))) (rounded ∙ e) (round_mono binary64 max (suc min) n 256 (omega arith) (lit< tt) l)

  of_zero : quotient max min ≡ float 0 → max ≡ 0
  of_zero e = let no_more : max < 1 = lt_of_not-le (λ (l : 1 ≤ max). above_zero (at_least 1 e (omega arith))) in omega arith

  of_one : quotient max min ≡ float 1 → max ≡ min + 1
  of_one e =
      let no_less : min < max = lt_of_not-le (λ (l : max ≤ min). below_one (at_most 255 e (omega arith))) in
      let no_more : max < min + 2 = lt_of_not-le (λ (l : min + 2 ≤ max). above_one (at_least 257 e (omega arith))) in
      omega arith

  whole : (n : ℕ) → max ≡ n * suc min → quotient max min ≡ float n
  unfolding of_int
  whole n e = sym rounded ∙ round_same binary64 false max (suc min) n 1 (omega arith) (lit< tt) (mul-one max ∙ e)

  tested : (n m : ℕ) → n ≤ 2 ^ 53 → (quotient max min ≡ float n → max ≡ m) → (max ≡ m → max ≡ n * suc min) → eq (quotient max min) (float n) ≡ eqb max m
  tested n m l to from =
      let p = float_plain n l in
      same_test (eq (quotient max min) (float n)) (eqb max m)
      (λ t. eq-eqb max m (to (equal_one number p t)))
      (λ t. subst (λ (x : Float). eq x (float n) ≡ true) (sym (whole n (from (eqb-true max m t)))) (one_equal p))

  -- THE SHORT WAY: the quotient is 0 exactly where max is 0
  pub quotient_zero : eq (quotient max min) (float 0) ≡ eqb max 0
  quotient_zero = tested 0 0 (lit≤ tt) of_zero (λ e. omega arith)

  -- and 1 exactly where max is min + 1
  pub quotient_one : eq (quotient max min) (float 1) ≡ eqb max (min + 1)
  quotient_one = tested 1 (min + 1) (lit≤ tt) of_one (λ e. omega arith)
