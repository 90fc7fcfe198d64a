-- The turns of the root worked out digit by digit: what is left of the number, the root and the rest make up the number so far.
use Rattle.std.proofs.Common.{◌≡◌, ℕ, ◌+◌, ◌-◌, ◌*◌, ◌/◌, ◌%◌, ◌^◌, ◌<◌, ◌≤◌, ap, ◌∙◌, subst, mul_comm, pow-suc, mul_left_comm, add-one, arith, pow_mono}
use Rattle.rules.specs.Floats.{whole_root}
use Rattle.rules.proofs.Squares.{square_next, square_twice, square_odd, IsRoot, whole_root_lem, root_one}
use Rattle.rates.specs.Digits.{Digits}

-- after i turns root is the whole root of the top 2·i digits of 116, rest is what its square leaves of them, and left has the digits below
pub record Turned (units left root rest i : ℕ) : Type 0 where
  pub count : i ≤ 58
  pub below : left < 2 ^ 62
  pub least : rest ≤ 2 * root
  pub few : root < 2 ^ i
  pub small : root < 2 ^ 58
  pub whole : (root * root + rest) * 2 ^ 62 + left ≡ units * 4 ^ i

pub turned_none : (units : ℕ) → units < 2 ^ 62 → Turned units units 0 0 0
turned_none units h = record { count = omega arith; below = h; least = omega arith; few = omega arith; small = omega arith; whole = omega arith }

small_of : (root i : ℕ) → i ≤ 58 → root < 2 ^ i → root < 2 ^ 58
small_of root i l f = omega (arith, pow_mono l)

four_more : (units i : ℕ) → units * 4 ^ (i + 1) ≡ 4 * (units * 4 ^ i)
four_more units i = ap (λ (n : ℕ). units * 4 ^ n) (add-one i) ∙ ap (λ (n : ℕ). units * n) (pow-suc 4 i ∙ mul_comm (4 ^ i) 4) ∙ mul_left_comm units 4 (4 ^ i)

two_more : (i : ℕ) → 2 ^ (i + 1) ≡ 2 * 2 ^ i
two_more i = ap (λ (n : ℕ). 2 ^ n) (add-one i) ∙ pow-suc 2 i ∙ mul_comm (2 ^ i) 2

module _ (units left root rest i : ℕ) (t : Turned units left root rest i) (l : i < 58) where
  -- the next digit is 1
  pub turned_one : root * 4 + 1 ≤ rest * 4 + left / 2 ^ 60 → Turned units (left % 2 ^ 60 * 4) (root * 2 + 1) (rest * 4 + left / 2 ^ 60 - (root * 4 + 1)) (i + 1)
  turned_one h =
      let b = t.below in
      let m = t.least in
      let f = t.few in
      let w = t.whole in
      let s = square_odd root in
      let p = four_more units i in
      let q = two_more i in
      let few : root * 2 + 1 < 2 ^ (i + 1) = omega arith in
      record { count = omega arith; below = omega arith; least = omega arith; few = few; small = small_of (root * 2 + 1) (i + 1) (omega arith) few; whole = omega arith }

  -- or 0
  pub turned_zero : rest * 4 + left / 2 ^ 60 < root * 4 + 1 → Turned units (left % 2 ^ 60 * 4) (root * 2) (rest * 4 + left / 2 ^ 60) (i + 1)
  turned_zero h =
      let b = t.below in
      let m = t.least in
      let f = t.few in
      let w = t.whole in
      let s = square_twice root in
      let p = four_more units i in
      let q = two_more i in
      let few : root * 2 < 2 ^ (i + 1) = omega arith in
      record { count = omega arith; below = omega arith; least = omega arith; few = few; small = small_of (root * 2) (i + 1) (omega arith) few; whole = omega arith }

below_top : (units : ℕ) → units < 2 ^ 62 → units * 2 ^ 54 < 4 ^ 58
below_top units h = omega arith

is_root : (n root rest : ℕ) → root * root + rest ≡ n → rest ≤ 2 * root → IsRoot n root
is_root n root rest e l = let s = square_next root in record { low = omega arith; high = omega arith }

-- after 58 turns nothing is left below
pub turned_all : (units left root rest i : ℕ) → units < 2 ^ 62 → Turned units left root rest i → 58 ≤ i → Digits units root rest
turned_all units left root rest i h t l =
    let b = t.below in
    let all : i ≡ 58 = omega (arith, t.count) in
    let w : (root * root + rest) * 2 ^ 62 + left ≡ units * 4 ^ 58 = subst (λ (n : ℕ). (root * root + rest) * 2 ^ 62 + left ≡ units * 4 ^ n) all t.whole in
    let n = units * 2 ^ 54 in
    let e : root * root + rest ≡ n = omega arith in
    record { is_root = root_one n root (whole_root 58 n) (is_root n root rest e t.least) (whole_root_lem 58 n (below_top units h)); is_rest = omega arith; few = t.small }
