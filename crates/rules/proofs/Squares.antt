-- Squares of whole numbers, and that `whole_root` is the whole root.
use mathlib.Core.Path.{◌≡◌}
use mathlib.Core.Bool.{Bool, true, false, not, cond}
use Prim.Native.Nat.{ℕ, zero, suc, ◌+◌, ◌*◌, ◌/◌, ◌^◌, ◌≤◌, ◌<◌}
use native.Mathlib.Nat.{pow-suc, mul_assoc, mul_comm, mul_left_comm, add-mul, mul-add, mul-le-mul, mul-le-mul_left, mul-lt-mul_of_pos_right, le_of_lt, lt_of_le_of_lt, lt_of_not-le, not-le_of_lt, le_antisymm}
use native.Mathlib.Omega.{arith}
use lib.Dec.{T, leb, leb→le, nleb→lt}
use Rattle.rules.specs.Floats.{whole_root}

pub square_next : (r : ℕ) → (r + 1) * (r + 1) ≡ r * r + 2 * r + 1
square_next r =
    let a : (r + 1) * (r + 1) ≡ r * (r + 1) + 1 * (r + 1) = add-mul r 1 (r + 1) in
    let b : r * (r + 1) ≡ r * r + r * 1 = mul-add r r 1 in
    omega arith

pub square_twice : (r : ℕ) → (r * 2) * (r * 2) ≡ 4 * (r * r)
square_twice r = simp (mul_assoc, mul_comm, mul_left_comm) (omega arith)

pub square_odd : (r : ℕ) → (r * 2 + 1) * (r * 2 + 1) ≡ 4 * (r * r) + 4 * r + 1
square_odd r = omega (arith, square_next (r * 2), square_twice r)

pub square_lt : (a b : ℕ) → a * a < b * b → a < b
square_lt a b h = lt_of_not-le (λ (g : b ≤ a). not-le_of_lt h (mul-le-mul g g))

pub square_mono : {a b : ℕ} → a < b → a * a < b * b
square_mono {a} {b} h = lt_of_le_of_lt (mul-le-mul_left a (le_of_lt h)) (mul-lt-mul_of_pos_right h (omega arith))

-- ## The whole root

-- r is the largest number whose square is at most n
pub record IsRoot (n r : ℕ) : Type 0 where
  pub low : r * r ≤ n
  pub high : n < (r + 1) * (r + 1)

digit_more : (n r : ℕ) (b : Bool) → IsRoot (n / 4) r → (T b → (r * 2 + 1) * (r * 2 + 1) ≤ n) → (T (not b) → n < (r * 2 + 1) * (r * 2 + 1)) → IsRoot n (cond b (r * 2 + 1) (r * 2))
digit_more n r true i y z =
    let p = square_next r in
    let q = square_next (r * 2 + 1) in
    let s = square_odd r in
    let h = i.high in
    record { low = y tt; high = omega arith }
digit_more n r false i y z =
    let s = square_twice r in
    let l = i.low in
    record { low = omega arith; high = z tt }

pub whole_root_lem : (k n : ℕ) → n < 4 ^ k → IsRoot n (whole_root k n)
unfolding whole_root
whole_root_lem zero n h = record { low = omega arith; high = omega arith }
whole_root_lem (suc k) n h =
    let p : 4 ^ suc k ≡ 4 ^ k * 4 = pow-suc 4 k in
    let r = whole_root k (n / 4) in
    let t = (r * 2 + 1) * (r * 2 + 1) in
    digit_more n r (leb t n) (whole_root_lem k (n / 4) (omega arith)) (leb→le t n) (nleb→lt t n)

root_below : (n r s : ℕ) → IsRoot n r → IsRoot n s → r ≤ s
root_below n r s i j = let p = square_lt r (s + 1) (omega (arith, i.low, j.high)) in omega arith

pub root_one : (n r s : ℕ) → IsRoot n r → IsRoot n s → r ≡ s
root_one n r s i j = le_antisymm (root_below n r s i j) (root_below n s r j i)
