-- Sets of pending lines as numbers: the lowest line, a set without a line, two sets together, and a set moved up.
use mathlib.Core.Path.{◌≡◌, refl, sym, ap, ap₂, ◌∙◌}
use mathlib.Core.Logic.{inl, inr}
use mathlib.Core.Bool.{true, false, not, ◌&&◌, ◌||◌}
use mathlib.Core.Option.{some}
use Prim.Native.Nat.{ℕ, zero, suc, ◌+◌, ◌-◌, ◌*◌, ◌/◌, ◌%◌, ◌^◌, ◌≤◌, ◌<◌}
use native.Mathlib.Nat.{add-zero, pow-suc}
use native.Mathlib.Omega.{arith}
use lib.Bits.{bit_and, bit_or, or_lt}
use lib.Count.{under, count_trailing_zeros}
use lib.Dec.{eqb}
use lib.Pow.{pow-lt, pow_mono, shr-shr, shl-shr}
use mir.Syntax.{w32}
use borrow.Author.Tests.{eq-eqb, ne_eqb}
use Rattle.std.proofs.Math.Bool.{and-false, and-true}
use Rattle.std.proofs.lemmas.Nat.Bits.{bit_at-zero, bit_at_clear_same, bit_at_clear_other, bit_at_cat_low}
use Rattle.rules.specs.Lists.{first, from}
use Rattle.rules.specs.Sets.{bit, has, set_of, only}
use Rattle.rules.proofs.Tests.{by_equal, or_true, true_or, same_test}
use Rattle.rules.proofs.Lists.{first_least}
use Rattle.rules.proofs.Sets.{bit_zero, has_in, in_has, has_suc, has_only, has-set_of, set_of-low, same_set, member_low}
use Rattle.lines.proofs.Masks.{or_left, or_right, or_of}

-- a number is in a set, or is not, by its bit
by_bit : (s j : ℕ) → bit s j ≡ 1 → has s j ≡ true
unfolding has
by_bit s j e = eq-eqb (bit s j) 1 e

by_no_bit : (s j : ℕ) → bit s j ≡ 0 → has s j ≡ false
unfolding has
by_no_bit s j e = ne_eqb (bit s j) 1 (λ q. omega arith)

pub has_or : (a b j : ℕ) → has (bit_or a b) j ≡ (has a j || has b j)
has_or a b j = same_test (has (bit_or a b) j) (has a j || has b j)
    (λ e. true_or (has a j) (has b j) (elim (or_of a b j (in_has (bit_or a b) j e)) [ inl p ↦ inl (has_in a j p) | inr p ↦ inr (has_in b j p) ]))
    (λ e. has_in (bit_or a b) j (elim (or_true (has a j) (has b j) e) [ inl p ↦ or_left a b j (in_has a j p) | inr p ↦ or_right a b j (in_has b j p) ]))

-- a set without a number
pub has_except : (s i j : ℕ) → i < 32 → j < 32 → has (bit_and s (4294967295 - 1 * 2 ^ i % 4294967296)) j ≡ (has s j && not (eqb j i))
unfolding has bit
has_except s i j h k = by_equal j i
    (λ e. by_no_bit others j (ap (bit others) e ∙ bit_at_clear_same w32 s i h) ∙ sym (rw (eq-eqb j i e) (and-false (has s j))))
    (λ e. ap (λ d. eqb d 1) (bit_at_clear_other w32 s i h j k e) ∙ sym (rw (ne_eqb j i e) (and-true (has s j))))
  where
    others : ℕ
    others = bit_and s (4294967295 - 1 * 2 ^ i % 4294967296)

-- one bit shifted by less than 32 places
pub shifted_one : (i : ℕ) → i < 32 → 1 * 2 ^ i % 4294967296 ≡ only i
shifted_one i h = omega (arith, pow-lt h)

-- the set of two numbers
pub pair_is : (n a b : ℕ) → a < n → b < n → bit_or (only a) (only b) ≡ set_of n (λ j. eqb j a || eqb j b)
pair_is n a b h k = same_set n (bit_or (only a) (only b)) (set_of n (λ j. eqb j a || eqb j b)) (or_lt n (only a) (only b) (pow-lt h) (pow-lt k)) (set_of-low n (λ j. eqb j a || eqb j b))
    (λ j l. has_or (only a) (only b) j ∙ ap₂ ◌||◌ (has_only a j) (has_only b j) ∙ sym (has-set_of n (λ j. eqb j a || eqb j b) j l))

-- a set moved up by n
pub has_up : (s n j : ℕ) → has (s * 2 ^ n) (n + j) ≡ has s j
unfolding has bit
has_up s n j = ap (λ x. eqb (x % 2) 1) (sym (shr-shr (s * 2 ^ n) n j) ∙ ap (λ x. x / 2 ^ j) (shl-shr s n))

pub has_up_low : (s n j : ℕ) → j < n → has (s * 2 ^ n) j ≡ false
unfolding bit
has_up_low s n j h = by_no_bit (s * 2 ^ n) j (rw add-zero at (bit_at_cat_low s n 0 j h ∙ bit_at-zero j))

-- ## The lowest number

odd_has : (s : ℕ) → s % 2 ≡ 1 → has s 0 ≡ true
odd_has s e = by_bit s 0 (bit_zero s ∙ e)

even_has : (s : ℕ) → s % 2 ≡ 0 → has s 0 ≡ false
even_has s e = by_no_bit s 0 (bit_zero s ∙ e)

lowest_in : (k s : ℕ) → 0 < s → s < 2 ^ k → has s (count_trailing_zeros k s) ≡ true
unfolding count_trailing_zeros
lowest_in zero s h l = absurd (omega arith)
lowest_in (suc k) s h l = go (s % 2) refl (λ p. lowest_in k (s / 2) p (let q = pow-suc 2 k in omega arith))
  where
    go : (d : ℕ) → s % 2 ≡ d → (0 < s / 2 → has (s / 2) (count_trailing_zeros k (s / 2)) ≡ true) → has s (under d (count_trailing_zeros k (s / 2))) ≡ true
    go zero e ih = has_suc s (count_trailing_zeros k (s / 2)) ∙ ih (omega arith)
    go (suc d) e ih = odd_has s (omega arith)

lowest_least : (k s j : ℕ) → j < count_trailing_zeros k s → has s j ≡ false
unfolding count_trailing_zeros
lowest_least zero s j h = absurd (omega arith)
lowest_least (suc k) s j h = go (s % 2) j refl h (λ i l. lowest_least k (s / 2) i l)
  where
    go : (d j : ℕ) → s % 2 ≡ d → j < under d (count_trailing_zeros k (s / 2)) → ((i : ℕ) → i < count_trailing_zeros k (s / 2) → has (s / 2) i ≡ false) → has s j ≡ false
    go zero zero e l ih = even_has s e
    go zero (suc j) e l ih = has_suc s j ∙ ih j (omega arith)
    go (suc d) j e l ih = absurd (omega arith)

pub lowest_low : (k n s : ℕ) → 0 < s → s < 2 ^ n → n ≤ k → count_trailing_zeros k s < n
lowest_low k n s h l m = member_low n s (count_trailing_zeros k s) l (lowest_in k s h (let z = pow_mono m in omega arith))

pub lowest_first : (k n s : ℕ) → 0 < s → s < 2 ^ n → n ≤ k → first (has s) (from 0 n) ≡ some (count_trailing_zeros k s)
lowest_first k n s h l m = first_least (has s) 0 n (count_trailing_zeros k s) (omega arith) (let z = lowest_low k n s h l m in omega arith)
    (lowest_in k s h (let z = pow_mono m in omega arith)) (λ j g r. lowest_least k s j r)
