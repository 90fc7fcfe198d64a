-- The bits of the cells whose sets differ, one cell after the other.
use mathlib.Core.Path.{◌≡◌, refl, sym, ap, ◌∙◌}
use mathlib.Core.Bool.{Bool, true, false, not, ◌&&◌, ◌||◌}
use mathlib.Core.List.{List}
use Prim.Native.Nat.{ℕ, ◌+◌, ◌*◌, ◌%◌, ◌^◌, ◌≤◌, ◌<◌}
use native.Mathlib.Omega.{arith}
use lib.Bits.{bit_or, or_lt}
use lib.Dec.{eqb}
use lib.ListN.{get_or}
use lib.Pow.{pow-lt, pow_mono, pow_pos}
use borrow.Author.Tests.{eq-eqb, ne_eqb}
use mir.Val.{bool_byte}
use Rattle.std.proofs.Math.Bool.{and-true, and-false, or-false}
use Rattle.rules.specs.Sets.{has, set_of}
use Rattle.rules.proofs.Tests.{by_test, by_equal}
use Rattle.rules.proofs.Sets.{has_none, has_only, has-set_of, set_of-has, set_of-low, same_set}
use Rattle.boards.specs.Line.{differ_bits}
use Rattle.boards.proofs.Pending.{has_or, shifted_one}

-- the set of i alone, where a test passes
abbrev pub one_if : Bool → ℕ → ℕ
one_if v i = bool_byte v * 2 ^ i % 4294967296

one_if_low : (v : Bool) (i : ℕ) → i < 32 → one_if v i < 2 ^ (i + 1)
one_if_low true i h = let p : 2 ^ i < 2 ^ (i + 1) = (let k : i < i + 1 = omega arith in pow-lt k) in rw (shifted_one i h) p
one_if_low false i h = let p = pow_pos (i + 1) in omega arith

has_one_if : (v : Bool) (i j : ℕ) → i < 32 → has (one_if v i) j ≡ (v && eqb j i)
has_one_if true i j h = ap (λ s. has s j) (shifted_one i h) ∙ has_only i j
has_one_if false i j h = let z : 0 * 2 ^ i % 4294967296 ≡ 0 = omega arith in ap (λ s. has s j) z ∙ has_none j

-- the set of one number more
module _ (p : ℕ → Bool) (n : ℕ) (h : n < 32) where
  few : has (set_of n p) n ≡ false
  few = by_test (has (set_of n p) n) (λ e. let l = (set_of-has n p n e).0 in absurd (omega arith)) (λ e. e)

  set_more : bit_or (set_of n p) (one_if (p n) n) ≡ set_of (n + 1) p
  set_more = same_set (n + 1) (bit_or (set_of n p) (one_if (p n) n)) (set_of (n + 1) p)
      (or_lt (n + 1) (set_of n p) (one_if (p n) n) (let l = set_of-low n p in let k : n ≤ n + 1 = omega arith in omega (arith, pow_mono k)) (one_if_low (p n) n h)) (set_of-low (n + 1) p)
      (λ j l. has_or (set_of n p) (one_if (p n) n) j ∙ ap (λ v. has (set_of n p) j || v) (has_one_if (p n) n j h) ∙ by_equal j n
      (λ e. rw (e, few, eq-eqb n n refl) (and-true (p n)))
      (λ e. rw (ne_eqb j n e, has-set_of n p j (omega arith)) (ap (λ v. p j || v) (and-false (p n)) ∙ or-false (p j)))
      ∙ sym (has-set_of (n + 1) p j l))

pub differ_none : (old new : List ℕ) → 0 ≡ differ_bits old new 0
unfolding differ_bits set_of
differ_none old new = refl

pub differ_more : (old new : List ℕ) (j : ℕ) → j < 32 → bit_or (differ_bits old new j) (bool_byte (not (eqb (get_or old j 0) (get_or new j 0))) * 2 ^ j % 4294967296) ≡ differ_bits old new (j + 1)
unfolding differ_bits
differ_more old new j h = set_more (λ j. not (eqb (get_or old j 0) (get_or new j 0))) j h
