-- Counting the numbers below n that pass a test, one after the other.
use mathlib.Core.Path.{◌≡◌, sym, ap, ◌∙◌}
use mathlib.Core.Bool.{Bool}
use Prim.Native.Nat.{ℕ, ◌+◌, ◌-◌, ◌≤◌, ◌<◌}
use native.Mathlib.Nat.{zero-add, add-zero}
use native.Mathlib.Omega.{arith}
use lib.ListN.{length}
use Rattle.rules.specs.Lists.{keep, from, digit}
use Rattle.rules.proofs.Lists.{from_start, from_end, keep_turn}
use Rattle.rules.proofs.Sets.{digit_low}

-- what is counted of the numbers before i, and what is still to be counted, is all
pub record Counted (p : ℕ → Bool) (n count i : ℕ) : Type 0 where
  pub all : count + length (keep p (from i (n - i))) ≡ length (keep p (from 0 n))
  pub upto : i ≤ n
  pub few : count ≤ i

module _ (p : ℕ → Bool) (n : ℕ) where
  pub counted_start : Counted p n 0 0
  counted_start =
      record { all = zero-add (length (keep p (from 0 (n - 0)))) ∙ ap (λ l. length (keep p l)) (from_start n); upto = omega arith; few = omega arith }

  module _ (count i : ℕ) (c : Counted p n count i) where
    pub counted_turn : (d : ℕ) → i < n → d ≡ digit (p i) → Counted p n (count + d) (i + 1)
    counted_turn d h e =
        let k = keep_turn p i n h in let l = digit_low (p i) in
        record { all = omega (arith, c.all); upto = omega arith; few = omega (arith, c.few) }

    pub counted_end : n ≤ i → count ≡ length (keep p (from 0 n))
    counted_end h = sym (add-zero count) ∙ rw (from_end i n h) at c.all
