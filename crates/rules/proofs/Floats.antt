-- Rates and priorities are plain, which is to say finite and not negative, and `higher` is a strict total order of plain f64s: the queue and the guesses have one order.
use mathlib.Core.Path.{◌≡◌}
use mathlib.Core.Bool.{true, false}
use Prim.Native.Nat.{ℕ, ◌-◌, ◌≤◌, ◌<◌}
use native.Mathlib.Nat.{le_of_lt, lt_of_not-le, not-le_of_lt, le_antisymm}
use native.Mathlib.Omega.{arith}
use lib.Dec.{lit≤}
use lib.Ieee.{Float, binary64, div}
use lib.Ieee.Positive.{num, den, den_pos, through}
use Rattle.rules.specs.Floats.{float, higher, priority_of, rate}
use Rattle.rules.specs.Roots.{Plain}
use Rattle.rules.proofs.Plain.{same_number, lt_true, lt_false, true_lt, AtMost, float_plain, float_at_most, sum_at_most, ratio_at_most}
use Rattle.rules.proofs.Roots.{root_at_most}
use Rattle.rules.proofs.Rates.{quotient_at_most, quotient_units}

-- ## Order

pub higher_irreflexive : {x : Float} → Plain x → higher x x ≡ true → ⊥
higher_irreflexive {x} p e = omega (arith, lt_true p p e)

pub higher_transitive : {x y z : Float} → Plain x → Plain y → Plain z → higher x y ≡ true → higher y z ≡ true → higher x z ≡ true
higher_transitive {x} {y} {z} p q r h k =
    true_lt r p (lt_of_not-le (λ g. not-le_of_lt (lt_true q p h) (through (num x) (num z) (num y) (den x) (den z) (den y) (den_pos z) g (le_of_lt (lt_true r q k)))))

-- where neither is higher, the two are the same f64
pub higher_total : {x y : Float} → Plain x → Plain y → higher x y ≡ false → higher y x ≡ false → x ≡ y
higher_total p q h k = same_number p q (le_antisymm (lt_false q p h) (lt_false p q k))

-- ## Rates and priorities

pub rate_at_most : (max min : ℕ) → max ≤ 255 → min ≤ max → AtMost 287 (rate max min)
unfolding rate
rate_at_most max min few in_order =
    sum_at_most 32 255 (lit≤ tt)
    (root_at_most (quotient_at_most max min few in_order).number (quotient_units max min few in_order))
    (float_at_most min 255 (lit≤ tt) (omega arith))

pub rate_plain : (max min : ℕ) → max ≤ 255 → min ≤ max → Plain (rate max min)
rate_plain max min few in_order = (rate_at_most max min few in_order).number

-- a rate of solved cells is at most 1
solved_at_most : (solved cells : ℕ) → solved ≤ cells → 0 < cells → cells ≤ 16 → AtMost 1 (div binary64 (float solved) (float cells))
solved_at_most solved cells h some few = ratio_at_most solved cells 1 some (omega arith) (omega arith) (lit≤ tt) (omega arith)

pub priority_at_most : (unsolved row_solved row_length column_solved column_length : ℕ) → row_solved ≤ row_length → 0 < row_length → row_length ≤ 16 →
    column_solved ≤ column_length → 0 < column_length → column_length ≤ 16 → AtMost 6 (priority_of unsolved row_solved row_length column_solved column_length)
unfolding priority_of
priority_at_most unsolved row_solved row_length column_solved column_length h₁ h₂ h₃ h₄ h₅ h₆ =
    sum_at_most 5 1 (lit≤ tt)
    (sum_at_most 4 1 (lit≤ tt) (float_at_most (4 - unsolved) 4 (lit≤ tt) (omega arith)) (solved_at_most row_solved row_length h₁ h₂ h₃))
    (solved_at_most column_solved column_length h₄ h₅ h₆)

pub priority_plain : (unsolved row_solved row_length column_solved column_length : ℕ) → row_solved ≤ row_length → 0 < row_length → row_length ≤ 16 →
    column_solved ≤ column_length → 0 < column_length → column_length ≤ 16 → Plain (priority_of unsolved row_solved row_length column_solved column_length)
priority_plain u r w c h h₁ h₂ h₃ h₄ h₅ h₆ = (priority_at_most u r w c h h₁ h₂ h₃ h₄ h₅ h₆).number

-- the two priorities of neighbours
pub neighbours_plain : Plain (float 10) × Plain (float 20)
neighbours_plain = (float_plain 10 (lit≤ tt), float_plain 20 (lit≤ tt))
