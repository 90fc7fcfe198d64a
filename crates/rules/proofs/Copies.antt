-- A copy: what stands in a list after the n elements from an index on were replaced by another list's first n.
use mathlib.Core.Path.{◌≡◌, sym, ap, ◌∙◌}
use mathlib.Core.List.{List}
use Prim.Native.Nat.{ℕ, zero, suc, ◌+◌, ◌≤◌, ◌<◌}
use native.Mathlib.Omega.{arith}
use lib.ListN.{length, get_or, set}
use lib.Seq.{paste, paste-zero, paste-suc, length-paste, get_or-set_same, get_or-set_other}
use Rattle.rules.proofs.Tests.{by_equal}

module _ {A : Type 0} (d : List A) (at : ℕ) (s : List A) (z : A) where
  -- one element more
  get_or-more : (n j : ℕ) → at + n < length d → n < length s → get_or (paste d at s (suc n)) j z ≡ get_or (set (paste d at s n) (at + n) (get_or s n z)) j z
  get_or-more n j h k = ap (λ l. get_or l j z) (sym (paste-suc d at s n z h k))

  pub get_or-copied : (n k : ℕ) → at + n ≤ length d → n ≤ length s → k < n → get_or (paste d at s n) (at + k) z ≡ get_or s k z
  get_or-copied zero k h l m = absurd (omega arith)
  get_or-copied (suc n) k h l m = get_or-more n (at + k) (omega arith) (omega arith) ∙ by_equal k n
      (λ e. ap (λ i. get_or (set (paste d at s n) (at + n) (get_or s n z)) (at + i) z) e
      ∙ get_or-set_same (paste d at s n) (at + n) (get_or s n z) z (let p = length-paste d at s n (omega arith) (omega arith) in omega arith) ∙ ap (λ i. get_or s i z) (sym e))
      (λ e. get_or-set_other (paste d at s n) (at + n) (at + k) (get_or s n z) z (λ q. e (omega arith)) ∙ get_or-copied n k (omega arith) (omega arith) (omega arith))

  pub get_or-not_copied : (n j : ℕ) → at + n ≤ length d → n ≤ length s → (at ≤ j → j < at + n → ⊥) → get_or (paste d at s n) j z ≡ get_or d j z
  get_or-not_copied zero j h l m = ap (λ i. get_or i j z) (sym (paste-zero d at s))
  get_or-not_copied (suc n) j h l m = get_or-more n j (omega arith) (omega arith)
      ∙ get_or-set_other (paste d at s n) (at + n) j (get_or s n z) z (λ q. m (omega arith) (omega arith))
      ∙ get_or-not_copied n j (omega arith) (omega arith) (λ p q. m p (omega arith))
