-- What is answered where a rate is asked for: accepted counts have their rate, all others are refused with 0.0, and one question has one answer.
use Rattle.std.proofs.Common.{◌≡◌, ℕ, ◌<◌, ◌≤◌, Bool, true, false, ◌&&◌, leb, Result, Ok, Err, ◌⊎◌, sym, refl, ap, ◌∙◌, subst, ⊎_elim, arith, lit≤, le-leb, leb-true}
use lib.Ieee.{Float}
use borrow.Author.Tests.{lt-leb}
use Rattle.rules.specs.declared.Refusal.{Refusal}
use Rattle.rules.specs.Floats.{float, rate}
use Rattle.rules.specs.Roots.{Plain}
use Rattle.rules.specs.Answers.{RateAnswer, rate_asked}
use Rattle.rules.proofs.Tests.{by_test, and_true, true_and}
use Rattle.rules.proofs.Plain.{float_plain}
use Rattle.rules.proofs.Rates.{rate_is}
use Rattle.rules.proofs.Floats.{rate_plain}
use Rattle.rates.specs.Answered.{rate_answer, Answered}

-- by what the tests of the counts come to
asked : (max min : ℕ) {b : Bool} → (leb max 255 && leb min max) ≡ b
    → rate_asked max min ≡ (elim b as (λ _. RateAnswer) [ true ↦ record { number = 0; rate = rate max min } | false ↦ record { number = 19; rate = float 0 } ])
unfolding rate_asked
asked max min e = ap (λ (b : Bool). elim b as (λ _. RateAnswer) [ true ↦ record { number = 0; rate = rate max min } | false ↦ record { number = 19; rate = float 0 } ]) e

pub accepted : (max min : ℕ) {r : Float} → max ≤ 255 → min ≤ max → r ≡ rate max min → Answered max min 0 r
accepted max min few in_order e =
    let a = asked max min (true_and (le-leb max 255 few) (le-leb min max in_order)) in
    record { numbered = ap (λ (x : RateAnswer). x.number) (sym a); rated = e ∙ ap (λ (x : RateAnswer). x.rate) (sym a); meant = λ _. rw e (rate_is max min few in_order) }

and_false : (u : Bool) → (u && false) ≡ false
and_false true = refl
and_false false = refl

pub refused : (max min : ℕ) → (255 < max) ⊎ (max < min) → Answered max min 19 (float 0)
refused max min over =
    let failed : (leb max 255 && leb min max) ≡ false = ⊎_elim (λ (l : 255 < max). rw (lt-leb max 255 l)) (λ (l : max < min). rw (lt-leb min max l) (and_false (leb max 255))) over in
    let a = asked max min failed in
    record { numbered = ap (λ (x : RateAnswer). x.number) (sym a); rated = ap (λ (x : RateAnswer). x.rate) (sym a); meant = λ n. absurd (omega arith) }

-- a rate that is answered is finite and not negative, 0.0 too
pub answered_plain : {max min n : ℕ} {r : Float} → Answered max min n r → Plain r
answered_plain {max} {min} a =
    by_test (leb max 255 && leb min max)
    (λ e.
    let legal = and_true (leb max 255) (leb min max) e in
    subst Plain (sym (a.rated ∙ ap (λ (x : RateAnswer). x.rate) (asked max min e))) (rate_plain max min (leb-true max 255 legal.0) (leb-true min max legal.1)))
    (λ e. subst Plain (sym (a.rated ∙ ap (λ (x : RateAnswer). x.rate) (asked max min e))) (float_plain 0 (lit≤ tt)))

-- two answers to one question are equal
pub one_answer : {max min n m : ℕ} {r s : Float} → Answered max min n r → Answered max min m s → (n ≡ m) × (r ≡ s)
one_answer f g = (f.numbered ∙ sym g.numbered, f.rated ∙ sym g.rated)

-- and so are two results that the contract of `rate` allows for one question: the rate, or why it is refused
pub one_result : {max min : ℕ} (a b : Result Float Refusal) → Answered max min (rate_answer a).number (rate_answer a).rate → Answered max min (rate_answer b).number (rate_answer b).rate → a ≡ b
one_result (Ok r) (Ok s) f g = ap Ok (one_answer f g).1
one_result (Ok r) (Err e) f g = let n = (one_answer f g).0 in grind arith
one_result (Err d) (Ok s) f g = let n = (one_answer f g).0 in grind arith
one_result (Err d) (Err e) f g = let n = (one_answer f g).0 in grind arith
