-- What a caller is promised who asks for a rate.
use Rattle.std.specs.Prelude.{◌≡◌, ℕ, Float, Result, Ok, Err}
use Rattle.rules.specs.declared.Refusal.{Refusal}
use Rattle.rules.specs.Floats.{float}
use Rattle.rules.specs.Refusals.{refusal_number}
use Rattle.rules.specs.Roots.{IsRate}
use Rattle.rules.specs.Answers.{RateAnswer, rate_asked}

-- the number and the rate that a result stands for: no refusal is number 0, and a refusal comes with 0.0
abbrev pub rate_answer : Result Float Refusal → RateAnswer
rate_answer (Ok r) = record { number = 0; rate = r }
rate_answer (Err e) = record { number = refusal_number e; rate = float 0 }

-- The number and the rate are the definition's, refusals too. Where nothing is refused, the rate is sqrt(max/(min+1)) + min with the f64 nearest the exact root.
pub record Answered (max min number : ℕ) (rate : Float) : Type 0 where
  pub numbered : number ≡ (rate_asked max min).number
  pub rated : rate ≡ (rate_asked max min).rate
  pub meant : number ≡ 0 → IsRate max min rate
