-- A loop of the rules is a step and a measure. A step goes on from a state or ends with a result; where each step makes the measure smaller, the loop ends by itself.
-- `run` gives it as many steps as its measure says, and one. That these never run out, so that nothing is cut short, is proved of each of the four loops: `propagate_falls`,
-- `probe_falls`, `pass_falls`, `spent_falls` in `proofs/`. Of each then holds the equation that a reader expects, `propagate_turn` and its like: the loop from s is the loop
-- from t where the step goes on from t, and the result where the step ends.
use Rattle.std.specs.Prelude.{ℕ, zero, suc, ◌<◌}

-- what a step comes to
pub data Turn (S R : Type 0) : Type 0 where
  more : S → Turn S R
  stop : R → Turn S R

-- a fact of the state that a step goes on from, or of its result
abbrev pub Holds : {S R : Type 0} (I : S → Type 0) (Q : R → Type 0) → Turn S R → Type 0
Holds I Q (more s) = I s
Holds I Q (stop r) = Q r

-- the result of a loop that ended; `unended` stands for one that did not
abbrev pub result : {S R : Type 0} → (S → R) → Turn S R → R
result unended (more s) = unended s
result unended (stop r) = r

module _ {S R : Type 0} (step : S → Turn S R) where
  -- at most n steps
  unfoldable pub turns : ℕ → S → Turn S R
  turns zero s = more s
  turns (suc n) s = elim (step s) [ more t ↦ turns n t | stop r ↦ stop r ]

  module _ (measure : S → ℕ) where
    -- each step makes the measure smaller
    abbrev pub Falls : Type 0
    Falls = (s : S) → Holds (λ t. measure t < measure s) (λ r. Unit {0}) (step s)

    -- the loop from a state on; where the measure falls it has ended, and `unended` is not used
    unfoldable pub run : (S → R) → S → R
    run unended s = result unended (turns (suc (measure s)) s)
