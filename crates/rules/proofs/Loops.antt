-- A loop whose measure falls: its steps never run out, the equation that determines it, one turn of it, the rule of invariants, and two such loops abreast.
use mathlib.Core.Path.{◌≡◌, refl, sym, ap, subst, ◌∙◌}
use mathlib.Core.Logic.{◌⊎◌, inl, inr}
use Prim.Native.Nat.{ℕ, zero, suc, ◌<◌}
use native.Mathlib.Omega.{arith}
use Rattle.rules.specs.Loops.{Turn, more, stop, Holds, result, turns, Falls, run}

module _ {S R : Type 0} (step : S → Turn S R) (measure : S → ℕ) (falls : Falls step measure) where
  -- any number of steps above the measure gives the same, whatever stands for a loop that did not end
  enough : (d e : S → R) (n m : ℕ) (s : S) → measure s < n → measure s < m → result d (turns step n s) ≡ result e (turns step m s)
  unfolding turns
  enough d e zero m s h k = absurd (omega arith)
  enough d e (suc n) zero s h k = absurd (omega arith)
  enough d e (suc n) (suc m) s h k = go (step s) (falls s) (λ t p q. enough d e n m t p q)
    where
      go : (o : Turn S R) → Holds (λ t. measure t < measure s) (λ r. Unit {0}) o → ((t : S) → measure t < n → measure t < m → result d (turns step n t) ≡ result e (turns step m t)) →
          result d (elim o [ more t ↦ turns step n t | stop r ↦ stop r ]) ≡ result e (elim o [ more t ↦ turns step m t | stop r ↦ stop r ])
      go (more t) l ih = ih t (omega arith) (omega arith)
      go (stop r) l ih = refl

  -- nothing is cut short: more steps, and anything in place of `unended`, give the same result
  pub run_any : (d e : S → R) (n : ℕ) (s : S) → measure s < n → run step measure d s ≡ result e (turns step n s)
  unfolding run
  run_any d e n s h = enough d e (suc (measure s)) n s (omega arith) h

  -- the equation that determines a loop
  pub run_is : (d : S → R) (s : S) → run step measure d s ≡ (elim (step s) as (λ _. R) [ more t ↦ run step measure d t | stop r ↦ r ])
  unfolding run turns
  run_is d s = go (step s) (falls s)
    where
      go : (o : Turn S R) → Holds (λ t. measure t < measure s) (λ r. Unit {0}) o →
          result d (elim o [ more t ↦ turns step (measure s) t | stop r ↦ stop r ]) ≡ (elim o as (λ _. R) [ more t ↦ result d (turns step (suc (measure t)) t) | stop r ↦ r ])
      go (more t) l = enough d d (measure s) (suc (measure t)) t l (omega arith)
      go (stop r) l = refl

  -- one turn, and the last
  pub run_more : (d : S → R) (s t : S) → step s ≡ more t → run step measure d s ≡ run step measure d t
  run_more d s t e = run_is d s ∙ ap (λ o. elim o as (λ _. R) [ more t ↦ run step measure d t | stop r ↦ r ]) e

  pub run_stop : (d : S → R) (s : S) (r : R) → step s ≡ stop r → run step measure d s ≡ r
  run_stop d s r e = run_is d s ∙ ap (λ o. elim o as (λ _. R) [ more t ↦ run step measure d t | stop r ↦ r ]) e

  -- what every step keeps holds at the end
  module _ (I : S → Type 0) (Q : R → Type 0) (keeps : (s : S) → I s → Holds I Q (step s)) where
    ends : (d : S → R) (n : ℕ) (s : S) → measure s < n → I s → Q (result d (turns step n s))
    unfolding turns
    ends d zero s l i = absurd (omega arith)
    ends d (suc n) s l i = go (step s) (falls s) (keeps s i) (λ t p h. ends d n t p h)
      where
        go : (o : Turn S R) → Holds (λ t. measure t < measure s) (λ r. Unit {0}) o → Holds I Q o → ((t : S) → measure t < n → I t → Q (result d (turns step n t))) →
            Q (result d (elim o [ more t ↦ turns step n t | stop r ↦ stop r ]))
        go (more t) f h ih = ih t (omega arith) h
        go (stop r) f h ih = h

    pub run_ends : (d : S → R) (s : S) → I s → Q (run step measure d s)
    unfolding run
    run_ends d s i = ends d (suc (measure s)) s (omega arith) i

-- ## Two loops abreast, with one measure

module _ {S R : Type 0} (measure : S → ℕ) (unended : S → R) where
  -- what comes of a step
  abbrev pub onward : (S → Turn S R) → Turn S R → R
  onward step o = elim o as (λ _. R) [ more t ↦ run step measure unended t | stop r ↦ r ]

  module _ (step other : S → Turn S R) (Q : R → R → Type 0) where
    -- two steps are one, or what comes of them is related
    abbrev pub Abreast : Turn S R → Turn S R → Type 0
    Abreast o p = (o ≡ p) ⊎ Q (onward step o) (onward other p)

    module _ (falls : Falls step measure) (falls' : Falls other measure) (same : (r : R) → Q r r) (abreast : (s : S) → Abreast (step s) (other s)) where
      step_by_step : (n : ℕ) (s : S) → measure s < n → Q (run step measure unended s) (run other measure unended s)
      step_by_step zero s h = absurd (omega arith)
      step_by_step (suc n) s h = subst (λ r. Q r (run other measure unended s)) (sym (run_is step measure falls unended s))
          (subst (λ r. Q (onward step (step s)) r) (sym (run_is other measure falls' unended s)) (now (abreast s) (λ t k. step_by_step n t k)))
        where
          both : (o : Turn S R) → Holds (λ t. measure t < measure s) (λ r. Unit {0}) o → ((t : S) → measure t < n → Q (run step measure unended t) (run other measure unended t)) → Q (onward step o) (onward other o)
          both (more t) k ih = ih t (omega arith)
          both (stop r) k ih = same r

          now : Abreast (step s) (other s) → ((t : S) → measure t < n → Q (run step measure unended t) (run other measure unended t)) → Q (onward step (step s)) (onward other (other s))
          now (inl e) ih = subst (λ o. Q (onward step (step s)) (onward other o)) e (both (step s) (falls s) ih)
          now (inr q) ih = q

      -- where each step of the one is the other's, or what comes of the two steps is related, so is what comes of the loops
      pub run_abreast : (s : S) → Q (run step measure unended s) (run other measure unended s)
      run_abreast s = step_by_step (suc (measure s)) s (omega arith)
