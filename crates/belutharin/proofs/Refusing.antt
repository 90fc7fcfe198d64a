-- The tests of an input, one after the other: the first that fails gives its number with all untouched, and an input that passes all is accepted.
use Rattle.std.proofs.Common.{◌≡◌, refl, sym, ap, subst, ◌∙◌, Bool, true, false, ◌&&◌, List, [], ◌∷◌, ◌++◌, replicate, get_or, length, ℕ, ◌+◌, ◌*◌, ◌≤◌, leb, Result, Ok, Err}
use Rattle.std.proofs.Math.Option as Math
use Rattle.std.specs.Prelude.{IsErrAnd}
use borrow.Author.Tests.{leb-true}
use Rattle.rules.specs.Clues.{Clue, clues_of}
use Rattle.rules.specs.Answers as Rules
use Rattle.rules.specs.Answers.{side, most_colours, colour_count, limits, board, Asked, untouched, test_clues, test_cells, searched, solve}
use Rattle.rules.specs.declared.Refusal.{Refusal}
use Rattle.rules.specs.declared.Refusal.TheVariants as Variants
use Rattle.rules.specs.declared.Refusal.TheVariants.{Sides, Colours, Limits, Clues, Cells, Rate, Grid}
use Rattle.rules.specs.Refusals.{refusal_number}
use Rattle.rules.specs.Promises.{Accepted, Promised}
use Rattle.rules.proofs.Tests.{passed, and_true}
use Rattle.rules.proofs.Accepting.{few_colours, accepted_searched}
use Rattle.rules.proofs.Promises.{solve_promised}
use Rattle.runs.specs.declared.limits.Stats.{Stats}
use Rattle.belutharin.specs.Refusals.{accept_numbers, accept_lent}
use Rattle.belutharin.specs.Answers.{outcome_number, answer}
use Rattle.belutharin.specs.declared.answers.Outcome.{Outcome}
use Rattle.belutharin.specs.declared.answers.Outcome.TheVariants.{Solved, Listed, DeadEnd}
use Rattle.belutharin.specs.declared.answers.Answer.{Answer}

-- what the rules answer keeps the promise
pub promised : (a : Asked) {r : Rules.Answer} → r ≡ solve a → (r ≡ solve a) × Promised a r
promised a e = (e, subst (λ r. Promised a r) (sym e) (solve_promised a))

-- a refusal that is passed on leaves all untouched
pub refused_with : (a : Asked) (r : Result Answer Refusal) (e : Refusal) → IsErrAnd r (λ f. f ≡ e) → untouched a (refusal_number e) ≡ solve a → answer r a.cells a.list ≡ solve a
refused_with a (Err f) e q h = ap (λ x. untouched a (refusal_number x)) q ∙ h
refused_with a (Ok y) e q h = absurd q

module _ (a : Asked) where
  same_refusal : (e f : Refusal) → e ≡ f → untouched a (refusal_number e) ≡ untouched a (refusal_number f)
  same_refusal e f p = ap (λ e. untouched a (refusal_number e)) p

  -- the test of its sides, colours and limits
  abbrev numbers : Result (Unit {0}) Refusal
  numbers = accept_numbers (side a.w && side a.h) (colour_count a.k) (limits a.most_grids a.most_depth a.budget)

  pub numbers_refused : (e : Refusal) → Err e ≡ numbers → untouched a (refusal_number e) ≡ solve a
  unfolding solve
  numbers_refused e = go (side a.w && side a.h) (colour_count a.k) (limits a.most_grids a.most_depth a.budget)
    where
      go : (u v w : Bool) → Err e ≡ accept_numbers u v w → untouched a (refusal_number e) ≡ (elim u as (λ _. Rules.Answer) [
        | true ↦ elim v as (λ _. Rules.Answer) [ true ↦ elim w as (λ _. Rules.Answer) [ true ↦ test_clues a | false ↦ untouched a 13 ] | false ↦ untouched a 12 ]
        | false ↦ untouched a 11
      ])
      go false v w p = same_refusal e Sides (cc)
      go true false w p = same_refusal e Colours (cc)
      go true true false p = same_refusal e Limits (cc)
      go true true true p = cc

  module _ (ok : Ok tt ≡ numbers) where
    tests : (side a.w && side a.h ≡ true) × (colour_count a.k ≡ true) × (limits a.most_grids a.most_depth a.budget ≡ true)
    tests = go (side a.w && side a.h) (colour_count a.k) (limits a.most_grids a.most_depth a.budget) ok
      where
        go : (u v w : Bool) → Ok tt ≡ accept_numbers u v w → (u ≡ true) × (v ≡ true) × (w ≡ true)
        go true true true p = (refl, refl, refl)
        go true true false p = cc
        go true false w p = cc
        go false v w p = cc

    sides : (side a.w ≡ true) × (side a.h ≡ true)
    sides = and_true (side a.w) (side a.h) tests.0

    -- what passes is legal
    legal_side : (n : ℕ) → side n ≡ true → (1 ≤ n) × (n ≤ 16)
    legal_side n e = let r = and_true (leb 1 n) (leb n 16) e in (leb-true 1 n r.0, leb-true n 16 r.1)

    pub legal_width : (1 ≤ a.w) × (a.w ≤ 16)
    legal_width = legal_side a.w sides.0

    pub legal_height : (1 ≤ a.h) × (a.h ≤ 16)
    legal_height = legal_side a.h sides.1

    pub legal_colours : a.k ≤ most_colours
    legal_colours = few_colours a.k tests.1

    pub legal_limits : (a.most_grids ≤ 128) × (a.most_depth ≤ 15) × (a.budget ≤ 1_000_000_000)
    legal_limits =
        let r = and_true (leb a.most_grids 128) (leb a.most_depth 15 && leb a.budget 1_000_000_000) tests.2 in
        let s = and_true (leb a.most_depth 15) (leb a.budget 1_000_000_000) r.1 in
        (leb-true a.most_grids 128 r.0, leb-true a.most_depth 15 s.0, leb-true a.budget 1_000_000_000 s.1)

    at_clues : solve a ≡ test_clues a
    unfolding solve
    at_clues = passed (untouched a 11) tests.0 ∙ passed (untouched a 12) tests.1 ∙ passed (untouched a 13) tests.2

    pub clues_refused : clues_of a.k (a.h + a.w) a.clues ≡ Math.none → (e : Refusal) → e ≡ Clues → untouched a (refusal_number e) ≡ solve a
    clues_refused n e p = same_refusal e Clues p ∙ sym (at_clues ∙ ap (λ (o : Math.Option (List Clue)). elim o as (λ _. Rules.Answer) [ Math.some c ↦ test_cells a c | Math.none ↦ untouched a 14 ]) n)

    module _ (clues : List Clue) (read : clues_of a.k (a.h + a.w) a.clues ≡ Math.some clues) where
      -- the test of what is lent
      abbrev lent : Result (Unit {0}) Refusal
      lent = accept_lent (board a.k (a.w * a.h) a.cells) (leb (a.most_grids * (a.w * a.h)) (length a.list))

      pub lent_refused : (e : Refusal) → Err e ≡ lent → untouched a (refusal_number e) ≡ solve a
      lent_refused e p =
          go (board a.k (a.w * a.h) a.cells) (leb (a.most_grids * (a.w * a.h)) (length a.list)) p
          ∙ sym (at_clues ∙ ap (λ (o : Math.Option (List Clue)). elim o as (λ _. Rules.Answer) [ Math.some c ↦ test_cells a c | Math.none ↦ untouched a 14 ]) read)
        where
          go : (u v : Bool) → Err e ≡ accept_lent u v → untouched a (refusal_number e) ≡ (elim u as (λ _. Rules.Answer) [
            | true ↦ elim v as (λ _. Rules.Answer) [ true ↦ searched a clues | false ↦ untouched a 16 ]
            | false ↦ untouched a 15
          ])
          go false v q = same_refusal e Cells (cc)
          go true false q = same_refusal e Variants.List (cc)
          go true true q = cc

      module _ (passes : Ok tt ≡ lent) where
        pub accepted : Accepted a clues
        accepted = record { width = sides.0; height = sides.1; colours = tests.1; limited = tests.2; read = read; cells = both.0; room = both.1 }
          where
            go : (u v : Bool) → Ok tt ≡ accept_lent u v → (u ≡ true) × (v ≡ true)
            go true true q = (refl, refl)
            go true false q = cc
            go false v q = cc

            both : (board a.k (a.w * a.h) a.cells ≡ true) × (leb (a.most_grids * (a.w * a.h)) (length a.list) ≡ true)
            both = go (board a.k (a.w * a.h) a.cells) (leb (a.most_grids * (a.w * a.h)) (length a.list)) passes

        pub accepted_answer : {r : Rules.Answer} → r ≡ searched a clues → r ≡ solve a
        accepted_answer h = h ∙ sym (accepted_searched a clues accepted)

-- ## One answer

-- what comes of a puzzle, or why it is refused, stands at its number
kinds : List (Result Outcome Refusal)
kinds = replicate 2 (Ok Solved) ++ (Ok Listed ∷ Ok DeadEnd ∷ []) ++ replicate 7 (Ok Solved)
    ++ (Err Sides ∷ Err Colours ∷ Err Limits ∷ Err Clues ∷ Err Cells ∷ Err Variants.List ∷ []) ++ replicate 2 (Ok Solved) ++ (Err Rate ∷ Err Grid ∷ [])

outcome_at : (o : Outcome) → get_or kinds (outcome_number o) (Ok Solved) ≡ Ok o
unfolding kinds
outcome_at Solved = refl
outcome_at Listed = refl
outcome_at DeadEnd = refl

refusal_at : (e : Refusal) → get_or kinds (refusal_number e) (Ok Solved) ≡ Err e
unfolding kinds
refusal_at Sides = refl
refusal_at Colours = refl
refusal_at Limits = refl
refusal_at Clues = refl
refusal_at Cells = refl
refusal_at Variants.List = refl
refusal_at Rate = refl
refusal_at Grid = refl

with_counts : Result Outcome Refusal → Stats → Result Answer Refusal
with_counts (Ok o) s = Ok (record { outcome = o; stats = s })
with_counts (Err e) s = Err e

-- so that the numbers tell what they are the numbers of
result_of : Rules.Answer → Result Answer Refusal
result_of v = with_counts (get_or kinds v.number (Ok Solved)) (record { grids = v.grids; steps = v.steps; deepest = v.deepest; limit = v.limit })

told : (r : Result Answer Refusal) (cells list : List ℕ) → result_of (answer r cells list) ≡ r
unfolding result_of with_counts
told (Ok a) cells list = ap (λ k. with_counts k a.stats) (outcome_at a.outcome)
told (Err e) cells list = ap (λ k. with_counts k (record { grids = 0; steps = 0; deepest = 0; limit = 0 })) (refusal_at e)

-- two results that the contract of `solve` allows for one input are equal: what comes of it with every count, or why it is refused, and every lent byte
pub one_answer : (a : Asked) (r s : Result Answer Refusal) (cells out list last : List ℕ) → answer r cells list ≡ solve a → answer s out last ≡ solve a → (r ≡ s) × (cells ≡ out) × (list ≡ last)
one_answer a r s cells out list last p q =
    let e : answer r cells list ≡ answer s out last = p ∙ sym q in
    (sym (told r cells list) ∙ ap result_of e ∙ told s out last, ap (λ v. v.cells) e, ap (λ v. v.list) e)
