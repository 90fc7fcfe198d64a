-- A longer run only adds. A limit that is met changes nothing of what went before: it removes no colour, stores nothing, reorders nothing, and ends what it is met in as "not dead".
-- So two runs that differ in the budget or the most grids are one run up to where the shorter one first meets such a limit; there the shorter one ends with what it has, and the
-- longer one goes on, which can only store more behind it, take more steps, go deeper and narrow the board. `Parting` follows the two through the search.
use mathlib.Core.Path.{◌≡◌, refl, sym, ap, subst, ◌∙◌}
use mathlib.Core.Logic.{◌⊎◌, inl, inr}
use mathlib.Core.List.{List, [], ◌∷◌, ◌++◌, append-nil}
use Prim.Native.Nat.{ℕ, suc, ◌≤◌}
use native.Mathlib.Omega.{arith}
use lib.ListN.{length}
use Rattle.rules.specs.Clues.{Clue}
use Rattle.rules.specs.Boards.{Board, solved, Puzzle}
use Rattle.rules.specs.Probing.{start_queue, Probed, contradiction, probed, probe}
use Rattle.rules.specs.Guesses.{choose}
use Rattle.rules.specs.Search.{Limits, dead, not_dead, Left, left, Outcome, solved_as, listed, dead_end, fresh, answered, search, begun, whole_run}
use Rattle.rules.specs.Answers.{Asked, Answer, answer_of, solve}
use Rattle.rules.specs.Promises.{◌⊑◌, Promise, of_outcome, Accepted, puzzle_of, limits_of}
use Rattle.rules.specs.Longer.{rerun, Report, report, Adds}
use Rattle.rules.proofs.Tests.{on_tests}
use Rattle.rules.proofs.Narrowing.{⊑_refl}
use Rattle.rules.proofs.Fitting.{Playable}
use Rattle.rules.proofs.Accepting.{answered_accepted, accepted_searched, accepted_playable, accepted_room}
use Rattle.rules.proofs.Promises.{run_promise, dead_stores_none, result_same}
use Rattle.rules.proofs.Parting.{Raised, Parted, LeftBeside, search_beside}

-- ## Two runs of the rules

module _ (z : Puzzle) (l m : Limits) (raised : Raised l m) where
  -- runs that have parted: the shorter one is listed
  abbrev OutcomeParted : Outcome → Outcome → Type 0
  OutcomeParted (solved_as b) q = ⊥
  OutcomeParted (dead_end s) q = ⊥
  OutcomeParted (listed b s) (solved_as a) = ⊥
  OutcomeParted (listed b s) (listed a t) = (a ⊑ b) × Parted z l m raised s t
  OutcomeParted (listed b s) (dead_end t) = Parted z l m raised s t

  abbrev OutcomeBeside : Outcome → Outcome → Type 0
  OutcomeBeside r q = (r ≡ q) ⊎ OutcomeParted r q

  answered_beside : (e f : Left) → LeftBeside z l m raised e f → OutcomeBeside (answered e) (answered f)
  answered_beside e f (inl h) = inl (ap answered h)
  answered_beside (left dead b s) f (inr h) = absurd h
  answered_beside (left not_dead b s) (left dead a t) (inr h) = inr h.1
  answered_beside (left not_dead b s) (left not_dead a t) (inr h) = inr h

  run_beside : (given : Board) → OutcomeBeside (whole_run z l given) (whole_run z m given)
  unfolding whole_run
  run_beside given = on_tests OutcomeBeside (solved given) (inl refl) (go (probe z given (start_queue z given) fresh))
    where
      go : (r : Probed) → OutcomeBeside (begun z l r) (begun z m r)
      go (contradiction s) = inl refl
      go (probed b ns s) = on_tests OutcomeBeside (solved b) (inl refl)
          (answered_beside (search z l (suc l.most_depth) 0 b (choose b ns) fresh) (search z m (suc m.most_depth) 0 b (choose b ns) fresh)
          (subst (λ n. LeftBeside z l m raised (search z l (suc l.most_depth) 0 b (choose b ns) fresh) (search z m (suc n) 0 b (choose b ns) fresh)) (sym raised.depth_same)
          (search_beside z l m raised (suc l.most_depth) 0 b (choose b ns) fresh)))

-- ## What they give back

-- how deep a run went; one that ends before the search is not deep
abbrev deepest_of : Outcome → ℕ
deepest_of (solved_as b) = 0
deepest_of (listed b s) = s.deepest
deepest_of (dead_end s) = s.deepest

abbrev run_report : Board → Outcome → Report
run_report given o = record { result = of_outcome given o; deepest = deepest_of o }

-- nothing is added to what is the same
adds_same : (r : Report) → Adds r r
adds_same r = record {
  solved_stays = λ _. refl;
  dead_end_stays = λ _. refl;
  listed_stays = λ e. inl e;
  grids_begin = ([], sym (append-nil r.result.grids));
  board_narrows = λ _ _. ⊑_refl r.result.board;
  steps_up = omega arith;
  deepest_up = omega arith;
  unlimited_same = λ _. refl;
  depth_stays = λ e. e;
}

append_none : {A : Type 0} (l k : List A) → l ++ k ≡ [] → l ≡ []
append_none [] k e = refl
append_none (x ∷ l) k e = absurd (let n : suc (length (l ++ k)) ≡ 0 = ap length e in omega arith)

module _ (z : Puzzle) (l m : Limits) (raised : Raised l m) (k : ℕ) (few : k ≤ 7) (given : Board) (p : Playable z k given) where
  outcome_adds : (r q : Outcome) → OutcomeBeside z l m raised r q → Promise z m k given (of_outcome given q) → Adds (run_report given r) (run_report given q)
  outcome_adds r q (inl e) h = subst (λ o. Adds (run_report given r) (run_report given o)) e (adds_same (run_report given r))
  outcome_adds (solved_as b) q (inr i) h = absurd i
  outcome_adds (dead_end s) q (inr i) h = absurd i
  outcome_adds (listed b s) (solved_as a) (inr i) h = absurd i
  outcome_adds (listed b s) (listed a t) (inr i) h = record {
    solved_stays = λ e. absurd (omega arith);
    dead_end_stays = λ e. absurd (omega arith);
    listed_stays = λ _. inl refl;
    grids_begin = (i.1.later.new, i.1.later.stored_more);
    board_narrows = λ _ _. i.0;
    steps_up = i.1.later.steps_up;
    deepest_up = i.1.later.deepest_up;
    unlimited_same = λ e. absurd (i.1.noted e);
    depth_stays = i.1.later.depth_kept;
  }
  outcome_adds (listed b s) (dead_end t) (inr i) h = record {
    solved_stays = λ e. absurd (omega arith);
    dead_end_stays = λ e. absurd (omega arith);
    listed_stays = λ _. inr (refl, append_none s.stored i.later.new (sym i.later.stored_more ∙ dead_stores_none z m k few given p t h));
    grids_begin = (i.later.new, i.later.stored_more);
    board_narrows = λ _ e. absurd (omega arith);
    steps_up = i.later.steps_up;
    deepest_up = i.later.deepest_up;
    unlimited_same = λ e. absurd (i.noted e);
    depth_stays = i.later.depth_kept;
  }

  run_adds : Adds (run_report given (whole_run z l given)) (run_report given (whole_run z m given))
  run_adds = outcome_adds (whole_run z l given) (whole_run z m given) (run_beside z l m raised given) (run_promise z m k few given p)

-- ## Two answers

-- an answer gives back what the run of the rules does
module _ (a : Asked) (clues : List Clue) (y : Accepted a clues) where
  report_same : (o : Outcome) → Promise (puzzle_of a clues) (limits_of a) a.k a.cells (of_outcome a.cells o) → report a (answer_of a o) ≡ run_report a.cells o
  report_same (solved_as b) h = ap (λ r. record { result = r; deepest = 0 }) (result_same a clues y (solved_as b) h)
  report_same (listed b s) h = ap (λ r. record { result = r; deepest = s.deepest }) (result_same a clues y (listed b s) h)
  report_same (dead_end s) h = ap (λ r. record { result = r; deepest = s.deepest }) (result_same a clues y (dead_end s) h)

  report_run : report a (solve a) ≡ run_report a.cells (whole_run (puzzle_of a clues) (limits_of a) a.cells)
  report_run = ap (report a) (accepted_searched a clues y)
      ∙ report_same (whole_run (puzzle_of a clues) (limits_of a) a.cells) (run_promise (puzzle_of a clues) (limits_of a) a.k (accepted_room a clues y) a.cells (accepted_playable a clues y))

module _ (a : Asked) (grids budget : ℕ) (list : List ℕ) (grids_up : a.most_grids ≤ grids) (budget_up : a.budget ≤ budget) where
  abbrev b : Asked
  b = rerun a grids budget list

  -- A LONGER RUN ONLY ADDS: where an input is accepted, and again with no fewer grids and no fewer steps, nothing that was given back is altered
  pub longer_adds : (clues : List Clue) → Accepted a clues → Accepted b clues → Adds (report a (solve a)) (report b (solve b))
  longer_adds clues y y' =
      subst (λ r. Adds r (report b (solve b))) (sym (report_run a clues y))
      (subst (λ q. Adds (run_report a.cells (whole_run (puzzle_of a clues) (limits_of a) a.cells)) q) (sym (report_run b clues y'))
      (run_adds (puzzle_of a clues) (limits_of a) (limits_of b) (record { depth_same = refl; grids_up = grids_up; budget_up = budget_up }) a.k (accepted_room a clues y) a.cells (accepted_playable a clues y)))

  -- OF TWO CALLS: the same of any two answers that are those of the rules, as a contract says of what a call gives back, where neither is a refusal
  pub calls_add : (r q : Answer) → r ≡ solve a → q ≡ solve b → r.number ≤ 3 → q.number ≤ 3 → Adds (report a r) (report b q)
  calls_add r q e f h k =
      let y = answered_accepted a (subst (λ r. r.number ≤ 3) e h) in
      subst (λ r. Adds (report a r) (report b q)) (sym e) (subst (λ q. Adds (report a (solve a)) (report b q)) (sym f)
      (longer_adds y.0 y.1 (again y.0 y.1 (answered_accepted b (subst (λ q. q.number ≤ 3) f k)))))
    where
      -- the same bytes mean the same clues
      again : (clues : List Clue) → Accepted a clues → (other : List Clue) × Accepted b other → Accepted b clues
      again clues y o = record { width = y.width; height = y.height; colours = y.colours; limited = o.1.limited; read = y.read; cells = y.cells; room = o.1.room }
