-- What the answers promise holds of the rules, and so of `solve`, for every accepted input: dead ends, solved boards, lists and their counts mean what they say.
use mathlib.Core.Path.{◌≡◌, refl, sym, ap, ap₂, subst, ◌∙◌}
use mathlib.Core.Logic.{inl, inr}
use mathlib.Core.Bool.{true}
use mathlib.Core.List.Memᴰ
use mathlib.Core.List.{List, [], ◌∷◌, ◌++◌, append_assoc}
use Prim.Native.Nat.{ℕ, suc, ◌+◌, ◌*◌, ◌≤◌}
use native.Mathlib.Nat.{mul-le-mul_left}
use native.Mathlib.Omega.{arith}
use lib.ListN.{length, take, drop}
use lib.Seq.{take_at, drop_at}
use Rattle.rules.specs.Lists.{joined}
use Rattle.rules.specs.Clues.{Clue}
use Rattle.rules.specs.Boards.{Board, solved, Puzzle}
use Rattle.rules.specs.Propagation.{check}
use Rattle.rules.specs.Probing.{Run, steps, start_queue, Probed, contradiction, probed, probe}
use Rattle.rules.specs.Guesses.{choose}
use Rattle.rules.specs.Search.{Limits, End, dead, not_dead, Left, left, Outcome, solved_as, listed, dead_end, fresh, answered, search, checked, begun, whole_run}
use Rattle.rules.specs.Answers.{most_colours, Asked, written, answer_of, searched, solve}
use Rattle.rules.specs.Promises.{Fits, Distinct, most_probing, Promise, of_outcome, parts, of_answer, Accepted, puzzle_of, limits_of, Promised}
use Rattle.rules.proofs.Tests.{on_test}
use Rattle.rules.proofs.Lists.{In, in_some}
use Rattle.rules.proofs.Narrowing.{⊑_trans}
use Rattle.rules.proofs.Accepting.{accepted_searched, accepted_sized, accepted_playable, accepted_colours, accepted_room, accepted_few, solve_cases}
use Rattle.rules.proofs.Fitting.{Playable, fits_long, fits_wider, fits_one, check_fits, unchecked_none}
use Rattle.rules.proofs.Keeping.{NoneFits, Deduced, deduced_none, ProbedSound, probe_sound}
use Rattle.rules.proofs.Steps.{most_probing-few}
use Rattle.rules.proofs.Order.{any_order}
use Rattle.rules.proofs.Bounds.{longest, LeftBounded, search_bounded}
use Rattle.rules.proofs.Settling.{LeftBehind, LeftSettled}
use Rattle.rules.proofs.Searching.{search_keeps_promise}

-- ## A run of the rules

module _ (z : Puzzle) (l : Limits) (k : ℕ) (few : k ≤ 7) (given : Board) (p : Playable z k given) where
  open l use {most_grids, most_depth, budget}

  PromisedBy : Outcome → Type 0
  PromisedBy o = Promise z l k given (of_outcome given o)

  -- solved: the board is the one fitting grid
  solved_promise : (b : Board) → Fits z given b → ((g : Board) → Fits z given g → g ≡ b) → PromisedBy (solved_as b)
  unfolding PromisedBy
  solved_promise b f only = record {
    answered = inl refl;
    dead_end = λ e. absurd (omega arith);
    solved = λ _. (f, only);
    deductions = λ e. absurd (omega arith);
    stored_fit = λ g m. absurd (Memᴰ.not-nil m);
    stored_once = tt;
    stored_few = omega arith;
    complete = λ e. absurd (omega arith);
    steps_few = omega arith;
  }

  -- a dead end, which has stored nothing that does not fit
  dead_promise : (s : Run) → NoneFits z given → ((g : Board) → In g s.stored → Fits z given g) → Distinct s.stored → length s.stored ≤ most_grids →
      steps s ≤ budget + (most_depth + 2) * most_probing k (length given) → PromisedBy (dead_end s)
  unfolding PromisedBy
  dead_promise s f stored once few' short = record {
    answered = inr (inr refl);
    dead_end = λ _. f;
    solved = λ e. absurd (omega arith);
    deductions = λ e. absurd (omega arith);
    stored_fit = stored;
    stored_once = once;
    stored_few = few';
    complete = λ e. absurd (omega arith);
    steps_few = short;
  }

  -- before the search
  none_promise : NoneFits z given → PromisedBy (dead_end fresh)
  none_promise f = dead_promise fresh f (λ g m. absurd (Memᴰ.not-nil m)) tt (omega arith) (omega arith)

  checked_promise : (b : Board) → Deduced z k given b → solved b ≡ true → PromisedBy (checked z l b)
  unfolding PromisedBy
  checked_promise b d e = on_test PromisedBy (check z b)
      (λ h. solved_promise b (fits_wider z d.sub (check_fits z k few d.playable e h)) (λ g f. fits_one z k few d.playable e (d.keeps g f)))
      (λ h. none_promise (λ g f. unchecked_none z k few d.playable e h (d.keeps g f)))

  -- the search at depth 0
  stored_given : (b : Board) {e : End} {a : Board} {s : Run} → Deduced z k given b → LeftBehind z b fresh e a s → (g : Board) → In g s.stored → Fits z given g
  stored_given b d i g m = fits_wider z d.sub (i.settled.grown.fit g (subst (λ r. In g r) i.settled.grown.longer m))

  within : (s : Run) → steps s ≤ budget + suc (suc most_depth) * longest z k → steps s ≤ budget + (most_depth + 2) * most_probing k (length given)
  unfolding longest
  within s h = subst (λ n. steps s ≤ budget + (most_depth + 2) * most_probing k n) (sym p.sized) (omega arith)

  answered_promise : (b : Board) → Deduced z k given b → (e : Left) → LeftSettled z b fresh e → LeftBounded z l (budget + suc (suc most_depth) * longest z k) e → PromisedBy (answered e)
  unfolding PromisedBy longest
  answered_promise b d (left dead a s) i n =
      dead_promise s (λ g f. i.settled.means g (d.keeps g f)) (stored_given b d i) (i.settled.grown.once tt) (let h = n.few in omega arith) (within s n.short)
  answered_promise b d (left not_dead a s) i n = record {
    answered = inr (inl refl);
    dead_end = λ e. absurd (omega arith);
    solved = λ e. absurd (omega arith);
    deductions = λ _. (⊑_trans i.sub d.sub, λ g f. i.keeps g (d.keeps g f));
    stored_fit = stored_given b d i;
    stored_once = i.settled.grown.once tt;
    stored_few = n.few;
    complete = λ _ u. let v = i.settled.means u in (in_some (v.0 v.1.0 v.1.1), λ g f. v.0 g (d.keeps g f));
    steps_few = within s n.short;
  }

  -- THE RULES KEEP THE PROMISE
  pub run_promise : Promise z l k given (of_outcome given (whole_run z l given))
  unfolding PromisedBy whole_run
  run_promise = on_test PromisedBy (solved given) (λ e. checked_promise given (deduced_none z k p) e)
      (λ e. go (probe z given (start_queue z given) fresh) (probe_sound z k few given (start_queue z given) fresh p))
    where
      go : (r : Probed) → ProbedSound z k given r → PromisedBy (begun z l r)
      go (contradiction s) h = none_promise h
      go (probed b ns s) d = on_test PromisedBy (solved b) (λ e. checked_promise b d e)
          (λ e. answered_promise b d (search z l (suc most_depth) 0 b (choose b ns) fresh)
          (search_keeps_promise z l k few (suc most_depth) 0 (omega arith) b (choose b ns) fresh d.playable e)
          (search_bounded z l k few (suc most_depth) 0 b (choose b ns) fresh d.playable (omega arith) (omega arith)))

  -- a dead end has stored nothing: what is stored fits, and nothing does
  pub dead_stores_none : (s : Run) → Promise z l k given (of_outcome given (dead_end s)) → s.stored ≡ []
  dead_stores_none s h = go s.stored (λ g m. h.dead_end refl g (h.stored_fit g m))
    where
      go : (l : List Board) → ((g : Board) → In g l → ⊥) → l ≡ []
      go [] f = refl
      go (g ∷ l) f = absurd (f g (Memᴰ.head refl))

-- ## Bytes

-- grids written one after the other are the first parts of the list
parts_joined : (size : ℕ) (grids : List Board) (rest : List ℕ) → ((g : Board) → In g grids → length g ≡ size) → parts size (length grids) (joined grids ++ rest) ≡ grids
unfolding parts
parts_joined size [] rest f = refl
parts_joined size (g ∷ grids) rest f =
    let e = f g (Memᴰ.head refl) in
    let tail : List ℕ = joined grids ++ rest in
    ap (λ l. take size l ∷ parts size (length grids) (drop size l)) (append_assoc g (joined grids) rest)
    ∙ ap₂ (λ (x : Board) (r : List ℕ). x ∷ parts size (length grids) r) (take_at g tail size e) (drop_at g tail size e)
    ∙ ap (λ (r : List Board). g ∷ r) (parts_joined size grids rest (λ h m. f h (Memᴰ.tail m)))

module _ (a : Asked) (clues : List Clue) (y : Accepted a clues) where
  abbrev z : Puzzle
  z = puzzle_of a clues

  -- its bytes say what the rules have come to
  pub result_same : (o : Outcome) → Promise z (limits_of a) a.k a.cells (of_outcome a.cells o) → of_answer a (answer_of a o) ≡ of_outcome a.cells o
  unfolding parts written
  result_same (solved_as b) h = refl
  result_same (listed b s) h = ap (λ (l : List Board). record { number = 2; board = b; grids = l; steps = steps s; limit = s.limit })
      (parts_joined (a.w * a.h) s.stored (drop (length (joined s.stored)) a.list) (λ g m. fits_long z (h.stored_fit g m) ∙ accepted_sized a clues y))
  result_same (dead_end s) h = ap (λ (l : List Board). record { number = 3; board = a.cells; grids = l; steps = steps s; limit = s.limit })
      (ap (λ l. parts (a.w * a.h) (length l) a.list) nothing ∙ sym nothing)
    where
      nothing : s.stored ≡ []
      nothing = dead_stores_none z (limits_of a) a.k (accepted_room a clues y) a.cells (accepted_playable a clues y) s h

  searched_promise : Promise z (limits_of a) a.k a.cells (of_answer a (searched a clues))
  searched_promise =
      let run = run_promise z (limits_of a) a.k (accepted_room a clues y) a.cells (accepted_playable a clues y) in
      subst (Promise z (limits_of a) a.k a.cells) (sym (result_same (whole_run z (limits_of a) a.cells) run)) run

  searched_steps : (searched a clues).steps ≤ a.budget + (a.most_depth + 2) * 787_456
  searched_steps =
      let h = searched_promise.steps_few in
      let m : (a.most_depth + 2) * most_probing a.k (length a.cells) ≤ (a.most_depth + 2) * most_probing most_colours 256 =
      mul-le-mul_left (a.most_depth + 2) (most_probing-few a.k most_colours (length a.cells) 256 (accepted_colours a clues y) (accepted_few a clues y)) in
      omega arith

-- `solve` KEEPS THE PROMISE
pub solve_promised : (a : Asked) → Promised a (solve a)
solve_promised a = record {
  promise = λ clues y. subst (λ r. Promise (puzzle_of a clues) (limits_of a) a.k a.cells (of_answer a r)) (sym (accepted_searched a clues y)) (searched_promise a clues y);
  any_order = λ clues y b c e h. any_order (puzzle_of a clues) b c e h;
  most_steps = solve_cases a (λ r. r.steps ≤ a.budget + (a.most_depth + 2) * 787_456) (λ n _. omega arith) (searched_steps a);
}
