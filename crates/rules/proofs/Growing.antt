-- A run only grows: what is stored stays in front, steps and deepest never fall, a first limit of depth stays, and a node's board only narrows. It holds under any limits and of any board.
use mathlib.Core.Path.{◌≡◌, refl, sym, ap, ◌∙◌}
use mathlib.Core.Bool.{Bool, true, false, ◌||◌}
use mathlib.Core.List.{List, [], ◌∷◌, ◌++◌, append-nil, append_assoc}
use mathlib.Core.Option.{Option, none, some}
use Prim.Native.Nat.{ℕ, zero, suc, ◌≤◌}
use native.Mathlib.Omega.{arith}
use Rattle.rules.specs.Loops.{Turn, Holds}
use Rattle.rules.specs.Sets.{Colour, has, colours, single, empty}
use Rattle.rules.specs.Boards.{Board, Cell, at, put, remove, solved, newly, Puzzle}
use Rattle.rules.specs.Propagation.{propagate, check}
use Rattle.rules.specs.Probing.{guessed, Event, Run, steps, event, CellQueue, start_queue, push_both, Notes, Probed, contradiction, probed, probe}
use Rattle.rules.specs.Guesses.{Guess, guess, choose}
use Rattle.rules.specs.Search.{Limits, dead, not_dead, Left, left, Tried, tried, Node, node, Spent, spent, Pass, over, ran_out, deeper, first_of, note, store, others, any_closed, first_unsolved, met, probed_node, probe_node, lone, after_guess, pass_step, pass_measure, pass_unended, pass, again, spent_step, spent_measure, spent_unended, refill, after_pass, node_from, ended, guess_deeper, guess_probed, guess_ask, guess_set, try_guess, search}
use Rattle.rules.specs.Promises.{◌⊑◌}
use Rattle.rules.proofs.Tests.{on_test, on_number}
use Rattle.rules.proofs.Loops.{run_ends}
use Rattle.rules.proofs.Narrowing.{⊑_refl, ⊑_trans, remove_sub}
use Rattle.rules.proofs.Probing.{Quiet, ProbedBelow, probe_below}
use Rattle.rules.proofs.Ends.{pass_falls, spent_falls}
use Rattle.rules.proofs.Runs.{store_adds}

-- ## Runs

-- The run t has the grids of s in front, and no fewer steps; it is no less deep, and a first limit of depth stays.
pub record Later (s t : Run) : Type 0 where
  pub new : List Board
  pub stored_more : t.stored ≡ s.stored ++ new
  pub steps_up : steps s ≤ steps t
  pub deepest_up : s.deepest ≤ t.deepest
  pub depth_kept : s.limit ≡ 3 → t.limit ≡ 3

-- nothing was stored
later_same : (s t : Run) → t.stored ≡ s.stored → steps s ≤ steps t → s.deepest ≤ t.deepest → t.limit ≡ s.limit → Later s t
later_same s t e f g h = record { new = []; stored_more = e ∙ sym (append-nil s.stored); steps_up = f; deepest_up = g; depth_kept = λ k. h ∙ k }

pub later_refl : (s : Run) → Later s s
later_refl s = later_same s s refl (omega arith) (omega arith) refl

pub later_trans : {s t u : Run} → Later s t → Later t u → Later s u
later_trans {s} p q = record {
  new = p.new ++ q.new;
  stored_more = q.stored_more ∙ ap (λ l. l ++ q.new) p.stored_more ∙ append_assoc s.stored p.new q.new;
  steps_up = omega (arith, p.steps_up, q.steps_up);
  deepest_up = omega (arith, p.deepest_up, q.deepest_up);
  depth_kept = λ e. q.depth_kept (p.depth_kept e);
}

later_quiet : {s t : Run} → Quiet s t → Later s t
later_quiet {s} {t} q = later_same s t q.stored_same q.steps_up (let e = q.deepest_same in omega arith) q.limit_same

pub later_note : {s t : Run} (m : ℕ) → Later s t → Later s (note m t)
later_note m h = record { new = h.new; stored_more = h.stored_more; steps_up = h.steps_up; deepest_up = h.deepest_up; depth_kept = λ e. ap (λ n. first_of n m) (h.depth_kept e) }

later_store : (b : Board) {s t : Run} → Later s t → Later s (store b t)
later_store b {s} {t} h = later_trans h (let r = store_adds b t.stored in record { new = r.0; stored_more = r.1; steps_up = omega arith; deepest_up = omega arith; depth_kept = λ e. e })

later_event : (e : Event) (s : Run) → Later s (event e s)
later_event e s = later_same s (event e s) refl (omega arith) (omega arith) refl

later_deeper : (d : ℕ) (s : Run) → Later s (deeper d s)
later_deeper d s = later_same s (deeper d s) refl (omega arith) (omega arith) refl

-- ## Guesses and nodes

abbrev pub TriedLater : Run → Tried → Type 0
TriedLater s (tried e t) = Later s t

abbrev pub LeftLater : Board → Run → Left → Type 0
LeftLater b s (left e a t) = (a ⊑ b) × Later s t

-- a guess that only grows the run, and a search that does and narrows the board
abbrev pub GuessGrows : (Board → Cell → Colour → Run → Tried) → Type 0
GuessGrows try = (b : Board) (c : Cell) (x : Colour) (s : Run) → TriedLater s (try b c x s)

abbrev pub SearchGrows : (Board → List Guess → Run → Left) → Type 0
SearchGrows deep = (b : Board) (gs : List Guess) (s : Run) → LeftLater b s (deep b gs s)

module _ (z : Puzzle) (l : Limits) where
  -- ## A node, over guesses that grow, against the board and the run that it began with

  module _ (try : Board → Cell → Colour → Run → Tried) (d : ℕ) (the_guess_grows : GuessGrows try) (b₀ : Board) (s₀ : Run) where
    abbrev NodeLater : Node → Type 0
    NodeLater (node b gs p made s) = (b ⊑ b₀) × Later s₀ s

    abbrev SpentLater : Spent → Type 0
    SpentLater (spent b p made s) = (b ⊑ b₀) × Later s₀ s

    abbrev pub PassLater : Pass → Type 0
    PassLater (over e) = LeftLater b₀ s₀ e
    PassLater (ran_out t) = SpentLater t

    unfoldable pub TurnLater : Turn Node Pass → Type 0
    TurnLater = Holds NodeLater PassLater

    probed_later : (next : Board → List Guess) (made : List Guess) (b : Board) (s : Run) → b ⊑ b₀ → Later s₀ s → (r : Probed) → ProbedBelow z b s r → TurnLater (probed_node z l try d next made b r)
    unfolding TurnLater
    probed_later next made b s h i (contradiction t) o = (h, later_trans i (later_quiet o))
    probed_later next made b s h i (probed a ns t) o = on_test TurnLater (solved a)
        (λ _. on_test TurnLater (check z a) (λ _. (sub, later_store a now)) (λ _. (sub, now)))
        (λ _. (sub, now))
      where
        sub : a ⊑ b₀
        sub = ⊑_trans o.0 h

        now : Later s₀ t
        now = later_trans i (later_quiet o.1)

    own_later : (next : Board → List Guess) (made : List Guess) (b : Board) (s : Run) → b ⊑ b₀ → Later s₀ s → TurnLater (probe_node z l try d next made b s)
    own_later next made b s h i = probed_later next made b s h i (probe z b (start_queue z b) s) (probe_below z b (start_queue z b) s)

    pub after_later : (b : Board) (c : Cell) (x : Colour) (gs : List Guess) (p : Bool) (made : List Guess) → b ⊑ b₀ → (t : Tried) → TriedLater s₀ t → TurnLater (after_guess z l try d b c x gs p made t)
    unfolding TurnLater
    after_later b c x gs p made h (tried not_dead t) i = (h, i)
    after_later b c x gs p made h (tried dead t) i = on_test TurnLater (empty (at (remove b c x) c))
        (λ _. (⊑_trans (remove_sub b c x) h, i))
        (λ _. own_later (λ e. others c x (colours (at e c)) gs) made (remove b c x) t (⊑_trans (remove_sub b c x) h) i)

    pub step_later : (t : Node) → NodeLater t → TurnLater (pass_step z l try d t)
    unfolding TurnLater
    step_later (node b [] p made s) i = i
    step_later (node b (guess c x ∷ gs) p made s) i = on_number TurnLater (met z l s d)
        (λ _. on_test TurnLater (has (at b c) x)
        (λ _. on_test TurnLater (single (at b c)) (λ _. alone p) (λ _. after_later b c x gs p made i.0 (try b c x s) (tried_later (try b c x s) (the_guess_grows b c x s))))
        (λ _. i))
        (λ m _. (i.0, later_note (suc m) i.1))
      where
        alone : (q : Bool) → TurnLater (lone z l try d b gs q made s)
        alone true = i
        alone false = own_later (λ a. gs) made b s i.0 i.1

        tried_later : (t : Tried) → TriedLater s t → TriedLater s₀ t
        tried_later (tried e t) h = later_trans i.1 h

    pub pass_later : (t : Node) → NodeLater t → PassLater (pass z l try d t)
    unfolding pass TurnLater
    pass_later t i = run_ends (pass_step z l try d) pass_measure (pass_falls z l try d) NodeLater PassLater step_later pass_unended t i

    unfoldable pub SpentTurnLater : Turn Spent Left → Type 0
    SpentTurnLater = Holds SpentLater (LeftLater b₀ s₀)

    again_later : (r : Pass) → PassLater r → SpentTurnLater (again r)
    unfolding SpentTurnLater
    again_later (over e) i = i
    again_later (ran_out t) i = i

    pub spent_later : (t : Spent) → SpentLater t → SpentTurnLater (spent_step z l try d t)
    unfolding SpentTurnLater
    spent_later (spent b p made s) i = on_number SpentTurnLater (met z l s d)
        (λ _. on_test SpentTurnLater (solved b || any_closed b made)
        (λ _. i)
        (λ _. again_later (pass z l try d (node b (first_unsolved b) p made s)) (pass_later (node b (first_unsolved b) p made s) i)))
        (λ m _. (i.0, later_note (suc m) i.1))

    pub refill_later : (t : Spent) → SpentLater t → LeftLater b₀ s₀ (refill z l try d t)
    unfolding refill SpentTurnLater
    refill_later t i = run_ends (spent_step z l try d) spent_measure (spent_falls z l try d) SpentLater (LeftLater b₀ s₀) spent_later spent_unended t i

    after_pass-later : (r : Pass) → PassLater r → LeftLater b₀ s₀ (after_pass z l try d r)
    after_pass-later (over e) i = i
    after_pass-later (ran_out t) i = refill_later t i

  node_grows : (try : Board → Cell → Colour → Run → Tried) (d : ℕ) → GuessGrows try → SearchGrows (node_from z l try d)
  unfolding node_from
  node_grows try d g b gs s = after_pass-later try d g b s (pass z l try d (node b gs false [] s)) (pass_later try d g b s (node b gs false [] s) (⊑_refl b, later_refl s))

  -- ## A guess, over a search that grows

  module _ (deep : Board → List Guess → Run → Left) (d : ℕ) (the_search_grows : SearchGrows deep) (s₀ : Run) where
    ended_later : (b : Board) {s : Run} → Later s₀ s → (e : Left) → LeftLater b s e → TriedLater s₀ (ended e)
    ended_later b h (left e a t) i = later_trans h i.1

    pub guess_deeper-later : (b : Board) (ns : Notes) (s : Run) → Later s₀ s → TriedLater s₀ (guess_deeper z l deep d b ns s)
    guess_deeper-later b ns s h = on_number (TriedLater s₀) (met z l s d)
        (λ _. on_test (TriedLater s₀) (solved b) (λ _. h) (λ _. ended_later b h (deep b (choose b ns) s) (the_search_grows b (choose b ns) s)))
        (λ m _. later_note (suc m) h)

    guess_probed-later : (b : Board) (s : Run) → Later s₀ s → (r : Probed) → ProbedBelow z b s r → TriedLater s₀ (guess_probed z l deep d r)
    guess_probed-later b s h (contradiction t) o = later_trans h (later_quiet o)
    guess_probed-later b s h (probed a ns t) o = on_test (TriedLater s₀) (solved a)
        (λ _. on_test (TriedLater s₀) (check z a) (λ _. guess_deeper-later a ns (store a t) (later_store a now)) (λ _. now))
        (λ _. guess_deeper-later a ns t now)
      where
        now : Later s₀ t
        now = later_trans h (later_quiet o.1)

    pub guess_ask-later : (b : Board) (q : CellQueue) (s : Run) → Later s₀ s → TriedLater s₀ (guess_ask z l deep d b q s)
    guess_ask-later b q s h = on_number (TriedLater s₀) (met z l s d)
        (λ _. guess_probed-later b s h (probe z b q s) (probe_below z b q s))
        (λ m _. later_note (suc m) h)

    guess_set-later : (a : Board) (c : Cell) (q : CellQueue) (s : Run) → Later s₀ s → (v : Option Board) → TriedLater s₀ (guess_set z l deep d a c q s v)
    guess_set-later a c q s h none = h
    guess_set-later a c q s h (some b) = on_test (TriedLater s₀) (solved b)
        (λ _. on_test (TriedLater s₀) (check z b) (λ _. guess_ask-later b (push_both z b c (newly a b) q) (store b s) (later_store b h)) (λ _. h))
        (λ _. guess_ask-later b (push_both z b c (newly a b) q) s h)

  pub guess_grows : (deep : Board → List Guess → Run → Left) (d : ℕ) → SearchGrows deep → GuessGrows (try_guess z l deep d)
  unfolding try_guess
  guess_grows deep d g b c x s = guess_set-later deep d g s (put b c x) c (start_queue z b) (event (guessed c x) s) (later_event (guessed c x) s) (propagate z (put b c x) c)

  -- ## THE SEARCH ONLY GROWS ITS RUN AND NARROWS ITS BOARD

  pub search_grows : (r d : ℕ) → SearchGrows (search z l r d)
  unfolding search
  search_grows zero d b gs s = (⊑_refl b, later_note (met z l s d) (later_refl s))
  search_grows (suc r) d b gs s = on_number (LeftLater b s) (met z l s d)
      (λ _. raised (node_from z l try d b gs (deeper d s)) (node_grows try d (guess_grows down (suc d) (search_grows r (suc d))) b gs (deeper d s)))
      (λ m _. (⊑_refl b, later_note (suc m) (later_refl s)))
    where
      down : Board → List Guess → Run → Left
      down a hs t = search z l r (suc d) a hs t

      try : Board → Cell → Colour → Run → Tried
      try = try_guess z l down (suc d)

      raised : (e : Left) → LeftLater b (deeper d s) e → LeftLater b s e
      raised (left e a t) i = (i.0, later_trans (later_deeper d s) i.1)
