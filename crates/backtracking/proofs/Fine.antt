-- What the search keeps: boards that can be played, and guesses that have room. After a dead guess a grid more has room, and the steps stay few.
use mathlib.Core.Path.{◌≡◌, refl, ap₂, subst, ◌∙◌}
use mathlib.Core.Bool.{Bool, true, false, ◌||◌}
use mathlib.Core.List.{List, [], ◌∷◌}
use mathlib.Core.Option.{Option, none, some}
use Prim.Native.Nat.{ℕ, suc, ◌+◌, ◌-◌, ◌*◌, ◌^◌, ◌≤◌, ◌<◌}
use native.Mathlib.Nat.{mul-le-mul}
use native.Mathlib.Omega.{arith}
use lib.ListN.{length}
use Rattle.rules.specs.Loops.{Turn, Holds}
use Rattle.rules.specs.Sets.{Colour, has, colours, single, empty}
use Rattle.rules.specs.Boards.{Board, Cell, at, put, remove, solved}
use Rattle.rules.specs.Propagation.{propagate, check}
use Rattle.rules.specs.Probing.{Run, steps, event, guessed, CellQueue, start_queue, Notes, Probed, contradiction, probed, probe}
use Rattle.rules.specs.Guesses.{Guess, guess, choose}
use Rattle.rules.specs.Answers.{most_colours}
use Rattle.rules.specs.Search.{Limits, dead, not_dead, Tried, tried, Node, node, Spent, spent, Pass, over, ran_out, others, any_closed, first_unsolved, met}
use Rattle.rules.specs.Search.{probed_node, lone, after_guess, pass_step, pass_measure, pass_unended, pass}
use Rattle.rules.specs.Promises.{most_probing}
use Rattle.rules.proofs.Tests.{on_test, on_number}
use Rattle.rules.proofs.Lists.{In}
use Rattle.rules.proofs.Loops.{run_ends}
use Rattle.rules.proofs.Sets.{member, member_low}
use Rattle.rules.proofs.Narrowing.{on_board}
use Rattle.rules.proofs.Ends.{pass_falls}
use Rattle.rules.proofs.Fitting.{playable_put, playable_remove}
use Rattle.rules.proofs.Keeping.{ProbedSound, propagate_deduced, probe_sound}
use Rattle.rules.proofs.Room as Room
use Rattle.rules.proofs.Room.{taken_waiting, others_waiting, first_unsolved-waiting, chosen_waiting}
use Rattle.rules.proofs.Steps.{most_probing-few}
use Rattle.rules.proofs.Bounds.{longest, TriedBounded, try_bounded}
use Rattle.lines.specs.declared.machine.Machine.{Machine}
use Rattle.runs.specs.declared.limits.Limits.{Limits as Given}
use Rattle.runs.specs.Matches.{limits_of}
use Rattle.backtracking.specs.Parts.{Went, died, went, after_set, set_guess, after_probe, probe_guess, Entered, ended_as, deeper_from, after_probing, after_setting, enter_guess, refilled}
use Rattle.backtracking.specs.Setting.{Setting, Fine, Few, NodeFine, SpentFine}
use Rattle.backtracking.specs.Comes.{depth_of, try_at}

module _ {w h : ℕ} {machines : List Machine} (g : Setting w h machines) where
  pub fine_long : {b : Board} → Fine g b → length b ≡ w * h
  fine_long p = p.sized ∙ ap₂ (λ (u v : ℕ). u * v) g.table.wide g.table.high

  colour_low : {b : Board} → Fine g b → (c : Cell) (x : Colour) → In x (colours (at b c)) → x < suc most_colours
  colour_low {b} p c x m = member_low (suc most_colours) (at b c) x (p.low c) (member 8 (at b c) m).1

  -- ## A node

  abbrev pub PassFine : Pass → Type 0
  PassFine (over e) = Unit {0}
  PassFine (ran_out t) = SpentFine g t

  module _ (l : Limits) (try : Board → Cell → Colour → Run → Tried) (d : ℕ) where
    TurnFine : Turn Node Pass → Type 0
    TurnFine = Holds (NodeFine g) PassFine

    probed_fine : (next : Board → List Guess) (made : List Guess) (b : Board) → ((a : Board) → Fine g a → Few g (next a)) → (r : Probed) → ProbedSound g.puzzle most_colours b r →
        TurnFine (probed_node g.puzzle l try d next made b r)
    unfolding TurnFine
    probed_fine next made b f (contradiction t) i = tt
    probed_fine next made b f (probed a ns t) i = on_test TurnFine (solved a) (λ _. on_test TurnFine (check g.puzzle a) (λ _. tt) (λ _. tt)) (λ _. (i.playable, f a i.playable))

    pub step_fine : (n : Node) → NodeFine g n → Holds (NodeFine g) PassFine (pass_step g.puzzle l try d n)
    unfolding TurnFine
    step_fine (node b [] p made s) i = i.0
    step_fine (node b (guess c x ∷ gs) p made s) i = on_number TurnFine (met g.puzzle l s d)
        (λ _. on_test TurnFine (has (at b c) x)
        (λ k. on_test TurnFine (single (at b c)) (λ _. alone p) (λ _. after k (try b c x s)))
        (λ _. (i.0, rest)))
        (λ m _. tt)
      where
        rest : Few g gs
        rest = taken_waiting most_colours (w * h) (guess c x) gs i.1

        alone : (q : Bool) → TurnFine (lone g.puzzle l try d b gs q made s)
        alone true = (i.0, rest)
        alone false = probed_fine (λ a. gs) made b (λ a _. rest) (probe g.puzzle b (start_queue g.puzzle b) s) (probe_sound g.puzzle most_colours (omega arith) b (start_queue g.puzzle b) s i.0)

        after : has (at b c) x ≡ true → (t : Tried) → TurnFine (after_guess g.puzzle l try d b c x gs p made t)
        after k (tried not_dead t) = (i.0, rest)
        after k (tried dead t) = let a = remove b c x in on_test TurnFine (empty (at a c)) (λ _. tt)
            (λ e. probed_fine (λ v. others c x (colours (at v c)) gs) made a
            (λ v q. others_waiting most_colours (w * h) c x (colours (at v c)) gs (let u = on_board b c x k in let n = fine_long i.0 in omega arith) (colour_low q c) rest)
            (probe g.puzzle a (start_queue g.puzzle a) t)
            (probe_sound g.puzzle most_colours (omega arith) a (start_queue g.puzzle a) t (playable_remove g.puzzle most_colours (omega arith) c x i.0 e)))

    pub pass_fine : (n : Node) → NodeFine g n → PassFine (pass g.puzzle l try d n)
    unfolding pass
    pass_fine n i = run_ends (pass_step g.puzzle l try d) pass_measure (pass_falls g.puzzle l try d) (NodeFine g) PassFine step_fine pass_unended n i

  -- M3: the new guesses have room
  pub refill_fine : (l : Limits) (d : ℕ) (t : Spent) → SpentFine g t → Holds (NodeFine g) (λ e. Unit {0}) (refilled g.puzzle l d t)
  refill_fine l d (spent b p made s) i = on_number (Holds (NodeFine g) (λ e. Unit {0})) (met g.puzzle l s d)
      (λ _. on_test (Holds (NodeFine g) (λ e. Unit {0})) (solved b || any_closed b made) (λ _. tt)
      (λ _. (i, subst (λ n. Room.Waiting most_colours n (first_unsolved b)) (fine_long i) (first_unsolved-waiting most_colours b i.low))))
      (λ m _. tt)

  -- ## A guess

  abbrev pub SetFine : Went (Board × CellQueue) → Type 0
  SetFine (died t) = Unit {0}
  SetFine (went p t) = Fine g p.0

  pub set_fine : (b : Board) (c : Cell) (x : Colour) (s : Run) → Fine g b → has (at b c) x ≡ true → SetFine (set_guess g.puzzle b c x s)
  unfolding set_guess
  set_fine b c x s p k = go (propagate g.puzzle (put b c x) c) refl
    where
      go : (r : Option Board) → propagate g.puzzle (put b c x) c ≡ r → SetFine (after_set g.puzzle (put b c x) c (start_queue g.puzzle b) (event (guessed c x) s) r)
      go none e = tt
      go (some a) e =
          let f = (propagate_deduced g.puzzle most_colours (omega arith) c (playable_put g.puzzle most_colours (omega arith) c x p k) e).playable in
          on_test SetFine (solved a) (λ _. on_test SetFine (check g.puzzle a) (λ _. f) (λ _. tt)) (λ _. f)

  abbrev pub ProbeFine : Went (Board × Notes) → Type 0
  ProbeFine (died t) = Unit {0}
  ProbeFine (went p t) = Fine g p.0 × Few g (choose p.0 p.1)

  pub probe_fine : (b : Board) (q : CellQueue) (s : Run) → Fine g b → ProbeFine (probe_guess g.puzzle b q s)
  unfolding probe_guess
  probe_fine b q s p = go (probe g.puzzle b q s) refl (probe_sound g.puzzle most_colours (omega arith) b q s p)
    where
      go : (r : Probed) → probe g.puzzle b q s ≡ r → ProbedSound g.puzzle most_colours b r → ProbeFine (after_probe g.puzzle r)
      go (contradiction t) e i = tt
      go (probed a ns t) e i =
          let f : Fine g a × Few g (choose a ns) = (i.playable, subst (λ n. Room.Waiting most_colours n (choose a ns)) (fine_long p) (chosen_waiting g.puzzle most_colours b q s p.low e)) in
          on_test ProbeFine (solved a) (λ _. on_test ProbeFine (check g.puzzle a) (λ _. f) (λ _. tt)) (λ _. f)

  -- where the search goes one deeper, and the guesses chosen there have room
  abbrev pub EnteredFine : Entered → Type 0
  EnteredFine (ended_as t) = Unit {0}
  EnteredFine (deeper_from b gs t) = Fine g b × Few g gs

  pub entered_fine : (l : Limits) (d : ℕ) (b : Board) (c : Cell) (x : Colour) (s : Run) → Fine g b → has (at b c) x ≡ true → EnteredFine (enter_guess g.puzzle l d b c x s)
  entered_fine l d b c x s p k = go (set_guess g.puzzle b c x s) (set_fine b c x s p k)
    where
      probed : (v : Went (Board × Notes)) → ProbeFine v → EnteredFine (after_probing g.puzzle l d v)
      probed (died t) f = tt
      probed (went a t) f = on_number EnteredFine (met g.puzzle l t d) (λ _. on_test EnteredFine (solved a.0) (λ _. tt) (λ _. f)) (λ m _. tt)

      go : (v : Went (Board × CellQueue)) → SetFine v → EnteredFine (after_setting g.puzzle l d v)
      go (died t) f = tt
      go (went a t) f = on_number EnteredFine (met g.puzzle l t d) (λ _. probed (probe_guess g.puzzle a.0 a.1 t) (probe_fine a.0 a.1 t f)) (λ m _. tt)

  -- ## What a guess comes to

  -- the most steps that a run has made after a guess
  abbrev pub most_steps : Given → ℕ → ℕ
  most_steps l left = l.budget + suc (left - 1) * longest g.puzzle most_colours

  module _ (l : Given) (left : ℕ) (some_left : 1 ≤ left) (within : left ≤ l.depth + 1) where
    pub depth_down : depth_of l (left - 1) ≡ suc (depth_of l left)
    depth_down = omega arith

    -- a guess stays within its bounds
    pub tried_within : (b : Board) (c : Cell) (x : Colour) (s : Run) → Fine g b → has (at b c) x ≡ true → length s.stored < l.grids → steps s < l.budget →
        TriedBounded g.puzzle (limits_of l) (most_steps l left) (try_at g.puzzle l (left - 1) b c x s)
    tried_within = try_bounded g.puzzle (limits_of l) most_colours (omega arith) (left - 1) (depth_of l (left - 1))

    -- the steps stay few
    pub steps_few : l.depth ≤ 15 → l.budget ≤ 1_000_000_000 → w * h ≤ 256 → (n : ℕ) → n ≤ most_steps l left → n ≤ 2 ^ 40
    unfolding longest
    steps_few a b c n e =
        let size : g.puzzle.width * g.puzzle.height ≡ w * h = ap₂ (λ (u v : ℕ). u * v) g.table.wide g.table.high in
        let m : most_probing most_colours (g.puzzle.width * g.puzzle.height) ≤ most_probing most_colours 256 =
        most_probing-few most_colours most_colours (g.puzzle.width * g.puzzle.height) 256 (omega arith) (omega arith) in
        let k : suc (left - 1) * most_probing most_colours (g.puzzle.width * g.puzzle.height) ≤ 16 * most_probing most_colours 256 = mul-le-mul {n₁ = suc (left - 1)} {n₂ = 16} (omega arith) m in
        omega arith
