-- Two runs side by side, under limits l and under raised ones, m. They are one and the same till the shorter run meets a limit of grids or of steps; then they part.
-- From there on the shorter run meets that limit wherever limits are asked, since stored grids and steps only grow: it stores nothing, takes no step, and ends "not dead" in every
-- guess and node that it is in. So what it has come to is where the longer run still was when they parted, and the longer one only grows from there.
use mathlib.Core.Path.{◌≡◌, refl, sym, ap, subst}
use mathlib.Core.Logic.{◌⊎◌, inl, inr}
use mathlib.Core.Bool.{Bool, true, false, ◌||◌}
use mathlib.Core.List.{List, [], ◌∷◌}
use mathlib.Core.Option.{Option, none, some}
use Prim.Native.Nat.{ℕ, zero, suc, ◌≤◌, ◌<◌}
use native.Mathlib.Omega.{arith}
use lib.ListN.{length}
use lib.Dec.{leb, ltb}
use borrow.Author.Tests.{leb-true, leb-false, le-leb, lt-leb}
use Rattle.rules.specs.Loops.{Turn, more, stop}
use Rattle.rules.specs.Sets.{Colour, has, single}
use Rattle.rules.specs.Boards.{Board, Cell, at, put, solved, newly, Puzzle}
use Rattle.rules.specs.Propagation.{propagate, check}
use Rattle.rules.specs.Probing.{guessed, Run, steps, event, CellQueue, start_queue, push_both, Notes, Probed, contradiction, probed, probe}
use Rattle.rules.specs.Guesses.{Guess, guess, choose}
use Rattle.rules.specs.Search.{Limits, dead, not_dead, Left, left, Tried, tried, Node, node, Spent, spent, Pass, over, ran_out, deeper, first_of, note, store, any_closed, first_unsolved, met, lone, after_guess, pass_step, pass_measure, pass_unended, pass, again, spent_step, spent_measure, spent_unended, refill, after_pass, node_from, ended, guess_deeper, guess_probed, guess_ask, guess_set, try_guess, search}
use Rattle.rules.specs.Promises.{◌⊑◌}
use Rattle.rules.proofs.Tests.{on_tests, by_test, clash}
use Rattle.rules.proofs.Loops.{onward, Abreast, run_abreast}
use Rattle.rules.proofs.Narrowing.{⊑_refl, ⊑_trans}
use Rattle.rules.proofs.Ends.{pass_falls, pass_turn, spent_falls, refill_turn}
use Rattle.rules.proofs.Runs.{noted_limit}
use Rattle.rules.proofs.Growing.{Later, later_refl, later_trans, later_note, TriedLater, LeftLater, GuessGrows, SearchGrows, PassLater, TurnLater, after_later, step_later, pass_later, spent_later, refill_later, SpentTurnLater, guess_deeper-later, guess_ask-later, guess_grows, search_grows}

-- the limits m allow no fewer grids and no fewer steps than l, at the same most depth
pub record Raised (l m : Limits) : Type 0 where
  pub depth_same : m.most_depth ≡ l.most_depth
  pub grids_up : l.most_grids ≤ m.most_grids
  pub budget_up : l.budget ≤ m.budget

-- where a pass stands at its end, whether it ends its node or not
abbrev standing : Pass → Left
standing (over e) = e
standing (ran_out (spent b p made s)) = left not_dead b s

-- what comes of a pass among new guesses is what follows a pass
again_on : (z : Puzzle) (l : Limits) (try : Board → Cell → Colour → Run → Tried) (d : ℕ) (r : Pass) → onward spent_measure spent_unended (spent_step z l try d) (again r) ≡ after_pass z l try d r
unfolding refill
again_on z l try d (over e) = refl
again_on z l try d (ran_out t) = refl

module _ (z : Puzzle) (l m : Limits) (raised : Raised l m) where
  -- ## Limits

  -- the shorter run has met a limit of grids or steps
  abbrev Halted : Run → Type 0
  Halted s = (l.most_grids ≤ length s.stored) ⊎ (l.budget ≤ steps s)

  -- so that limits, wherever they are asked, are met, and not by depth
  met_halted : (s : Run) (d : ℕ) → Halted s → (n : ℕ) × (met z l s d ≡ suc n) × (n < 2)
  unfolding met
  met_halted s d h = go (leb l.most_grids (length s.stored)) (leb l.budget (steps s)) refl refl h
    where
      go : (u v : Bool) → leb l.most_grids (length s.stored) ≡ u → leb l.budget (steps s) ≡ v → Halted s →
          (n : ℕ) × (◌≡◌ {A = ℕ} (elim u [ true ↦ 1 | false ↦ elim v [ true ↦ 2 | false ↦ elim (ltb l.most_depth d) [ true ↦ 3 | false ↦ 0 ] ] ]) (suc n)) × (n < 2)
      go true v p q k = (0, refl, omega arith)
      go false true p q k = (1, refl, omega arith)
      go false false p q (inl k) = clash (le-leb l.most_grids (length s.stored) k) p
      go false false p q (inr k) = clash (le-leb l.budget (steps s) k) q

  -- and where it has not, both runs meet the same: the limit of depth, or none
  met_alike : (s : Run) (d : ℕ) → (met z l s d ≡ met z m s d) ⊎ Halted s
  unfolding met
  met_alike s d = by_test (leb l.most_grids (length s.stored)) (λ p. inr (inl (leb-true l.most_grids (length s.stored) p)))
      (λ p. by_test (leb l.budget (steps s)) (λ q. inr (inr (leb-true l.budget (steps s) q)))
      (λ q.
      let u : leb m.most_grids (length s.stored) ≡ false = lt-leb m.most_grids (length s.stored) (omega (arith, leb-false l.most_grids (length s.stored) p, raised.grids_up)) in
      let v : leb m.budget (steps s) ≡ false = lt-leb m.budget (steps s) (omega (arith, leb-false l.budget (steps s) q, raised.budget_up)) in
      inl (rw (p, q, u, v, raised.depth_same, met))))

  -- what is asked in both runs: the same, or the shorter one meets a limit and the longer one does what it does
  on_met : {A : Type 0} (P : A → A → Type 0) (s : Run) (d : ℕ) {a b : A} {f : ℕ → A} → ((n : ℕ) → P (f n) (f n)) → P a b →
      (Halted s → (n : ℕ) → n < 2 → P (f n) (elim (met z m s d) [ zero ↦ b | suc k ↦ f k ])) → P (elim (met z l s d) [ zero ↦ a | suc k ↦ f k ]) (elim (met z m s d) [ zero ↦ b | suc k ↦ f k ])
  on_met {A} P s d {a} {b} {f} same go_on halt = elim (met_alike s d) [
    | inl e ↦ subst (λ u. P (elim (met z l s d) [ zero ↦ a | suc k ↦ f k ]) (elim u [ zero ↦ b | suc k ↦ f k ])) e (one (met z l s d))
    | inr h ↦ let r = met_halted s d h in subst (λ u. P (elim u [ zero ↦ a | suc k ↦ f k ]) (elim (met z m s d) [ zero ↦ b | suc k ↦ f k ])) (sym r.1) (halt h r.0 r.2)
  ]
    where
      one : (u : ℕ) → P (elim u [ zero ↦ a | suc k ↦ f k ]) (elim u [ zero ↦ b | suc k ↦ f k ])
      one zero = go_on
      one (suc n) = same n

  -- ## Parted runs

  -- where depth is the first limit after another was noted, it was before
  noted_depth : (k n : ℕ) → n < 2 → first_of k (suc n) ≡ 3 → k ≡ 3
  noted_depth zero n h e = absurd (omega arith)
  noted_depth (suc k) n h e = e

  -- The shorter run s has met and noted a limit of grids or steps, and t, of the longer one, has come of where it was then.
  pub record Parted (s t : Run) : Type 0 where
    pub halted : Halted s
    pub noted : s.limit ≡ 0 → ⊥
    pub later : Later s t

  parting : {n : ℕ} {s t : Run} → n < 2 → Halted s → Later s t → Parted (note (suc n) s) t
  parting {n} {s} k h i = record {
    halted = h;
    noted = noted_limit s.limit n;
    later = record { new = i.new; stored_more = i.stored_more; steps_up = i.steps_up; deepest_up = i.deepest_up; depth_kept = λ e. i.depth_kept (noted_depth s.limit n k e) };
  }

  parted_on : {s t u : Run} → Parted s t → Later t u → Parted s u
  parted_on p i = record { halted = p.halted; noted = p.noted; later = later_trans p.later i }

  -- guesses, and nodes, whose runs have parted: the shorter one has ended "not dead", and the longer one's board is a narrowing of its board
  abbrev TriedParted : Tried → Tried → Type 0
  TriedParted (tried dead s) r = ⊥
  TriedParted (tried not_dead s) (tried e t) = Parted s t

  abbrev LeftParted : Left → Left → Type 0
  LeftParted (left dead b s) r = ⊥
  LeftParted (left not_dead b s) (left e a t) = (a ⊑ b) × Parted s t

  -- the two are one, or they have parted
  abbrev TriedBeside : Tried → Tried → Type 0
  TriedBeside r q = (r ≡ q) ⊎ TriedParted r q

  abbrev pub LeftBeside : Left → Left → Type 0
  LeftBeside r q = (r ≡ q) ⊎ LeftParted r q

  abbrev PassBeside : Pass → Pass → Type 0
  PassBeside r q = (r ≡ q) ⊎ LeftParted (standing r) (standing q)

  abbrev GuessBeside : (try try' : Board → Cell → Colour → Run → Tried) → Type 0
  GuessBeside try try' = (b : Board) (c : Cell) (x : Colour) (s : Run) → TriedBeside (try b c x s) (try' b c x s)

  abbrev SearchBeside : (deep deep' : Board → List Guess → Run → Left) → Type 0
  SearchBeside deep deep' = (b : Board) (gs : List Guess) (s : Run) → LeftBeside (deep b gs s) (deep' b gs s)

  -- at a limit of the shorter run alone, and on from there
  parted_here : (b : Board) (s : Run) {n : ℕ} → n < 2 → Halted s → (e : Left) → LeftLater b s e → LeftParted (left not_dead b (note (suc n) s)) e
  parted_here b s k h (left e a t) i = (i.0, parting k h i.1)

  parted_later : (b : Board) {s t : Run} → Parted s t → (e : Left) → LeftLater b t e → LeftParted (left not_dead b s) e
  parted_later b p (left e a t) i = (i.0, parted_on p i.1)

  -- a limit noted again
  parted_note : (b : Board) (s : Run) {n : ℕ} → n < 2 → (e : Left) → LeftParted (left not_dead b s) e → LeftParted (left not_dead b (note (suc n) s)) e
  parted_note b s k (left e a t) i = (i.0, parting k i.1.halted i.1.later)

  -- ## A node, over guesses that go side by side

  module _ (try try' : Board → Cell → Colour → Run → Tried) (d : ℕ) (the_guess_beside : GuessBeside try try') (the_guess_grows : GuessGrows try') where
    -- the shorter run, halted: it leaves the pass, or its guesses have run out, and it leaves the node
    pass_halted : (P : Left → Type 0) (b : Board) (gs : List Guess) (p : Bool) (made : List Guess) (s : Run) → Halted s → P (left not_dead b s) → ((n : ℕ) → n < 2 → P (left not_dead b (note (suc n) s))) →
        P (standing (pass z l try d (node b gs p made s)))
    pass_halted P b [] p made s h here noted = subst (λ r. P (standing r)) (sym (pass_turn z l try d (node b [] p made s))) here
    pass_halted P b (guess c x ∷ gs) p made s h here noted = subst (λ r. P (standing r)) (sym (pass_turn z l try d (node b (guess c x ∷ gs) p made s)))
        (let r = met_halted s d h in rw r.1 (noted r.0 r.2))

    refill_halted : (P : Left → Type 0) (b : Board) (p : Bool) (made : List Guess) (s : Run) → Halted s → ((n : ℕ) → n < 2 → P (left not_dead b (note (suc n) s))) → P (refill z l try d (spent b p made s))
    refill_halted P b p made s h noted = subst P (sym (refill_turn z l try d (spent b p made s))) (let r = met_halted s d h in rw r.1 (noted r.0 r.2))

    -- the longer run, on to the end of its pass
    standing_later : (b : Board) (s : Run) (r : Pass) → PassLater z m try' d the_guess_grows b s r → LeftLater b s (standing r)
    standing_later b s (over e) i = i
    standing_later b s (ran_out (spent a p made t)) i = i

    StepBeside : Turn Node Pass → Turn Node Pass → Type 0
    StepBeside = Abreast pass_measure pass_unended (pass_step z l try d) (pass_step z m try' d) PassBeside

    on_later : (b : Board) (s : Run) (o : Turn Node Pass) → TurnLater z m try' d the_guess_grows b s o → LeftLater b s (standing (onward pass_measure pass_unended (pass_step z m try' d) o))
    unfolding pass TurnLater
    on_later b s (more t) i = standing_later b s (pass z m try' d t) (pass_later z m try' d the_guess_grows b s t i)
    on_later b s (stop r) i = standing_later b s r i

    step_beside : (t : Node) → StepBeside (pass_step z l try d t) (pass_step z m try' d t)
    unfolding StepBeside pass
    step_beside (node b [] p made s) = inl refl
    step_beside (node b (guess c x ∷ gs) p made s) = on_met StepBeside s d (λ n. inl refl)
        (on_tests StepBeside (has (at b c) x) (on_tests StepBeside (single (at b c)) (alone p) (after (try b c x s) (try' b c x s) (the_guess_beside b c x s))) (inl refl))
        (λ h n k. inr (inr (parted_here b s k h (standing (onward pass_measure pass_unended (pass_step z m try' d) (pass_step z m try' d (node b (guess c x ∷ gs) p made s))))
        (on_later b s (pass_step z m try' d (node b (guess c x ∷ gs) p made s)) (step_later z m try' d the_guess_grows b s (node b (guess c x ∷ gs) p made s) (⊑_refl b, later_refl s))))))
      where
        alone : (q : Bool) → StepBeside (lone z l try d b gs q made s) (lone z m try' d b gs q made s)
        alone true = inl refl
        alone false = inl refl

        alike : (t : Tried) → after_guess z l try d b c x gs p made t ≡ after_guess z m try' d b c x gs p made t
        alike (tried not_dead t) = refl
        alike (tried dead t) = refl

        parted : (t u : Tried) → TriedParted t u → StepBeside (after_guess z l try d b c x gs p made t) (after_guess z m try' d b c x gs p made u)
        parted (tried dead t) u h = absurd h
        parted (tried not_dead t) (tried e u) h =
            let o = after_guess z m try' d b c x gs p made (tried e u) in
            let q = standing (onward pass_measure pass_unended (pass_step z m try' d) o) in
            let i = parted_later b h q (on_later b u o (after_later z m try' d the_guess_grows b u b c x gs p made (⊑_refl b) (tried e u) (later_refl u))) in
            inr (inr (pass_halted (λ r. LeftParted r q) b gs p (guess c x ∷ made) t h.halted i (λ n k. parted_note b t k q i)))

        after : (t u : Tried) → TriedBeside t u → StepBeside (after_guess z l try d b c x gs p made t) (after_guess z m try' d b c x gs p made u)
        after t u (inl e) = subst (λ v. StepBeside (after_guess z l try d b c x gs p made t) (after_guess z m try' d b c x gs p made v)) e (inl (alike t))
        after t u (inr h) = parted t u h

    pass_beside : (t : Node) → PassBeside (pass z l try d t) (pass z m try' d t)
    unfolding pass StepBeside
    pass_beside t = run_abreast pass_measure pass_unended (pass_step z l try d) (pass_step z m try' d) PassBeside (pass_falls z l try d) (pass_falls z m try' d) (λ r. inl refl) step_beside t

    SpentBeside : Turn Spent Left → Turn Spent Left → Type 0
    SpentBeside = Abreast spent_measure spent_unended (spent_step z l try d) (spent_step z m try' d) LeftBeside

    refill_on : (b : Board) (s : Run) (o : Turn Spent Left) → SpentTurnLater z m try' d the_guess_grows b s o → LeftLater b s (onward spent_measure spent_unended (spent_step z m try' d) o)
    unfolding refill SpentTurnLater
    refill_on b s (more t) i = refill_later z m try' d the_guess_grows b s t i
    refill_on b s (stop r) i = i

    -- what follows a pass, in both runs
    pass_on : (r q : Pass) → LeftParted (standing r) (standing q) → LeftParted (after_pass z l try d r) (after_pass z m try' d q)
    pass_on r q h = shorter r (longer (standing r) q h)
      where
        longer : (e : Left) (q : Pass) → LeftParted e (standing q) → LeftParted e (after_pass z m try' d q)
        longer e (over f) h = h
        longer (left dead b s) (ran_out t) h = absurd h
        longer (left not_dead b s) (ran_out (spent a p made t)) h = narrower (refill z m try' d (spent a p made t)) (refill_later z m try' d the_guess_grows a t (spent a p made t) (⊑_refl a, later_refl t))
          where
            narrower : (e : Left) → LeftLater a t e → LeftParted (left not_dead b s) e
            narrower (left e f u) i = (⊑_trans i.0 h.0, parted_on h.1 i.1)

        shorter : (r : Pass) → LeftParted (standing r) (after_pass z m try' d q) → LeftParted (after_pass z l try d r) (after_pass z m try' d q)
        shorter (over e) i = i
        shorter (ran_out (spent b p made s)) i = refill_halted (λ e. LeftParted e (after_pass z m try' d q)) b p made s (halts (after_pass z m try' d q) i) (λ n k. parted_note b s k (after_pass z m try' d q) i)
          where
            halts : (e : Left) → LeftParted (left not_dead b s) e → Halted s
            halts (left e a t) h = h.1.halted

    again_beside : (r q : Pass) → PassBeside r q → SpentBeside (again r) (again q)
    unfolding SpentBeside
    again_beside r q (inl e) = inl (ap again e)
    again_beside r q (inr h) = inr (inr (subst (λ e. LeftParted e (onward spent_measure spent_unended (spent_step z m try' d) (again q))) (sym (again_on z l try d r))
        (subst (λ e. LeftParted (after_pass z l try d r) e) (sym (again_on z m try' d q)) (pass_on r q h))))

    spent_beside : (t : Spent) → SpentBeside (spent_step z l try d t) (spent_step z m try' d t)
    unfolding SpentBeside refill
    spent_beside (spent b p made s) = on_met SpentBeside s d (λ n. inl refl)
        (on_tests SpentBeside (solved b || any_closed b made) (inl refl)
        (again_beside (pass z l try d (node b (first_unsolved b) p made s)) (pass z m try' d (node b (first_unsolved b) p made s)) (pass_beside (node b (first_unsolved b) p made s))))
        (λ h n k. inr (inr (parted_here b s k h (onward spent_measure spent_unended (spent_step z m try' d) (spent_step z m try' d (spent b p made s)))
        (refill_on b s (spent_step z m try' d (spent b p made s)) (spent_later z m try' d the_guess_grows b s (spent b p made s) (⊑_refl b, later_refl s))))))

    refill_beside : (t : Spent) → LeftBeside (refill z l try d t) (refill z m try' d t)
    unfolding refill SpentBeside
    refill_beside t = run_abreast spent_measure spent_unended (spent_step z l try d) (spent_step z m try' d) LeftBeside (spent_falls z l try d) (spent_falls z m try' d) (λ r. inl refl) spent_beside t

    node_beside : SearchBeside (node_from z l try d) (node_from z m try' d)
    unfolding node_from
    node_beside b gs s = go (pass z l try d (node b gs false [] s)) (pass z m try' d (node b gs false [] s)) (pass_beside (node b gs false [] s))
      where
        alike : (r : Pass) → LeftBeside (after_pass z l try d r) (after_pass z m try' d r)
        alike (over e) = inl refl
        alike (ran_out t) = refill_beside t

        go : (r q : Pass) → PassBeside r q → LeftBeside (after_pass z l try d r) (after_pass z m try' d q)
        go r q (inl e) = subst (λ q. LeftBeside (after_pass z l try d r) (after_pass z m try' d q)) e (alike r)
        go r q (inr h) = inr (pass_on r q h)

  -- ## A guess, over searches that go side by side

  module _ (deep deep' : Board → List Guess → Run → Left) (d : ℕ) (the_search_beside : SearchBeside deep deep') (the_search_grows : SearchGrows deep') where
    -- at a limit of the shorter run alone
    tried_here : (s : Run) {n : ℕ} → n < 2 → Halted s → (t : Tried) → TriedLater s t → TriedParted (tried not_dead (note (suc n) s)) t
    tried_here s k h (tried e t) i = parting k h i

    ended_beside : (r q : Left) → LeftBeside r q → TriedBeside (ended r) (ended q)
    ended_beside r q (inl e) = inl (ap ended e)
    ended_beside (left dead b s) q (inr h) = absurd h
    ended_beside (left not_dead b s) (left e a t) (inr h) = inr h.1

    guess_deeper-beside : (b : Board) (ns : Notes) (s : Run) → TriedBeside (guess_deeper z l deep d b ns s) (guess_deeper z m deep' d b ns s)
    guess_deeper-beside b ns s = on_met TriedBeside s d (λ n. inl refl)
        (on_tests TriedBeside (solved b) (inl refl) (ended_beside (deep b (choose b ns) s) (deep' b (choose b ns) s) (the_search_beside b (choose b ns) s)))
        (λ h n k. inr (tried_here s k h (guess_deeper z m deep' d b ns s) (guess_deeper-later z m deep' d the_search_grows s b ns s (later_refl s))))

    guess_probed-beside : (r : Probed) → TriedBeside (guess_probed z l deep d r) (guess_probed z m deep' d r)
    guess_probed-beside (contradiction s) = inl refl
    guess_probed-beside (probed b ns s) = on_tests TriedBeside (solved b) (on_tests TriedBeside (check z b) (guess_deeper-beside b ns (store b s)) (inl refl)) (guess_deeper-beside b ns s)

    guess_ask-beside : (b : Board) (q : CellQueue) (s : Run) → TriedBeside (guess_ask z l deep d b q s) (guess_ask z m deep' d b q s)
    guess_ask-beside b q s = on_met TriedBeside s d (λ n. inl refl) (guess_probed-beside (probe z b q s))
        (λ h n k. inr (tried_here s k h (guess_ask z m deep' d b q s) (guess_ask-later z m deep' d the_search_grows s b q s (later_refl s))))

    guess_set-beside : (a : Board) (c : Cell) (q : CellQueue) (s : Run) (v : Option Board) → TriedBeside (guess_set z l deep d a c q s v) (guess_set z m deep' d a c q s v)
    guess_set-beside a c q s none = inl refl
    guess_set-beside a c q s (some b) = let r = push_both z b c (newly a b) q in
        on_tests TriedBeside (solved b) (on_tests TriedBeside (check z b) (guess_ask-beside b r (store b s)) (inl refl)) (guess_ask-beside b r s)

    guess_beside : GuessBeside (try_guess z l deep d) (try_guess z m deep' d)
    unfolding try_guess
    guess_beside b c x s = guess_set-beside (put b c x) c (start_queue z b) (event (guessed c x) s) (propagate z (put b c x) c)

  -- ## THE SEARCHES GO SIDE BY SIDE, OR HAVE PARTED

  pub search_beside : (r d : ℕ) → SearchBeside (search z l r d) (search z m r d)
  unfolding search
  search_beside zero d b gs s = elim (met_alike s d) [
    | inl e ↦ inl (ap (λ n. left not_dead b (note n s)) e)
    | inr h ↦ let r = met_halted s d h in
        inr (⊑_refl b, subst (λ n. Parted (note n s) (note (met z m s d) s)) (sym r.1) (parting r.2 h (later_note (met z m s d) (later_refl s))))
  ]
  search_beside (suc r) d b gs s = on_met LeftBeside s d (λ n. inl refl)
      (node_beside (try_guess z l down (suc d)) (try_guess z m down' (suc d)) d (guess_beside down down' (suc d) (search_beside r (suc d)) (search_grows z m r (suc d)))
      (guess_grows z m down' (suc d) (search_grows z m r (suc d))) b gs (deeper d s))
      (λ h n k. inr (parted_here b s k h (search z m (suc r) d b gs s) (search_grows z m (suc r) d b gs s)))
    where
      down : Board → List Guess → Run → Left
      down a hs t = search z l r (suc d) a hs t

      down' : Board → List Guess → Run → Left
      down' a hs t = search z m r (suc d) a hs t
