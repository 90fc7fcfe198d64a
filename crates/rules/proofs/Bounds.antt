-- How far a guess, a node and the search go: at most the most grids are stored, after a dead one a grid more has room, and the steps stay within a bound.
-- It comes of the limits that are asked, and says nothing of fitting grids.
use mathlib.Core.Path.{◌≡◌, refl, sym, ap, subst, ◌∙◌}
use mathlib.Core.Bool.{Bool, true, false, ◌||◌}
use mathlib.Core.List.{List, [], ◌∷◌}
use mathlib.Core.Option.{Option, none, some}
use Prim.Native.Nat.{ℕ, zero, suc, ◌+◌, ◌*◌, ◌≤◌, ◌<◌}
use native.Mathlib.Omega.{arith}
use lib.ListN.{length}
use Rattle.rules.specs.Loops.{Turn, Holds}
use Rattle.rules.specs.Sets.{Colour, has, colours, single, empty}
use Rattle.rules.specs.Boards.{Board, Cell, at, put, remove, solved, newly, Puzzle}
use Rattle.rules.specs.Propagation.{propagate, check}
use Rattle.rules.specs.Probing.{guessed, Run, steps, event, CellQueue, start_queue, push_both, Notes, Probed, contradiction, probed, probe}
use Rattle.rules.specs.Guesses.{Guess, guess, choose}
use Rattle.rules.specs.Search.{Limits, End, dead, not_dead, Left, left, Tried, tried, Node, node, Spent, spent, Pass, over, ran_out, deeper, store, others, any_closed, first_unsolved, met, probed_node, probe_node, lone, after_guess, pass_step, pass_measure, pass_unended, pass, again, spent_step, spent_measure, spent_unended, refill, after_pass, node_from, ended, guess_deeper, guess_probed, guess_ask, guess_set, try_guess, search}
use Rattle.rules.specs.Promises.{most_probing}
use Rattle.rules.proofs.Tests.{on_test, on_number}
use Rattle.rules.proofs.Loops.{run_ends}
use Rattle.rules.proofs.Narrowing.{put_sub}
use Rattle.rules.proofs.Probing.{Quiet, ProbedBelow, probe_below, push_both-long}
use Rattle.rules.proofs.Ends.{pass_falls, spent_falls}
use Rattle.rules.proofs.Fitting.{Playable, playable_put, playable_remove}
use Rattle.rules.proofs.Keeping.{ProbedSound, propagate_deduced, probe_sound}
use Rattle.rules.proofs.Steps.{run_of, start_queue-long, probe_steps}
use Rattle.rules.proofs.Runs.{store_few, met_none}

-- the most steps of a run of probing, with k colours besides blank
unfoldable pub longest : Puzzle → ℕ → ℕ
longest z k = most_probing k (z.width * z.height)

module _ (z : Puzzle) (l : Limits) where
  open l use {most_grids, budget}

  abbrev FewAfter : End → Run → Type 0
  FewAfter dead t = length t.stored < most_grids
  FewAfter not_dead t = length t.stored ≤ most_grids

  -- A guess or a node has ended with run t, within n steps.
  pub record Bounded (n : ℕ) (e : End) (t : Run) : Type 0 where
    pub few : FewAfter e t
    pub short : steps t ≤ n

  abbrev pub TriedBounded : ℕ → Tried → Type 0
  TriedBounded n (tried e t) = Bounded n e t

  abbrev pub LeftBounded : ℕ → Left → Type 0
  LeftBounded n (left e a t) = Bounded n e t

  module _ (k : ℕ) where
    -- a guess that is bounded by n steps, and a search that is
    abbrev pub GuessBound : ℕ → (Board → Cell → Colour → Run → Tried) → Type 0
    GuessBound n try = (b : Board) (c : Cell) (x : Colour) (s : Run) → Playable z k b → has (at b c) x ≡ true → length s.stored < most_grids → steps s < budget → TriedBounded n (try b c x s)

    abbrev pub SearchBound : ℕ → (Board → List Guess → Run → Left) → Type 0
    SearchBound n deep = (b : Board) (gs : List Guess) (s : Run) → Playable z k b → length s.stored ≤ most_grids → steps s ≤ n → LeftBounded n (deep b gs s)

module _ (z : Puzzle) (l : Limits) (k : ℕ) (few : k ≤ 7) where
  open l use {most_grids, budget}

  -- ## A run of probing

  -- what it leaves, nothing being stored
  abbrev Opens : Run → Probed → Type 0
  Opens s (contradiction t) = Quiet s t
  Opens s (probed a ns t) = Playable z k a × Quiet s t

  record Probes (s : Run) (r : Probed) : Type 0 where
    opens : Opens s r
    short : steps (run_of r) ≤ steps s + longest z k

  probes : (b : Board) (q : CellQueue) (s : Run) → Playable z k b → length q ≡ length b → Probes s (probe z b q s)
  unfolding longest
  probes b q s p e = record {
    opens = go (probe z b q s) (probe_sound z k few b q s p) (probe_below z b q s);
    short = subst (λ n. steps (run_of (probe z b q s)) ≤ steps s + most_probing k n) p.sized (probe_steps z k few b q s p e);
  }
    where
      go : (r : Probed) → ProbedSound z k b r → ProbedBelow z b s r → Opens s r
      go (contradiction t) i o = o
      go (probed a ns t) i o = (i.playable, o.1)

  quiet_few : {s t : Run} → Quiet s t → length t.stored ≡ length s.stored
  quiet_few q = ap length q.stored_same

  -- ## A node, over guesses that are bounded by n steps

  module _ (n : ℕ) (try : Board → Cell → Colour → Run → Tried) (d : ℕ) (the_guess_bound : GuessBound z l k n try) (room : budget ≤ n) where
    -- a node between two guesses, or when they have run out
    record Between (b : Board) (s : Run) : Type 0 where
      playable : Playable z k b
      stored_few : length s.stored ≤ most_grids
      short : steps s ≤ n + longest z k

    abbrev NodeBetween : Node → Type 0
    NodeBetween (node b gs p made s) = Between b s

    abbrev SpentBetween : Spent → Type 0
    SpentBetween (spent b p made s) = Between b s

    abbrev PassBounded : Pass → Type 0
    PassBounded (over e) = LeftBounded z l (n + longest z k) e
    PassBounded (ran_out t) = SpentBetween t

    TurnBounded : Turn Node Pass → Type 0
    TurnBounded = Holds NodeBetween PassBounded

    -- the node's own probing, where a grid more has room
    probed_bounded : (next : Board → List Guess) (made : List Guess) (b : Board) (s : Run) → length s.stored < most_grids → steps s ≤ n → (r : Probed) → Probes s r →
        TurnBounded (probed_node z l try d next made b r)
    unfolding TurnBounded
    probed_bounded next made b s h c (contradiction t) o = record { few = (let e = quiet_few o.opens in omega arith); short = (let e = o.short in omega arith) }
    probed_bounded next made b s h c (probed a ns t) o = on_test TurnBounded (solved a)
        (λ _. on_test TurnBounded (check z a) (λ _. record { few = (let e = more_room in omega (arith, store_few a t.stored)); short = within }) (λ _. record { few = more_room; short = within }))
        (λ _. record { playable = o.opens.0; stored_few = (let e = more_room in omega arith); short = within })
      where
        more_room : length t.stored < most_grids
        more_room = let e = quiet_few o.opens.1 in omega arith

        within : steps t ≤ n + longest z k
        within = let e = o.short in omega arith

    own_bounded : (next : Board → List Guess) (made : List Guess) (b : Board) (s : Run) → Playable z k b → length s.stored < most_grids → steps s ≤ n → TurnBounded (probe_node z l try d next made b s)
    own_bounded next made b s p h c = probed_bounded next made b s h c (probe z b (start_queue z b) s) (probes b (start_queue z b) s p (start_queue-long z b))

    step_bounded : (t : Node) → NodeBetween t → TurnBounded (pass_step z l try d t)
    unfolding TurnBounded
    step_bounded (node b [] p made s) i = i
    step_bounded (node b (guess c x ∷ gs) p made s) i = on_number TurnBounded (met z l s d)
        (λ e. let r = met_none z l s d e in
        on_test TurnBounded (has (at b c) x)
        (λ h. on_test TurnBounded (single (at b c)) (λ _. alone r p) (λ _. after (try b c x s) (the_guess_bound b c x s i.playable h r.0 r.1)))
        (λ _. i))
        (λ m _. record { few = i.stored_few; short = i.short })
      where
        alone : (length s.stored < most_grids) × (steps s < budget) → (q : Bool) → TurnBounded (lone z l try d b gs q made s)
        alone r true = i
        alone r false = own_bounded (λ a. gs) made b s i.playable r.0 (let e = r.1 in omega arith)

        after : (t : Tried) → TriedBounded z l n t → TurnBounded (after_guess z l try d b c x gs p made t)
        after (tried not_dead t) w = record { playable = i.playable; stored_few = w.few; short = (let e = w.short in omega arith) }
        after (tried dead t) w = on_test TurnBounded (empty (at (remove b c x) c))
            (λ _. record { few = w.few; short = (let e = w.short in omega arith) })
            (λ e. own_bounded (λ f. others c x (colours (at f c)) gs) made (remove b c x) t (playable_remove z k few c x i.playable e) w.few w.short)

    pass_bounded : (t : Node) → NodeBetween t → PassBounded (pass z l try d t)
    unfolding pass TurnBounded
    pass_bounded t i = run_ends (pass_step z l try d) pass_measure (pass_falls z l try d) NodeBetween PassBounded step_bounded pass_unended t i

    SpentBounded : Turn Spent Left → Type 0
    SpentBounded = Holds SpentBetween (LeftBounded z l (n + longest z k))

    again_bounded : (r : Pass) → PassBounded r → SpentBounded (again r)
    unfolding SpentBounded
    again_bounded (over e) i = i
    again_bounded (ran_out t) i = i

    spent_bounded : (t : Spent) → SpentBetween t → SpentBounded (spent_step z l try d t)
    unfolding SpentBounded
    spent_bounded (spent b p made s) i = on_number SpentBounded (met z l s d)
        (λ _. on_test SpentBounded (solved b || any_closed b made)
        (λ _. record { few = i.stored_few; short = i.short })
        (λ _. again_bounded (pass z l try d (node b (first_unsolved b) p made s)) (pass_bounded (node b (first_unsolved b) p made s) i)))
        (λ m _. record { few = i.stored_few; short = i.short })

    node_bounded : (b : Board) (gs : List Guess) (s : Run) → Playable z k b → length s.stored ≤ most_grids → steps s ≤ n + longest z k → LeftBounded z l (n + longest z k) (node_from z l try d b gs s)
    unfolding node_from refill SpentBounded
    node_bounded b gs s p f c = go (pass z l try d (node b gs false [] s)) (pass_bounded (node b gs false [] s) (record { playable = p; stored_few = f; short = c }))
      where
        go : (r : Pass) → PassBounded r → LeftBounded z l (n + longest z k) (after_pass z l try d r)
        go (over e) i = i
        go (ran_out t) i = run_ends (spent_step z l try d) spent_measure (spent_falls z l try d) SpentBetween (LeftBounded z l (n + longest z k)) spent_bounded spent_unended t i

  -- ## A guess, over a search that is bounded by n steps

  module _ (n : ℕ) (deep : Board → List Guess → Run → Left) (d : ℕ) (the_search_bound : SearchBound z l k n deep) (room : budget + longest z k ≤ n) where
    record Inside (b : Board) (s : Run) : Type 0 where
      playable : Playable z k b
      stored_few : length s.stored ≤ most_grids
      short : steps s ≤ budget + longest z k

    TriedWithin : Tried → Type 0
    TriedWithin = TriedBounded z l n

    ended_bounded : (e : Left) → LeftBounded z l n e → TriedWithin (ended e)
    unfolding TriedWithin
    ended_bounded (left e a t) i = i

    guess_deeper-bounded : (b : Board) (ns : Notes) (s : Run) → Inside b s → TriedWithin (guess_deeper z l deep d b ns s)
    unfolding TriedWithin
    guess_deeper-bounded b ns s i = on_number TriedWithin (met z l s d)
        (λ _. on_test TriedWithin (solved b)
        (λ _. record { few = i.stored_few; short = (let c = i.short in omega arith) })
        (λ _. ended_bounded (deep b (choose b ns) s) (the_search_bound b (choose b ns) s i.playable i.stored_few (let c = i.short in omega arith))))
        (λ m _. record { few = i.stored_few; short = (let c = i.short in omega arith) })

    guess_probed-bounded : (b : Board) (s : Run) → length s.stored < most_grids → steps s ≤ budget → (r : Probed) → Probes s r → TriedWithin (guess_probed z l deep d r)
    unfolding TriedWithin
    guess_probed-bounded b s h c (contradiction t) o = record { few = (let e = quiet_few o.opens in omega arith); short = (let e = o.short in omega arith) }
    guess_probed-bounded b s h c (probed e ns t) o = on_test TriedWithin (solved e)
        (λ _. on_test TriedWithin (check z e)
        (λ _. guess_deeper-bounded e ns (store e t) (record { playable = o.opens.0; stored_few = (let y = more_room in omega (arith, store_few e t.stored)); short = within }))
        (λ _. record { few = more_room; short = (let y = within in omega arith) }))
        (λ _. guess_deeper-bounded e ns t (record { playable = o.opens.0; stored_few = (let y = more_room in omega arith); short = within }))
      where
        more_room : length t.stored < most_grids
        more_room = let y = quiet_few o.opens.1 in omega arith

        within : steps t ≤ budget + longest z k
        within = let y = o.short in omega arith

    guess_ask-bounded : (b : Board) (q : CellQueue) (s : Run) → Inside b s → length q ≡ length b → TriedWithin (guess_ask z l deep d b q s)
    unfolding TriedWithin
    guess_ask-bounded b q s i e = on_number TriedWithin (met z l s d)
        (λ h. let r = met_none z l s d h in guess_probed-bounded b s r.0 (let c = r.1 in omega arith) (probe z b q s) (probes b q s i.playable e))
        (λ m _. record { few = i.stored_few; short = (let c = i.short in omega arith) })

    guess_set-bounded : (a : Board) (c : Cell) (q : CellQueue) (s : Run) → Playable z k a → length q ≡ length a → length s.stored < most_grids → steps s ≤ budget →
        (v : Option Board) → propagate z a c ≡ v → TriedWithin (guess_set z l deep d a c q s v)
    unfolding TriedWithin
    guess_set-bounded a c q s p e h u none o = record { few = h; short = omega arith }
    guess_set-bounded a c q s p e h u (some b) o = on_test TriedWithin (solved b)
        (λ _. on_test TriedWithin (check z b)
        (λ _. guess_ask-bounded b r (store b s) (record { playable = still; stored_few = omega (arith, store_few b s.stored); short = omega arith }) long)
        (λ _. record { few = h; short = omega arith }))
        (λ _. guess_ask-bounded b r s (record { playable = still; stored_few = omega arith; short = omega arith }) long)
      where
        r : CellQueue
        r = push_both z b c (newly a b) q

        still : Playable z k b
        still = (propagate_deduced z k few c p o).playable

        long : length r ≡ length b
        long = push_both-long z b c (newly a b) q ∙ e ∙ sym (propagate_deduced z k few c p o).sub.long

    guess_bounded : GuessBound z l k n (try_guess z l deep d)
    unfolding try_guess TriedWithin
    guess_bounded b c x s p h f u =
        guess_set-bounded (put b c x) c (start_queue z b) (event (guessed c x) s) (playable_put z k few c x p h) (start_queue-long z b ∙ sym (put_sub b c x h).long) f u (propagate z (put b c x) c) refl

  -- ## THE SEARCH IS BOUNDED, r being how much deeper it may go: its steps stay within the budget and r + 1 runs of probing

  pub search_bounded : (r d : ℕ) → SearchBound z l k (budget + suc r * longest z k) (search z l r d)
  unfolding search
  search_bounded zero d b gs s p f c = record { few = f; short = c }
  search_bounded (suc r) d b gs s p f c = on_number (LeftBounded z l (budget + suc (suc r) * longest z k)) (met z l s d)
      (λ _. subst (λ n. LeftBounded z l n (node_from z l try d b gs (deeper d s))) sums
      (node_bounded (budget + suc r * longest z k) try d (guess_bounded (budget + suc r * longest z k) down (suc d) (search_bounded r (suc d)) (omega arith)) (omega arith) b gs (deeper d s) p f (subst (λ n. steps s ≤ n) (sym sums) c)))
      (λ m _. record { few = f; short = c })
    where
      down : Board → List Guess → Run → Left
      down a hs t = search z l r (suc d) a hs t

      try : Board → Cell → Colour → Run → Tried
      try = try_guess z l down (suc d)

      sums : budget + suc r * longest z k + longest z k ≡ budget + suc (suc r) * longest z k
      sums = omega arith

  -- and so is a guess of it, at its own depth
  pub try_bounded : (r d : ℕ) → GuessBound z l k (budget + suc r * longest z k) (try_guess z l (λ e hs t. search z l r d e hs t) d)
  try_bounded r d = guess_bounded (budget + suc r * longest z k) (λ e hs t. search z l r d e hs t) d (search_bounded r d) (omega arith)
