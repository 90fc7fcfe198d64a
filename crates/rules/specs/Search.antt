-- The search: limits, nodes, guesses, storing, with the four mends M1 to M4.
use Rattle.std.specs.Prelude.{Bool, true, false, not, ◌&&◌, ◌||◌, List, [], ◌∷◌, ◌++◌, map, ℕ, zero, suc, ◌+◌, ◌*◌, max, length, leb, ltb, eqb}
use Rattle.std.proofs.Math.Option.{Option, none, some}
use Rattle.rules.specs.Lists.{every, any, first}
use Rattle.rules.specs.Loops.{Turn, more, stop, run}
use Rattle.rules.specs.Sets.{Colour, has, colours, single, empty}
use Rattle.rules.specs.Boards.{Board, Cell, at, cells, put, remove, solved, size, newly, same, Puzzle}
use Rattle.rules.specs.Propagation.{propagate, check}
use Rattle.rules.specs.Probing.{guessed, Run, steps, event, CellQueue, start_queue, push_both, Notes, Probed, contradiction, probed, probe}
use Rattle.rules.specs.Guesses.{Guess, guess, choose}

pub record Limits : Type 0 where
  pub most_grids : ℕ
  pub most_depth : ℕ
  pub budget : ℕ

-- how a guess or a node ends; a limit met means "not dead"
pub data End : Type 0 where
  dead not_dead : End

-- a node's end, the board that it leaves, and the run
pub data Left : Type 0 where
  left : End → Board → Run → Left

-- a guess's end, and the run; the board is restored to what it was before the guess
pub data Tried : Type 0 where
  tried : End → Run → Tried

-- a node between two guesses: the board, the waiting guesses, whether this node itself has run probing, the guesses made here that were not dead, the run
pub data Node : Type 0 where
  node : Board → List Guess → Bool → List Guess → Run → Node

-- a node whose guesses have run out
pub data Spent : Type 0 where
  spent : Board → Bool → List Guess → Run → Spent

-- the end of a pass over a node's guesses
pub data Pass : Type 0 where
  over : Left → Pass
  ran_out : Spent → Pass

-- the outcome of a whole run: a solved board; a list, with the deductions at depth 0 on the board; or a dead end, which by M4 has no board to leave
pub data Outcome : Type 0 where
  solved_as : Board → Outcome
  listed : Board → Run → Outcome
  dead_end : Run → Outcome

-- ## Runs

-- nothing stored, no step, no limit met
abbrev pub fresh : Run
fresh = record { stored = []; events = []; deepest = 0; limit = 0 }

-- deepest is raised to depth + 1 if it is lower
abbrev pub deeper : ℕ → Run → Run
deeper d s = record { stored = s.stored; events = s.events; deepest = max s.deepest (suc d); limit = s.limit }

abbrev pub first_of : ℕ → ℕ → ℕ
first_of zero m = m
first_of (suc l) m = suc l

-- the first limit met is kept
abbrev pub note : ℕ → Run → Run
note m s = record { stored = s.stored; events = s.events; deepest = s.deepest; limit = first_of s.limit m }

-- storing skips a grid equal to one stored already
unfoldable pub store_in : Board → List Board → List Board
store_in b l = elim (any (same b) l) [ true ↦ l | false ↦ l ++ (b ∷ []) ]

abbrev pub store : Board → Run → Run
store b s = record { stored = store_in b s.stored; events = s.events; deepest = s.deepest; limit = s.limit }

-- ## Waiting guesses

abbrev pub same_guess : Guess → Guess → Bool
same_guess (guess c x) (guess e y) = eqb c e && eqb x y

unfoldable pub among : Guess → List Guess → Bool
among g gs = any (same_guess g) gs

-- the cell's other colours not already waiting, ascending, each put before the guesses that wait: so the highest goes first
unfoldable pub others : Cell → Colour → List Colour → List Guess → List Guess
others c x [] gs = gs
others c x (y ∷ ys) gs = others c x ys (elim (eqb y x || among (guess c y) gs) [ true ↦ gs | false ↦ guess c y ∷ gs ])

-- M3: a cell is closed at a node when each colour it now has was guessed there and was not dead
unfoldable pub closed : Board → List Guess → Cell → Bool
closed b made c = every (λ x. among (guess c x) made) (colours (at b c))

unfoldable pub any_closed : Board → List Guess → Bool
any_closed b made = any (closed b made) (cells b)

-- M3: all colours, ascending, of the first unsolved cell by row and column
unfoldable pub first_unsolved : Board → List Guess
first_unsolved b = elim (first (λ c. not (single (at b c))) (cells b)) [ none ↦ [] | some c ↦ map (guess c) (colours (at b c)) ]

-- ## The measures of a node's two loops: a step of a pass takes a guess from those that wait, or a colour from the board, for which at most eight come to wait;
-- a pass over all colours of a cell takes a colour from the board, or closes the cell

abbrev pub pass_measure : Node → ℕ
pass_measure (node b gs p made s) = size b * 9 + length gs

abbrev pub pass_unended : Node → Pass
pass_unended (node b gs p made s) = over (left not_dead b s)

abbrev pub spent_measure : Spent → ℕ
spent_measure (spent b p made s) = size b * 2 + elim (any_closed b made) [ true ↦ 0 | false ↦ 1 ]

abbrev pub spent_unended : Spent → Left
spent_unended (spent b p made s) = left not_dead b s

-- ## From one kind of end to another

abbrev pub again : Pass → Turn Spent Left
again (over e) = stop e
again (ran_out t) = more t

abbrev pub ended : Left → Tried
ended (left e b s) = tried e s

abbrev pub answered : Left → Outcome
answered (left dead b s) = dead_end s
answered (left not_dead b s) = listed b s

module _ (z : Puzzle) (l : Limits) where
  open l use {most_grids, most_depth, budget}

  -- ## Limits

  -- the limits, asked in this order: stored grids ≥ most grids; steps ≥ step budget; depth > most depth. 0 where none is met.
  unfoldable pub met : Run → ℕ → ℕ
  met s d = elim (leb most_grids (length s.stored)) [
    | true ↦ 1
    | false ↦ elim (leb budget (steps s)) [
      | true ↦ 2
      | false ↦ elim (ltb most_depth d) [ true ↦ 3 | false ↦ 0 ]
    ]
  ]

  -- ## A node, at depth d, over what one guess comes to
  module _ (try : Board → Cell → Colour → Run → Tried) (d : ℕ) where
    -- the node's own probing has ended, b being the board that it began with: a contradiction makes the node dead, and a solved board is stored, M1 its final check
    -- passed, and ends the node. Otherwise `next` gives the guesses that wait then.
    abbrev pub probed_node : (Board → List Guess) → List Guess → Board → Probed → Turn Node Pass
    probed_node next made b (contradiction s) = stop (over (left dead b s))
    probed_node next made b (probed a ns s) = elim (solved a) [
      | true ↦ elim (check z a) [ true ↦ stop (over (left not_dead a (store a s))) | false ↦ stop (over (left dead a s)) ]
      | false ↦ more (node a (next a) true made s)
    ]

    -- probing from a fresh starting queue
    abbrev pub probe_node : (Board → List Guess) → List Guess → Board → Run → Turn Node Pass
    probe_node next made b s = probed_node next made b (probe z b (start_queue z b) s)

    -- a cell with one colour left is never guessed: skipped if this node itself has already run probing, otherwise the node is probed
    abbrev pub lone : Board → List Guess → Bool → List Guess → Run → Turn Node Pass
    lone b gs true made s = more (node b gs true made s)
    lone b gs false made s = probe_node (λ a. gs) made b s

    -- after a dead guess: its colour is removed (the last one: node dead) and the node is probed; then the cell's other colours wait too
    abbrev pub after_guess : Board → Cell → Colour → List Guess → Bool → List Guess → Tried → Turn Node Pass
    after_guess b c x gs p made (tried not_dead s) = more (node b gs p (guess c x ∷ made) s)
    after_guess b c x gs p made (tried dead s) = let a = remove b c x in
        elim (empty (at a c)) [
          | true ↦ stop (over (left dead a s))
          | false ↦ probe_node (λ e. others c x (colours (at e c)) gs) made a s
        ]

    -- before each guess: limits are asked; a guess whose colour is gone is skipped
    abbrev pub pass_step : Node → Turn Node Pass
    pass_step (node b [] p made s) = stop (ran_out (spent b p made s))
    pass_step (node b (guess c x ∷ gs) p made s) = elim (met s d) [
      | suc m ↦ stop (over (left not_dead b (note (suc m) s)))
      | zero ↦ elim (has (at b c) x) [
        | false ↦ more (node b gs p made s)
        | true ↦ elim (single (at b c)) [
          | true ↦ lone b gs p made s
          | false ↦ after_guess b c x gs p made (try b c x s)
        ]
      ]
    ]

    -- a pass over the guesses that wait
    unfoldable pub pass : Node → Pass
    pass = run pass_step pass_measure pass_unended

    -- M3: when guesses run out (or there were none), limits are asked; if the board is unsolved and no cell is closed, the first unsolved cell gives new guesses.
    -- Otherwise the node ends "not dead".
    abbrev pub spent_step : Spent → Turn Spent Left
    spent_step (spent b p made s) = elim (met s d) [
      | suc m ↦ stop (left not_dead b (note (suc m) s))
      | zero ↦ elim (solved b || any_closed b made) [
        | true ↦ stop (left not_dead b s)
        | false ↦ again (pass (node b (first_unsolved b) p made s))
      ]
    ]

    -- passes over new guesses, till the node ends
    unfoldable pub refill : Spent → Left
    refill = run spent_step spent_measure spent_unended

    abbrev pub after_pass : Pass → Left
    after_pass (over e) = e
    after_pass (ran_out t) = refill t

    -- a node with its chosen guesses
    unfoldable pub node_from : Board → List Guess → Run → Left
    node_from b gs s = after_pass (pass (node b gs false [] s))

  -- ## A guess, at its own depth d, over the search one deeper
  module _ (deep : Board → List Guess → Run → Left) (d : ℕ) where
    -- after the probing inside the guess: limits are asked again; if the board is solved, done; else search one deeper with the chosen guesses
    abbrev pub guess_deeper : Board → Notes → Run → Tried
    guess_deeper b ns s = elim (met s d) [
      | suc m ↦ tried not_dead (note (suc m) s)
      | zero ↦ elim (solved b) [ true ↦ tried not_dead s | false ↦ ended (deep b (choose b ns) s) ]
    ]

    -- M2: a board solved by the probing inside a guess is checked and stored at once, before limits are asked again
    abbrev pub guess_probed : Probed → Tried
    guess_probed (contradiction s) = tried dead s
    guess_probed (probed b ns s) = elim (solved b) [
      | true ↦ elim (check z b) [ true ↦ guess_deeper b ns (store b s) | false ↦ tried dead s ]
      | false ↦ guess_deeper b ns s
    ]

    -- limits at the guess's own depth, then probing
    abbrev pub guess_ask : Board → CellQueue → Run → Tried
    guess_ask b q s = elim (met s d) [
      | suc m ↦ tried not_dead (note (suc m) s)
      | zero ↦ guess_probed (probe z b q s)
    ]

    -- the colour is set, on board a, and propagated: if solved, store, M1 its final check passed; push the two kinds of neighbours
    abbrev pub guess_set : Board → Cell → CellQueue → Run → Option Board → Tried
    guess_set a c q s none = tried dead s
    guess_set a c q s (some b) = let r = push_both z b c (newly a b) q in elim (solved b) [
      | true ↦ elim (check z b) [ true ↦ guess_ask b r (store b s) | false ↦ tried dead s ]
      | false ↦ guess_ask b r s
    ]

    -- a guess: take the starting queue, set the colour, propagate
    unfoldable pub try_guess : Board → Cell → Colour → Run → Tried
    try_guess b c x s = let a = put b c x in guess_set a c (start_queue z b) (event (guessed c x) s) (propagate z a c)

  -- ## The search at depth d, r being how much deeper it may go: d + r is one more than the most depth, so that a limit is met before r is used up
  unfoldable pub search : ℕ → ℕ → Board → List Guess → Run → Left
  search zero d b gs s = left not_dead b (note (met s d) s)
  search (suc r) d b gs s = elim (met s d) [
    | suc m ↦ left not_dead b (note (suc m) s)
    | zero ↦ node_from (try_guess (λ e hs t. search r (suc d) e hs t) (suc d)) d b gs (deeper d s)
  ]

  -- ## The whole run

  -- M1: a board solved before the search passes the final check, or the run is a dead end
  abbrev pub checked : Board → Outcome
  checked b = elim (check z b) [ true ↦ solved_as b | false ↦ dead_end fresh ]

  -- after the first run of probing; steps are zero when the search at depth 0 begins
  abbrev pub begun : Probed → Outcome
  begun (contradiction s) = dead_end fresh
  begun (probed b ns s) = elim (solved b) [
    | true ↦ checked b
    | false ↦ answered (search (suc most_depth) 0 b (choose b ns) fresh)
  ]

  unfoldable pub whole_run : Board → Outcome
  whole_run b = elim (solved b) [ true ↦ checked b | false ↦ begun (probe z b (start_queue z b) fresh) ]
