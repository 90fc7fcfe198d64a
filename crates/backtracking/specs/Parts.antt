-- The parts of a guess and of a node, as the code has them. `proofs/Parts.antt` shows that they make up the rules' guess and the rules' steps.
use Rattle.std.specs.Prelude.{Bool, true, false, ◌||◌, List, ◌∷◌, ℕ, zero, suc}
use Rattle.std.proofs.Math.Option.{Option, none, some}
use Rattle.rules.specs.Loops.{Turn, more, stop}
use Rattle.rules.specs.Sets.{Colour, has, single, empty, colours}
use Rattle.rules.specs.Boards.{Board, Cell, at, put, remove, solved, newly, Puzzle}
use Rattle.rules.specs.Propagation.{propagate, check}
use Rattle.rules.specs.Probing.{guessed, Run, event, CellQueue, start_queue, push_both, Notes, Probed, contradiction, probed, probe}
use Rattle.rules.specs.Guesses.{Guess, guess, choose}
use Rattle.rules.specs.Search.{Limits, End, dead, not_dead, Left, left, Tried, tried, Node, node, Spent, spent, Pass, over, note, store, met, others, any_closed, first_unsolved}

-- ## A guess: its colour is set, then it is probed, then the search goes one deeper

-- dead, or it goes on with something
pub data Went (A : Type 0) : Type 0 where
  died : Run → Went A
  went : A → Run → Went A

module _ (z : Puzzle) where
  -- a solved board is stored, its final check passed; one that fails it is dead
  abbrev pub checked_in : {A : Type 0} → Board → A → Run → Went A
  checked_in b a s = elim (check z b) [ true ↦ went a (store b s) | false ↦ died s ]

  abbrev pub kept : {A : Type 0} → Board → A → Run → Went A
  kept b a s = elim (solved b) [ true ↦ checked_in b a s | false ↦ went a s ]

  -- the colour is set, on board a, and propagated
  abbrev pub after_set : Board → Cell → CellQueue → Run → Option Board → Went (Board × CellQueue)
  after_set a c q s none = died s
  after_set a c q s (some b) = kept b (b, push_both z b c (newly a b) q) s

  -- the starting queue is taken, the colour set and propagated, a solved board stored, neighbours pushed
  unfoldable pub set_guess : Board → Cell → Colour → Run → Went (Board × CellQueue)
  set_guess b c x s = after_set (put b c x) c (start_queue z b) (event (guessed c x) s) (propagate z (put b c x) c)

  abbrev pub after_probe : Probed → Went (Board × Notes)
  after_probe (contradiction s) = died s
  after_probe (probed b ns s) = kept b (b, ns) s

  -- the probing inside the guess, M2 with it
  unfoldable pub probe_guess : Board → CellQueue → Run → Went (Board × Notes)
  probe_guess b q s = after_probe (probe z b q s)

-- a guess before the search one deeper: it has ended, or the search goes on from a board and its chosen guesses
pub data Entered : Type 0 where
  ended_as : Tried → Entered
  deeper_from : Board → List Guess → Run → Entered

module _ (z : Puzzle) (l : Limits) (d : ℕ) where
  -- after the probing limits are asked, and a solved board ends the guess
  abbrev pub after_probing : Went (Board × Notes) → Entered
  after_probing (died s) = ended_as (tried dead s)
  after_probing (went p s) = elim (met z l s d) [
    | suc m ↦ ended_as (tried not_dead (note (suc m) s))
    | zero ↦ elim (solved p.0) [ true ↦ ended_as (tried not_dead s) | false ↦ deeper_from p.0 (choose p.0 p.1) s ]
  ]

  -- after the colour is set limits are asked, and then it is probed
  abbrev pub after_setting : Went (Board × CellQueue) → Entered
  after_setting (died s) = ended_as (tried dead s)
  after_setting (went p s) = elim (met z l s d) [ suc m ↦ ended_as (tried not_dead (note (suc m) s)) | zero ↦ after_probing (probe_guess z p.0 p.1 s) ]

  abbrev pub enter_guess : Board → Cell → Colour → Run → Entered
  enter_guess b c x s = after_setting (set_guess z b c x s)

-- whether an end is dead
abbrev pub is_dead : End → Bool
is_dead dead = true
is_dead not_dead = false

-- ## A node: what comes before and after each guess, and when guesses have run out

-- a node's own probing ends it, or it goes on
pub data Own : Type 0 where
  ends : End → Board → Run → Own
  goes : Board → Run → Own

abbrev pub own_of : Puzzle → Board → Probed → Own
own_of z b (contradiction s) = ends dead b s
own_of z b (probed a ns s) = elim (solved a) [ true ↦ elim (check z a) [ true ↦ ends not_dead a (store a s) | false ↦ ends dead a s ] | false ↦ goes a s ]

unfoldable pub own_probing : Puzzle → Board → Run → Own
own_probing z b s = own_of z b (probe z b (start_queue z b) s)

-- the node after its own probing; `next` gives the guesses that wait then
abbrev pub after_own : (Board → List Guess) → List Guess → Own → Turn Node Pass
after_own next made (ends e b s) = stop (over (left e b s))
after_own next made (goes b s) = more (node b (next b) true made s)

-- before a guess is tried: the node has turned, or the guess is to be tried
pub data Before : Type 0 where
  turned : Turn Node Pass → Before
  tries : Cell → Colour → Node → Before

abbrev pub lone_guess : Puzzle → Board → List Guess → Bool → List Guess → Run → Turn Node Pass
lone_guess z b gs true made s = more (node b gs true made s)
lone_guess z b gs false made s = after_own (λ a. gs) made (own_probing z b s)

module _ (z : Puzzle) (l : Limits) (d : ℕ) where
  abbrev pub before : Board → Cell → Colour → List Guess → Bool → List Guess → Run → Before
  before b c x gs p made s = elim (met z l s d) [
    | suc m ↦ turned (stop (over (left not_dead b (note (suc m) s))))
    | zero ↦ elim (has (at b c) x) [
      | false ↦ turned (more (node b gs p made s))
      | true ↦ elim (single (at b c)) [ true ↦ turned (lone_guess z b gs p made s) | false ↦ tries c x (node b gs p made s) ]
    ]
  ]

  -- M3: the node ends, or has new guesses
  abbrev pub refilled : Spent → Turn Node Left
  refilled (spent b p made s) = elim (met z l s d) [
    | suc m ↦ stop (left not_dead b (note (suc m) s))
    | zero ↦ elim (solved b || any_closed b made) [ true ↦ stop (left not_dead b s) | false ↦ more (node b (first_unsolved b) p made s) ]
  ]

-- after a guess, its end and the run given
abbrev pub after : Puzzle → Board → Cell → Colour → List Guess → Bool → List Guess → End → Run → Turn Node Pass
after z b c x gs p made not_dead s = more (node b gs p (guess c x ∷ made) s)
after z b c x gs p made dead s = elim (empty (at (remove b c x) c)) [
  | true ↦ stop (over (left dead (remove b c x) s))
  | false ↦ after_own (λ e. others c x (colours (at e c)) gs) made (own_probing z (remove b c x) s)
]
