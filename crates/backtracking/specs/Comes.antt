-- What the functions of this crate come to.
use Rattle.std.specs.Prelude.{◌≡◌, Bool, true, false, List, ◌∷◌, ℕ, ◌+◌, ◌-◌, ◌*◌, ◌≤◌, ◌<◌, Option, None, Some, IfSome}
use Rattle.std.specs.declared.ops.ControlFlow.{ControlFlow}
use Rattle.std.specs.declared.ops.ControlFlow.TheVariants.{Continue, Break}
use Rattle.rules.specs.Sets.{has}
use Rattle.rules.specs.Boards as Rules
use Rattle.rules.specs.Boards.{Puzzle, at}
use Rattle.rules.specs.Probing.{Run, CellQueue}
use Rattle.rules.specs.Guesses as Choosing
use Rattle.rules.specs.Search as Search
use Rattle.rules.specs.Search.{Tried, Spent, End, dead, pass_step, pass, try_guess, search}
use Rattle.rules.specs.Answers.{most_waiting}
use Rattle.lines.specs.declared.machine.Machine.{Machine}
use Rattle.boards.specs.declared.board.Board.{Board}
use Rattle.boards.specs.Board.{board_of}
use Rattle.queues.specs.declared.Queue.{Queue}
use Rattle.queues.specs.Entries.{Holds}
use Rattle.runs.specs.declared.limits.Limit.{Limit}
use Rattle.runs.specs.declared.limits.Limits.{Limits as Given}
use Rattle.runs.specs.declared.limits.Stats.{Stats}
use Rattle.runs.specs.Stats.{limit_number, limit_met, noted}
use Rattle.runs.specs.Matches.{limits_of}
use Rattle.guesses.specs.declared.waiting.Guess.{Guess}
use Rattle.guesses.specs.declared.waiting.Guesses.{Guesses}
use Rattle.guesses.specs.Waiting.{Waiting}
use Rattle.notes.specs.declared.round.Notes.{Notes}
use Rattle.notes.specs.Round.{notes_of}
use Rattle.backtracking.specs.Parts.{Went, set_guess, probe_guess, enter_guess, is_dead, own_probing, before, refilled, after}
use Rattle.backtracking.specs.Setting.{Setting, RunIs, Fine, Few, LeftTo, TriedTo, KeptTo, WentTo, EnteredTo, Stands, NodeIs, SpentIs, NodeFine, SpentFine, OwnTo, TurnTo, BeforeTo, PassTo, RefillTo, Within, NodeWithin, EndWithin}
use Rattle.backtracking.specs.declared.ended.Ended.{Ended}
use Rattle.backtracking.specs.declared.node.Node.{Node}

-- Limits are asked of a board and its counts: none is met, or one is, and is noted.
abbrev pub Asked : Board → Stats → Given → ℕ → ControlFlow Ended (Unit {0}) → Type 0
Asked b s l d (Continue u) = limit_met s l d ≡ None
Asked b s l d (Break r) = (m : Limit) × (limit_met s l d ≡ Some m) × (r ≡ record { dead = false; board = b; stats = noted (limit_number (Some m)) s })

pub record Asks (b : Board) (s : Stats) (l : Given) (d : ℕ) (r : ControlFlow Ended (Unit {0})) : Type 0 where
  pub is : Asked b s l d r

-- A board was stored as the part says, if a grid more has room.
pub record Stores (b : Board) (machines : List Machine) (list : List ℕ) (l : Given) (s : Stats) (r : Option Stats) (out : List ℕ) (part : Puzzle → Rules.Board → Unit {0} → Run → Went (Unit {0})) : Type 0 where
  pub few : IfSome r (λ v. v.grids ≤ l.grids)
  pub to : (g : Setting b.w b.h machines) (t : Run) → RunIs g s list t → s.grids < l.grids → KeptTo g s r out (part g.puzzle (board_of b) tt t)

-- A guess's colour is set.
pub record SetsGuess (b : Board) (c x : ℕ) (machines : List Machine) (list : List ℕ) (l : Given) (s : Stats) (r : ControlFlow Ended (Board × Queue × Stats)) (out : List ℕ) : Type 0 where
  pub within : EndWithin b l (λ v. Within b l v.0 v.2 × (v.1.n ≡ b.w * b.h)) r
  pub to : (g : Setting b.w b.h machines) (t : Run) → RunIs g s list t → s.grids < l.grids →
      WentTo g (λ a q p. (board_of a ≡ p.0) × Holds (b.w * b.h) p.1 q) r out (set_guess g.puzzle (board_of b) c x t)

-- A guess is probed.
pub record ProbesGuess (b : Board) (q : CellQueue) (machines : List Machine) (list : List ℕ) (l : Given) (s : Stats) (r : ControlFlow Ended (Board × Notes × Stats)) (out : List ℕ) : Type 0 where
  pub within : EndWithin b l (λ v. Within b l v.0 v.2 × (v.1.n ≡ b.w * b.h)) r
  pub to : (g : Setting b.w b.h machines) (t : Run) → RunIs g s list t → s.grids < l.grids →
      WentTo g (λ a ns p. (board_of a ≡ p.0) × (notes_of ns ≡ p.1)) r out (probe_guess g.puzzle (board_of b) q t)

-- A guess comes as far as the search one deeper.
pub record Enters (b : Board) (c x : ℕ) (machines : List Machine) (list : List ℕ) (l : Given) (d : ℕ) (s : Stats) (r : ControlFlow Ended (Board × Guesses × Stats)) (out : List ℕ) : Type 0 where
  pub within : EndWithin b l (λ v. Within b l v.0 v.2 × (v.1.head ≤ most_waiting)) r
  pub to : (g : Setting b.w b.h machines) (t : Run) → RunIs g s list t → Fine g (board_of b) → has (at (board_of b) c) x ≡ true → EnteredTo g r out (enter_guess g.puzzle (limits_of l) d (board_of b) c x t)

-- A node's own probing.
pub record ProbesNode (b : Board) (machines : List Machine) (list : List ℕ) (l : Given) (s : Stats) (r : ControlFlow Ended (Board × Stats)) (out : List ℕ) : Type 0 where
  pub within : EndWithin b l (λ v. Within b l v.0 v.1) r
  pub to : (g : Setting b.w b.h machines) (t : Run) → RunIs g s list t → s.grids < l.grids → OwnTo g r out (own_probing g.puzzle (board_of b) t)

-- What holds of a guess that is to be tried: nothing has changed but the guesses that wait, and no limit is met.
pub record ToTry (t : Node) (list : List ℕ) (l : Given) (n : Node) (g : Guess) (out : List ℕ) : Type 0 where
  pub board : n.board ≡ t.board
  pub stats : n.stats ≡ t.stats
  pub untouched : out ≡ list
  pub cell : g.cell.0 < t.board.w * t.board.h
  pub colour : g.colour.0 < 8
  pub grids : t.stats.grids < l.grids
  pub steps : t.stats.steps < l.budget

-- A step of the node n that goes on, with what it gives.
abbrev pub and_node : ControlFlow Ended (Option Guess) → Node → ControlFlow Ended (Node × Option Guess)
and_node (Continue g) n = Continue (n, g)
and_node (Break r) n = Break r

abbrev pub then_node : ControlFlow Ended (Unit {0}) → Node → ControlFlow Ended Node
then_node (Continue u) n = Continue n
then_node (Break r) n = Break r

-- What comes before a guess.
pub record Begins (t : Node) (machines : List Machine) (list : List ℕ) (l : Given) (d : ℕ) (r : ControlFlow Ended (Node × Option Guess)) (out : List ℕ) : Type 0 where
  pub within : EndWithin t.board l (λ v. NodeWithin t.board l v.0 × IfSome v.1 (λ g. ToTry t list l v.0 g out)) r
  pub to : (g : Setting t.board.w t.board.h machines) (b : Rules.Board) (c x : ℕ) (gs : List Choosing.Guess) (p : Bool) (made : List Choosing.Guess) (s : Run) →
      Stands g t list b (Choosing.guess c x ∷ gs) p made s → BeforeTo g r out (before g.puzzle (limits_of l) d b c x gs p made s)

-- What comes after a guess, t having its counts.
pub record Ends (t : Node) (c x : ℕ) (isdead : Bool) (machines : List Machine) (list : List ℕ) (l : Given) (r : ControlFlow Ended Node) (out : List ℕ) : Type 0 where
  pub within : EndWithin t.board l (NodeWithin t.board l) r
  pub to : (g : Setting t.board.w t.board.h machines) (b : Rules.Board) (gs : List Choosing.Guess) (p : Bool) (made : List Choosing.Guess) (s : Run) (e : End) →
      Stands g t list b gs p made s → isdead ≡ is_dead e → Fine g b → Few g gs → has (at b c) x ≡ true → (e ≡ dead → t.stats.grids < l.grids) →
      TurnTo g r out (after g.puzzle b c x gs p made e s)

-- M3.
pub record Refills (t : Node) (machines : List Machine) (list : List ℕ) (l : Given) (d : ℕ) (r : ControlFlow Ended Node) : Type 0 where
  pub within : EndWithin t.board l (NodeWithin t.board l) r
  pub to : (g : Setting t.board.w t.board.h machines) (u : Spent) → SpentIs g t list u → SpentFine g u → RefillTo g r list (refilled g.puzzle (limits_of l) d u)

-- ## The search, `left` being how much deeper it may go

abbrev pub depth_of : Given → ℕ → ℕ
depth_of l left = l.depth + 1 - left

-- a guess made where the search may go so much deeper afterwards
abbrev pub try_at : Puzzle → Given → ℕ → Rules.Board → ℕ → ℕ → Run → Tried
try_at z l left = try_guess z (limits_of l) (λ e hs t. search z (limits_of l) left (depth_of l left) e hs t) (depth_of l left)

-- a node, a search and a guess of the rules that the code's stand for
pub record NodeStands (t : Node) (machines : List Machine) (list : List ℕ) : Type 0 where
  pub setting : Setting t.board.w t.board.h machines
  pub node : Search.Node
  pub is : NodeIs setting t list node
  pub fine : NodeFine setting node

pub record SearchStands (b : Board) (waiting : Guesses) (machines : List Machine) (list : List ℕ) (s : Stats) : Type 0 where
  pub setting : Setting b.w b.h machines
  pub guesses : List Choosing.Guess
  pub run : Run
  pub is : RunIs setting s list run
  pub fine : Fine setting (board_of b)
  pub wait : Waiting guesses waiting
  pub few : Few setting guesses

pub record GuessStands (b : Board) (c x : ℕ) (machines : List Machine) (list : List ℕ) (s : Stats) : Type 0 where
  pub setting : Setting b.w b.h machines
  pub run : Run
  pub is : RunIs setting s list run
  pub fine : Fine setting (board_of b)
  pub has_colour : has (at (board_of b) c) x ≡ true

pub record Searches (b : Board) (waiting : Guesses) (machines : List Machine) (list : List ℕ) (l : Given) (left : ℕ) (s : Stats) (r : Ended) (out : List ℕ) : Type 0 where
  pub within : Within b l r.board r.stats
  pub to : (g : Setting b.w b.h machines) (gs : List Choosing.Guess) (t : Run) → RunIs g s list t → Fine g (board_of b) → Waiting gs waiting → Few g gs →
      LeftTo g r out (search g.puzzle (limits_of l) left (depth_of l left) (board_of b) gs t)

pub record Passes (t : Node) (machines : List Machine) (list : List ℕ) (l : Given) (left : ℕ) (r : ControlFlow Ended Node) (out : List ℕ) : Type 0 where
  pub within : EndWithin t.board l (NodeWithin t.board l) r
  pub to : (g : Setting t.board.w t.board.h machines) (n : Search.Node) → NodeIs g t list n → NodeFine g n →
      PassTo g r out (pass g.puzzle (limits_of l) (try_at g.puzzle l (left - 1)) (depth_of l left) n)

pub record Turns (t : Node) (machines : List Machine) (list : List ℕ) (l : Given) (left : ℕ) (r : ControlFlow Ended Node) (out : List ℕ) : Type 0 where
  pub within : EndWithin t.board l (NodeWithin t.board l) r
  pub to : (g : Setting t.board.w t.board.h machines) (n : Search.Node) → NodeIs g t list n → NodeFine g n →
      TurnTo g r out (pass_step g.puzzle (limits_of l) (try_at g.puzzle l (left - 1)) (depth_of l left) n)

pub record Tries (b : Board) (c x : ℕ) (machines : List Machine) (list : List ℕ) (l : Given) (left : ℕ) (s : Stats) (r : Ended) (out : List ℕ) : Type 0 where
  pub within : Within b l r.board r.stats
  pub to : (g : Setting b.w b.h machines) (t : Run) → RunIs g s list t → Fine g (board_of b) → has (at (board_of b) c) x ≡ true →
      TriedTo g r out (try_at g.puzzle l left (board_of b) c x t)
