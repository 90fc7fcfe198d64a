-- What holds throughout a search, and what the code's values stand for.
use Rattle.std.specs.Prelude.{◌≡◌, Bool, true, List, [], ℕ, ◌*◌, ◌≤◌, length, Option, None, Some}
use Rattle.std.specs.declared.ops.ControlFlow.{ControlFlow}
use Rattle.std.specs.declared.ops.ControlFlow.TheVariants.{Continue, Break}
use Rattle.rules.specs.Loops.{Turn, more, stop}
use Rattle.rules.specs.Boards as Rules
use Rattle.rules.specs.Boards.{Puzzle}
use Rattle.rules.specs.Probing.{Run}
use Rattle.rules.specs.Guesses as Choosing
use Rattle.rules.specs.Answers.{most_colours, most_waiting}
use Rattle.rules.specs.Search as Search
use Rattle.rules.specs.Search.{Left, left, Tried, tried, node, Spent, spent, Pass, over, ran_out}
use Rattle.rules.proofs.Fitting as Fitting
use Rattle.rules.proofs.Room as Room
use Rattle.lines.specs.declared.machine.Machine.{Machine}
use Rattle.boards.specs.declared.board.Board.{Board}
use Rattle.boards.specs.Board.{board_of, Sized, SameSize}
use Rattle.runs.specs.declared.limits.Limits.{Limits}
use Rattle.runs.specs.declared.limits.Stats.{Stats}
use Rattle.runs.specs.Matches.{Matches}
use Rattle.guesses.specs.declared.waiting.Guess.{Guess}
use Rattle.guesses.specs.declared.waiting.Guesses.{Guesses}
use Rattle.guesses.specs.Waiting.{Waiting}
use Rattle.guesses.specs.Made.{Made}
use Rattle.boards.specs.Table.{Table, Playable}
use Rattle.backtracking.specs.Parts.{Went, died, went, Entered, ended_as, deeper_from, Own, ends, goes, Before, turned, tries, is_dead}
use Rattle.backtracking.specs.declared.ended.Ended.{Ended}
use Rattle.backtracking.specs.declared.node.Node.{Node}

-- the table is that of a puzzle, the limits are legal, and the list has room for the most grids, of which at most so many are stored
pub record Ready (b : Board) (machines : List Machine) (list : List ℕ) (l : Limits) (s : Stats) : Type 0 where
  pub sized : Sized b
  pub table : Playable b.w b.h machines
  pub grids : l.grids ≤ 128
  pub depth : l.depth ≤ 15
  pub budget : l.budget ≤ 1_000_000_000
  pub room : l.grids * (b.w * b.h) ≤ length list
  pub few : s.grids ≤ l.grids

-- what no code holds: a puzzle that the table is of, and the list as it was lent
pub record Setting (w h : ℕ) (machines : List Machine) : Type 0 where
  pub puzzle : Puzzle
  pub table : Table puzzle w h machines
  pub lent : List ℕ

module _ {w h : ℕ} {machines : List Machine} (g : Setting w h machines) where
  -- the counts s and the list are those of the run t
  abbrev pub RunIs : Stats → List ℕ → Run → Type 0
  RunIs s list t = Matches (w * h) g.lent s list t

  -- a board on which the search may go on: each cell has some of the colours
  abbrev pub Fine : Rules.Board → Type 0
  Fine b = Fitting.Playable g.puzzle most_colours b

  -- guesses that have room
  abbrev pub Few : List Choosing.Guess → Type 0
  Few gs = Room.Waiting most_colours (w * h) gs

  -- how a node or a guess ended
  abbrev pub LeftTo : Ended → List ℕ → Left → Type 0
  LeftTo r list (left e a t) = (r.dead ≡ is_dead e) × (board_of r.board ≡ a) × RunIs r.stats list t

  abbrev pub TriedTo : Ended → List ℕ → Tried → Type 0
  TriedTo r list (tried e t) = (r.dead ≡ is_dead e) × RunIs r.stats list t

  -- what storing a board comes to
  abbrev pub KeptTo : Stats → Option Stats → List ℕ → Went (Unit {0}) → Type 0
  KeptTo s None list (died t) = RunIs s list t
  KeptTo s (Some r) list (went a t) = RunIs r list t
  KeptTo s r list _ = ⊥

  -- what a part of a guess comes to
  abbrev pub WentTo : {X A : Type 0} → (Board → X → A → Type 0) → ControlFlow Ended (Board × X × Stats) → List ℕ → Went A → Type 0
  WentTo Is (Break r) list (died t) = (r.dead ≡ true) × RunIs r.stats list t
  WentTo Is (Continue r) list (went a t) = Is r.0 r.1 a × RunIs r.2 list t
  WentTo Is r list _ = ⊥

  -- what a guess comes to before the search one deeper
  abbrev pub EnteredTo : ControlFlow Ended (Board × Guesses × Stats) → List ℕ → Entered → Type 0
  EnteredTo (Break r) list (ended_as e) = TriedTo r list e
  EnteredTo (Continue r) list (deeper_from b gs t) = (board_of r.0 ≡ b) × Waiting gs r.1 × RunIs r.2 list t
  EnteredTo r list _ = ⊥

  -- a node by value
  pub record Stands (t : Node) (list : List ℕ) (b : Rules.Board) (gs : List Choosing.Guess) (p : Bool) (those : List Choosing.Guess) (s : Run) : Type 0 where
    pub board : board_of t.board ≡ b
    pub waiting : Waiting gs t.guesses
    pub probed : t.probed ≡ p
    pub made : Made t.made those
    pub run : RunIs t.stats list s

  abbrev pub NodeIs : Node → List ℕ → Search.Node → Type 0
  NodeIs t list (node b gs p made s) = Stands t list b gs p made s

  abbrev pub SpentIs : Node → List ℕ → Spent → Type 0
  SpentIs t list (spent b p made s) = Stands t list b [] p made s

  abbrev pub NodeFine : Search.Node → Type 0
  NodeFine (node b gs p made s) = Fine b × Few gs

  abbrev pub SpentFine : Spent → Type 0
  SpentFine (spent b p made s) = Fine b

  -- what a node's own probing comes to
  abbrev pub OwnTo : ControlFlow Ended (Board × Stats) → List ℕ → Own → Type 0
  OwnTo (Break r) list (ends e b t) = LeftTo r list (left e b t)
  OwnTo (Continue r) list (goes b t) = (board_of r.0 ≡ b) × RunIs r.1 list t
  OwnTo r list _ = ⊥

  -- a step of a pass
  abbrev pub TurnTo : ControlFlow Ended Node → List ℕ → Turn Search.Node Pass → Type 0
  TurnTo (Continue t) list (more n) = NodeIs t list n
  TurnTo (Break r) list (stop (over e)) = LeftTo r list e
  TurnTo u list _ = ⊥

  -- what comes before a guess
  abbrev pub BeforeTo : ControlFlow Ended (Node × Option Guess) → List ℕ → Before → Type 0
  BeforeTo (Break r) list (turned u) = TurnTo (Break r) list u
  BeforeTo (Continue (t, None)) list (turned u) = TurnTo (Continue t) list u
  BeforeTo (Continue (t, Some g)) list (tries c x n) = (g.cell.0 ≡ c) × (g.colour.0 ≡ x) × NodeIs t list n
  BeforeTo r list _ = ⊥

  abbrev pub PassTo : ControlFlow Ended Node → List ℕ → Pass → Type 0
  PassTo (Break r) list (over e) = LeftTo r list e
  PassTo (Continue t) list (ran_out u) = SpentIs t list u
  PassTo r list _ = ⊥

  -- M3's step
  abbrev pub RefillTo : ControlFlow Ended Node → List ℕ → Turn Search.Node Left → Type 0
  RefillTo (Continue t) list (more n) = NodeIs t list n
  RefillTo (Break r) list (stop e) = LeftTo r list e
  RefillTo u list _ = ⊥

-- ## What stays as it is

-- a board of the size of b, and no more grids stored than asked for
pub record Within (b : Board) (l : Limits) (a : Board) (s : Stats) : Type 0 where
  pub size : SameSize b a
  pub few : s.grids ≤ l.grids

-- the same of a node, and its guesses are within their room
pub record NodeWithin (b : Board) (l : Limits) (t : Node) : Type 0 where
  pub size : SameSize b t.board
  pub few : t.stats.grids ≤ l.grids
  pub within : t.guesses.head ≤ most_waiting

-- the same of what has ended, or goes on with something
abbrev pub EndWithin : {A : Type 0} → Board → Limits → (A → Type 0) → ControlFlow Ended A → Type 0
EndWithin b l P (Break r) = Within b l r.board r.stats
EndWithin b l P (Continue a) = P a
