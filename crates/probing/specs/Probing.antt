-- What assuming colours, and runs of probing, come to on a board by value.
use Rattle.std.specs.Prelude.{◌≡◌, true, false, Option, None, Some, IfSome, List, ℕ, ◌+◌, ◌*◌, ◌^◌, ◌≤◌, ◌<◌, length, set}
use Rattle.std.proofs.Math.Option.{Option as Maybe, none, some}
use Rattle.rules.specs.Sets.{Colour, colours, empty}
use Rattle.rules.specs.Boards as Boards
use Rattle.rules.specs.Boards.{Cell, at, remove_all, newly, Puzzle}
use Rattle.rules.specs.Propagation.{propagate}
use Rattle.rules.specs.Probing as Rules
use Rattle.rules.specs.Probing.{CellQueue, Run, steps, contradiction, probed, contradicting, solving, outcomes, push_both, probe}
use Rattle.cells.specs.Sets.{including}
use Rattle.lines.specs.declared.machine.Machine.{Machine}
use Rattle.boards.specs.declared.board.Board.{Board}
use Rattle.boards.specs.Board.{board_of, SameSize}
use Rattle.boards.specs.Table.{Table}
use Rattle.queues.specs.declared.Queue.{Queue}
use Rattle.queues.specs.Entries.{queue_of}
use Rattle.notes.specs.declared.round.Notes.{Notes}
use Rattle.notes.specs.Round.{each_of, notes_of}
use Rattle.probing.specs.declared.probe.Impact.{Impact}
use Rattle.probing.specs.declared.rounds.Probed.{Probed}

-- ## Assuming colours

-- one colour more is assumed, with what that comes to: how many cells it newly solves, or none at a contradiction
abbrev pub with_outcome : Colour → Maybe ℕ → Impact → Impact
with_outcome x none r = record r { bad = including r.bad x; steps = r.steps + 1 }
with_outcome x (some n) r = record r { counts = set r.counts x n; steps = r.steps + 1 }

-- what assuming every colour of a cell comes to, whatever puzzle the table is of
pub record Impacts (b : Board) (c : Cell) (machines : List Machine) (r : Impact) : Type 0 where
  pub low : r.bad < 256
  pub steps : r.steps ≡ length (colours (at (board_of b) c))
  pub bad : (z : Puzzle) → Table z b.w b.h machines → contradicting (outcomes z (board_of b) c) ≡ colours r.bad
  pub good : (z : Puzzle) → Table z b.w b.h machines → r.bad ≡ 0 → solving (outcomes z (board_of b) c) ≡ each_of (at (board_of b) c) r.counts

-- ## Propagating, with neighbours pushed

-- a cell is propagated, and neighbours are pushed: the board and the queue, or none at a contradiction
unfoldable pub propagate_point : Puzzle → Boards.Board → Cell → CellQueue → Maybe (Boards.Board × CellQueue)
propagate_point z b c q = elim (propagate z b c) [ none ↦ none | some a ↦ some (a, push_both z a c (newly b a) q) ]

-- the contradicting colours xs are removed first; removing the last colour is a contradiction
unfoldable pub cut_colours : Puzzle → Boards.Board → Cell → List Colour → CellQueue → Maybe (Boards.Board × CellQueue)
cut_colours z b c xs q = let a = remove_all b c xs in elim (empty (at a c)) [ true ↦ none | false ↦ propagate_point z a c q ]

-- a contradiction, or the board and the queue at the end
abbrev pub PushedTo : Option (Board × Queue) → Maybe (Boards.Board × CellQueue) → Type 0
PushedTo None end = end ≡ none
PushedTo (Some e) end = end ≡ some (board_of e.0, queue_of e.1)

-- from the board b and the queue q, whatever puzzle the table is of
pub record Pushes (b : Board) (q : Queue) (machines : List Machine) (gives : Puzzle → Maybe (Boards.Board × CellQueue)) (r : Option (Board × Queue)) : Type 0 where
  pub size : IfSome r (λ e. SameSize b e.0)
  pub room : IfSome r (λ e. e.1.n ≡ q.n)
  pub to : (z : Puzzle) → Table z b.w b.h machines → PushedTo r (gives z)

-- ## Runs of probing

-- a contradiction, or the board and the notes; and then n steps
abbrev pub ProbedTo : Option (Board × Notes) → ℕ → Rules.Probed → Type 0
ProbedTo None n p = (t : Run) × (p ≡ contradiction t) × (steps t ≡ n)
ProbedTo (Some e) n p = (t : Run) × (p ≡ probed (board_of e.0) (notes_of e.1) t) × (steps t ≡ n)

-- a run of probing on the board b with the queue q, whatever puzzle the table is of, and whatever was done before: as many steps more as colours were assumed
pub record Probes (b : Board) (q : Puzzle → CellQueue) (machines : List Machine) (r : Probed) : Type 0 where
  pub size : IfSome r.end (λ e. SameSize b e.0)
  pub notes : IfSome r.end (λ e. e.1.n ≡ b.w * b.h)
  pub few : r.steps ≤ 2 ^ 28
  pub to : (z : Puzzle) → Table z b.w b.h machines → (s : Run) → ProbedTo r.end (steps s + r.steps) (probe z (board_of b) (q z) s)
