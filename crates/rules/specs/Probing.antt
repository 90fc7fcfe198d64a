-- The queue of cells, and probing: what comes of assuming each colour of a cell.
use Rattle.std.specs.Prelude.{true, false, List, [], ◌∷◌, map, ℕ, suc, ◌+◌, ◌*◌, length, set, replicate, Float}
use Rattle.std.proofs.Math.Option.{Option, none, some}
use Rattle.rules.specs.Loops.{Turn, more, stop, run}
use Rattle.rules.specs.Sets.{Colour, colours, single, empty}
use Rattle.rules.specs.Queues.{Queue, push, waiting, pop}
use Rattle.rules.specs.Boards.{Board, Cell, at, cells, put, remove_all, solved, size, newly, Puzzle, around}
use Rattle.rules.specs.Propagation.{propagate}
use Rattle.rules.specs.Floats.{float, higher, priority}

-- ## What a run has done so far

-- a step is one colour assumed in probing, or one guess
pub data Event : Type 0 where
  assumed : Cell → Colour → Event
  guessed : Cell → Colour → Event

pub record Run : Type 0 where
  pub stored : List Board  -- grids, in the order in which they were stored
  pub events : List Event  -- the newest first
  pub deepest : ℕ
  pub limit : ℕ  -- the first limit met: 0 none, 1 grids, 2 steps, 3 depth

abbrev pub steps : Run → ℕ
steps s = length s.events

abbrev pub event : Event → Run → Run
event e s = record { stored = s.stored; events = e ∷ s.events; deepest = s.deepest; limit = s.limit }

-- ## The queue of cells: the highest priority first; on a tie the lower row, then the lower column, which is the lower cell number

abbrev pub CellQueue : Type 0
CellQueue = Queue Float

unfoldable pub push_all : List Cell → Float → CellQueue → CellQueue
push_all [] p q = q
push_all (c ∷ cs) p q = push_all cs p (push c p q)

-- ## Probing

-- a round's notes: for each cell that was popped how many cells each of its colours newly solves, and nothing for the others
abbrev pub Notes : Type 0
Notes = List (Option (List (Colour × ℕ)))

abbrev pub no_notes : Board → Notes
no_notes b = replicate (length b) none

-- a round between two cells: the board, the queue, the round's notes, the run
pub data Probing : Type 0 where
  probing : Board → CellQueue → Notes → Run → Probing

-- the end of a run of probing: a contradiction; or the board, and the last round's notes
pub data Probed : Type 0 where
  contradiction : Run → Probed
  probed : Board → Notes → Run → Probed

-- the colours that contradict
abbrev pub contradicting : List (Colour × Option ℕ) → List Colour
contradicting [] = []
contradicting (o ∷ os) = elim o.1 [ none ↦ o.0 ∷ contradicting os | some n ↦ contradicting os ]

-- the other colours, each with the number of cells that it newly solves
abbrev pub solving : List (Colour × Option ℕ) → List (Colour × ℕ)
solving [] = []
solving (o ∷ os) = elim o.1 [ none ↦ solving os | some n ↦ (o.0, n) ∷ solving os ]

-- each colour assumed is a step
unfoldable pub assumed_all : Cell → List Colour → Run → Run
assumed_all c [] s = s
assumed_all c (x ∷ xs) s = assumed_all c xs (event (assumed c x) s)

-- a new round starts with no notes; it stops if the board is solved
abbrev pub new_round : Board → CellQueue → Run → Turn Probing Probed
new_round b q s = elim (solved b) [ true ↦ stop (probed b (no_notes b) s) | false ↦ more (probing b q (no_notes b) s) ]

-- a step takes a cell from the queue, or a colour from the board
abbrev pub probe_measure : Probing → ℕ
probe_measure (probing b q ns s) = size b * suc (length q) + waiting q

abbrev pub probe_unended : Probing → Probed
probe_unended (probing b q ns s) = contradiction s

module _ (z : Puzzle) where
  -- the starting queue: all unsolved cells, each with its priority
  unfoldable pub start_queue : Board → CellQueue
  start_queue b = map (λ c. elim (single (at b c)) as (λ _. Option Float) [ true ↦ none | false ↦ some (priority z b c) ]) (cells b)

  -- the unsolved neighbours of some cells are pushed
  unfoldable pub push_around : Board → List Cell → Float → CellQueue → CellQueue
  push_around b [] p q = q
  push_around b (c ∷ cs) p q = push_around b cs p (push_all (around z b c) p q)

  -- unsolved neighbours of newly solved cells are pushed with 10.0, then unsolved neighbours of the cell with 20.0
  abbrev pub push_both : Board → Cell → List Cell → CellQueue → CellQueue
  push_both b c new q = push_around b (c ∷ []) (float 20) (push_around b new (float 10) q)

  -- a colour assumed: set it, propagate; how many cells are newly solved, or none at a contradiction. The board that it is assumed on stays as it is.
  abbrev pub assume : Board → Cell → Colour → Option ℕ
  assume b c x = let a = put b c x in elim (propagate z a c) [ none ↦ none | some e ↦ some (length (newly a e)) ]

  -- every colour of a cell's set assumed in turn, ascending
  unfoldable pub outcomes : Board → Cell → List (Colour × Option ℕ)
  outcomes b c = map (λ x. (x, assume b c x)) (colours (at b c))

  -- the contradicting colours are gone, and the board b without them was propagated: a contradiction ends the run, otherwise neighbours are pushed for a new round
  abbrev pub cut : Board → Cell → CellQueue → Run → Option Board → Turn Probing Probed
  cut b c q s none = stop (contradiction s)
  cut b c q s (some a) = new_round a (push_both a c (newly b a) q) s

  -- a popped cell: with no contradicting colour it is noted; otherwise these are removed, ascending, and the round's notes are dropped
  abbrev pub judge : Board → Cell → CellQueue → Notes → Run → List (Colour × ℕ) → List Colour → Turn Probing Probed
  judge b c q ns s good [] = more (probing b q (set ns c (some good)) s)
  judge b c q ns s good (x ∷ xs) = let a = remove_all b c (x ∷ xs) in
      elim (empty (at a c)) [ true ↦ stop (contradiction s) | false ↦ cut a c q s (propagate z a c) ]

  abbrev pub probe_cell : Board → Cell → CellQueue → Notes → Run → Turn Probing Probed
  probe_cell b c q ns s = let os = outcomes b c in judge b c q ns (assumed_all c (colours (at b c)) s) (solving os) (contradicting os)

  -- cells are popped till the queue is empty; a round that empties the queue ends the run with its notes
  abbrev pub probe_step : Probing → Turn Probing Probed
  probe_step (probing b q ns s) = elim (pop higher q) [ none ↦ stop (probed b ns s) | some e ↦ probe_cell b e.0 e.1 ns s ]

  -- a run of probing, from within a round
  unfoldable pub probe_on : Probing → Probed
  probe_on = run probe_step probe_measure probe_unended

  -- a run of probing
  unfoldable pub probe : Board → CellQueue → Run → Probed
  probe b q s = elim (new_round b q s) [ stop r ↦ r | more t ↦ probe_on t ]
