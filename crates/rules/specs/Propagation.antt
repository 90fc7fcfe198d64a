-- Propagating from a cell, and the final check.
use Rattle.std.specs.Prelude.{Bool, not, ◌&&◌, ◌||◌, List, [], ◌∷◌, ℕ, suc, ◌+◌, ◌*◌, length, set, eqb}
use Rattle.std.proofs.Math.Option.{Option, none, some}
use Rattle.rules.specs.Lists.{every, any, first, from}
use Rattle.rules.specs.Loops.{Turn, more, stop, run}
use Rattle.rules.specs.Sets.{has, members, set_of, lost}
use Rattle.rules.specs.Lines.{fits, reduce}
use Rattle.rules.specs.Boards.{Board, Cell, at, size, Puzzle, line_count, row_of, column_of, line_cells, line_of, clue_at, crossing}

-- a board, and the set of the lines that are pending on it
pub data Pending : Type 0 where
  pending : Board → ℕ → Pending

-- the cells get these sets, one after the other
unfoldable pub write : Board → List Cell → List ℕ → Board
write b [] sets = b
write b (c ∷ cs) [] = b
write b (c ∷ cs) (s ∷ sets) = write (set b c s) cs sets

module _ (z : Puzzle) where
  -- THE ORDER in which pending lines are taken: the lowest line number, so the lowest pending row, and where no row is pending the lowest pending column.
  -- Whether propagating comes to a contradiction, and the board if it does not, do not depend on it.
  abbrev pub next : ℕ → Option ℕ
  next p = first (has p) (from 0 (line_count z))

  -- line j is made pending: a cell that line i shares with it has lost a colour, from the board b to the board a
  abbrev pub woken : ℕ → Board → Board → ℕ → Bool
  woken i b a j = any (λ c. eqb (crossing z i c) j && lost (at b c) (at a c)) (line_cells z i)

  -- the lines pending after line i was reduced: those pending before but line i, and those made pending
  unfoldable pub pend : ℕ → Board → Board → ℕ → ℕ
  pend i b a p = set_of (line_count z) (λ j. (has p j && not (eqb j i)) || woken i b a j)

  -- line i was reduced
  abbrev pub reduced : Board → ℕ → ℕ → Option (List ℕ) → Turn Pending (Option Board)
  reduced b p i none = stop none
  reduced b p i (some sets) = let a = write b (line_cells z i) sets in more (pending a (pend i b a p))

  -- a pending line is reduced; it ends when nothing is pending, or at a contradiction
  abbrev pub propagate_step : Pending → Turn Pending (Option Board)
  propagate_step (pending b p) = elim (next p) [
    | none ↦ stop (some b)
    | some i ↦ reduced b p i (reduce (clue_at z i) (line_of z b i))
  ]

  -- a step takes a colour from the board, or leaves a line fewer pending
  abbrev pub propagate_measure : Pending → ℕ
  propagate_measure (pending b p) = size b * suc (line_count z) + length (members (line_count z) p)

  -- propagating from some pending lines: the board at the end, or none at a contradiction
  unfoldable pub propagate_on : Pending → Option Board
  propagate_on = run propagate_step propagate_measure (λ t. none)

  -- propagating from a cell starts with its row and column pending
  unfoldable pub propagate : Board → Cell → Option Board
  propagate b c = propagate_on (pending b (set_of (line_count z) (λ j. eqb j (row_of z c) || eqb j (column_of z c))))

  -- the final check: all rows and columns of a solved board meet their clues
  unfoldable pub check : Board → Bool
  check b = every (λ i. fits (clue_at z i) (line_of z b i)) (from 0 (line_count z))
