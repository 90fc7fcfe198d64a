-- Assuming a colour: it is set, and propagated.
use Rattle.std.proofs.Common.{◌≡◌, ℕ, ◌*◌, ◌<◌, List, length, set, ap, ◌∙◌, arith}
use Rattle.std.proofs.Math.Option.{none, some}
use lib.Seq.{take-set-lt}
use Rattle.rules.specs.Sets.{Colour, only}
use Rattle.rules.specs.Boards.{Cell, put, newly, Puzzle}
use Rattle.rules.specs.Propagation.{propagate}
use Rattle.rules.specs.Probing.{assume}
use Rattle.rules.proofs.Noting.{newly_fewer}
use Rattle.boards.specs.declared.board.Board.{Board}
use Rattle.boards.specs.Board.{board_of, Sized, SameSize, with_cell}
use Rattle.boards.proofs.Sizes.{few_cells, board_length}

-- a cell of the array that is on the board
pub set_cell : (b : Board) (c s : ℕ) → c < b.w * b.h → board_of (with_cell b c s) ≡ set (board_of b) c s
set_cell b c s h = take-set-lt (b.w * b.h) b.cells c s h

pub set_size : (b : Board) (c s : ℕ) {a : Board} → a ≡ with_cell b c s → SameSize b a
set_size b c s e = record { wide = ap (λ a. a.w) e; high = ap (λ a. a.h) e }

module _ (b : Board) (c : Cell) (x : Colour) (h : c < b.w * b.h) {a : Board} (e : a ≡ with_cell b c (only x)) where
  pub put_cell : board_of a ≡ put (board_of b) c x
  unfolding put
  put_cell = ap board_of e ∙ set_cell b c (only x) h

  pub assumed_none : (z : Puzzle) → propagate z (board_of a) c ≡ none → none ≡ assume z (board_of b) c x
  assumed_none z p = rw (rw put_cell at p, assume)

  pub assumed_some : (z : Puzzle) (end : Board) {n : ℕ} → propagate z (board_of a) c ≡ some (board_of end) → n ≡ length (newly (board_of a) (board_of end)) → some n ≡ assume z (board_of b) c x
  assumed_some z end p k = rw (rw put_cell at p, assume) (ap some (rw put_cell at k))

  -- the cell itself is not newly solved, so that the count fits a byte
  pub assumed_few : (end : List ℕ) → Sized b → length b.cells ≡ 256 → x < 8 → length (newly (board_of a) end) < 256
  assumed_few end s l k =
      let n = board_length b s l in
      let f = newly_fewer (board_of b) end c x (omega arith) k in
      rw put_cell (omega (arith, few_cells b s))
