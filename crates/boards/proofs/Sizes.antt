-- How large things are: a board's array has 256 cells, and those on the board are no more; a table is as large as its puzzle.
use mathlib.Core.Path.{◌≡◌, subst}
use mathlib.Core.List.{List}
use Prim.Native.Nat.{ℕ, ◌*◌, ◌≤◌}
use native.Mathlib.Nat.{mul-le-mul}
use native.Mathlib.Omega.{arith}
use lib.ListN.{length}
use lib.Seq.{length-take-le}
use borrow.Author.Rules.{rules}
use mir.Val.{Val}
use denote.Laws.{Is}
use denote.Struct.Declared.{row}
use Rattle.rules.specs.Boards.{Puzzle}
use Rattle.lines.specs.declared.machine.Machine.{Machine}
use Rattle.boards.specs.declared.board.Board.{Board}
use Rattle.boards.specs.Board.{board_of, Sized, SameSize}
use Rattle.boards.specs.Table.{Table}
use Rattle.boards.specs.contracts.board.Board as board

-- a board that a function is passed, or is returned, has 256 cells in its array
pub board_cells : (b : Board) (vs : List Val) → Is (row board.the_type) b vs → length b.cells ≡ 256
board_cells b vs p = search rules

pub few_cells : (b : Board) → Sized b → b.w * b.h ≤ 256
few_cells b s = mul-le-mul s.narrow s.low

pub board_length : (b : Board) → Sized b → length b.cells ≡ 256 → length (board_of b) ≡ b.w * b.h
board_length b s e = length-take-le (b.w * b.h) b.cells (omega (arith, few_cells b s))

-- a fact at a puzzle's size is one at its table's
pub at_size : {z : Puzzle} {w h : ℕ} {machines : List Machine} → Table z w h machines → (P : ℕ → ℕ → Type 0) → P z.width z.height → P w h
at_size {z} {w} {h} t P p = subst (λ w. P w h) t.wide (subst (P z.width) t.high p)

-- and one at a board's size is one at the size of any board as large
pub same_size : {a b : Board} → SameSize a b → (P : ℕ → ℕ → Type 0) → P b.w b.h → P a.w a.h
same_size {a} {b} s P p = subst (λ w. P w a.h) s.wide (subst (P b.w) s.high p)

pub sized_as : {a b : Board} → SameSize a b → Sized a → Sized b
sized_as s z =
    let x = s.wide in
    let y = s.high in
    record { wide = rw x z.wide; narrow = rw x z.narrow; high = rw y z.high; low = rw y z.low }
