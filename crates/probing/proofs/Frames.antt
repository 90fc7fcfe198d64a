-- Boards and puzzles of one size, and the cells on them.
use mathlib.Core.Path.{◌≡◌, refl, sym, ap₂, ◌∙◌}
use mathlib.Core.List.{List, []}
use Prim.Native.Nat.{◌*◌, ◌<◌}
use native.Mathlib.Omega.{arith}
use lib.ListN.{get_or}
use lib.Seq.{get_or-take}
use Rattle.rules.specs.Boards.{Cell, at, Puzzle}
use Rattle.lines.specs.declared.machine.Machine.{Machine}
use Rattle.boards.specs.declared.board.Board.{Board}
use Rattle.boards.specs.Board.{board_of, Sized, SameSize}
use Rattle.boards.specs.Table.{Table}
use Rattle.probing.specs.Neighbours.{OfSize}

-- a puzzle of a board's size
pub size_of : Board → Puzzle
size_of b = record { width = b.w; height = b.h; clues = [] }

pub of_size : (b : Board) → OfSize (size_of b) b
unfolding size_of
of_size b = record { wide = refl; high = refl }

pub same_refl : (b : Board) → SameSize b b
same_refl b = record { wide = refl; high = refl }

pub same_trans : {a b c : Board} → SameSize a b → SameSize b c → SameSize a c
same_trans p q = record { wide = q.wide ∙ p.wide; high = q.high ∙ p.high }

pub same_sized : {a b : Board} → SameSize a b → Sized a → Sized b
same_sized s z = record { wide = omega (arith, s.wide, z.wide); narrow = omega (arith, s.wide, z.narrow); high = omega (arith, s.high, z.high); low = omega (arith, s.high, z.low) }

pub same_cells : {a b : Board} → SameSize a b → b.w * b.h ≡ a.w * a.h
same_cells s = ap₂ ◌*◌ s.wide s.high

-- the table of a puzzle of the board's size
module _ {a b : Board} (s : SameSize a b) where
  pub table_size : {z : Puzzle} {machines : List Machine} → Table z a.w a.h machines → OfSize z b
  table_size t = record { wide = t.wide ∙ sym s.wide; high = t.high ∙ sym s.high }

  pub table_same : {z : Puzzle} {machines : List Machine} → Table z a.w a.h machines → Table z b.w b.h machines
  table_same t = rw (s.wide, s.high) t

-- on the board the array has the board's sets
pub at_cell : (b : Board) (c : Cell) → c < b.w * b.h → at (board_of b) c ≡ get_or b.cells c 0
at_cell b c h = get_or-take (b.w * b.h) b.cells c 0 h
