-- What the array of a board holds: bytes. The check finds this alone wherever a proof asks for it.
use mathlib.Core.List.{List, [], ◌∷◌}
use Prim.Native.Nat.{ℕ, zero, suc, ◌<◌}
use native.Mathlib.Omega.{arith}
use lib.ListN.{get_or}
use mir.Syntax.{w8}
use mir.Val.{Val}
use denote.Array.{each}
use denote.Laws.{Is}
use denote.Plain.{UInt}
use denote.Shadow.{shadow}
use denote.Struct.Declared.{row}
use Rattle.boards.specs.declared.board.Board.{Board}
use Rattle.boards.specs.contracts.board.Board as board

bytes : (l : List ℕ) (vs : List Val) → shadow (each ℕ (UInt w8).own_val l vs) → (j : ℕ) → get_or l j 0 < 256
bytes [] vs p j = omega arith
bytes (x ∷ l) [] p j = absurd p
bytes (x ∷ l) (v ∷ vs) p zero = p.0.1
bytes (x ∷ l) (v ∷ vs) p (suc j) = bytes l vs p.1 j

-- the cells of a board that a function is passed are bytes
pub board_bytes : (b : Board) (vs : List Val) → Is (row board.the_type) b vs → (j : ℕ) → get_or b.cells j 0 < 256
board_bytes b vs p = bytes b.cells _ p.1.1.1.1.0.1.1
