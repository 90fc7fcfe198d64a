-- The cells on the four sides of a cell: together they are its neighbours.
use Rattle.std.proofs.Common.{◌≡◌, ◌+◌, ◌-◌, ◌*◌, ◌/◌, ◌%◌, ◌≤◌, ◌<◌, drop_of_length-le, leb, ltb, append-nil, Bool, true, false, not, Option, Some, None, ℕ, List, [], ◌∷◌, ◌++◌, get_or, length, map, drop, ap, refl, is_some, IfSome, add-one}
use Rattle.rules.specs.Lists.{keep, joined}
use Rattle.rules.specs.Sets.{single}
use Rattle.rules.specs.Boards.{Cell, at, Puzzle, when, beside, around}
use Rattle.rules.proofs.Lists.{keep_same}
use Rattle.rules.proofs.Neighbours.{beside_low}
use Rattle.cells.specs.declared.CellNo.{CellNo}
use Rattle.cells.specs.Numbers.{cell_numbers}
use Rattle.boards.specs.declared.board.Board.{Board}
use Rattle.boards.specs.Board.{board_of, Sized}
use Rattle.probing.specs.Neighbours.{OfSize, those}
use Rattle.probing.proofs.Frames.{at_cell}

-- one side, by the test for it
pub those_when : (z : Puzzle) (r : Option CellNo) (v : Bool) (e : Cell) → is_some r ≡ v → IfSome r (λ x. x ≡ record { 0 = e }) → those r ≡ when z v e
those_when z None true e h i = cc
those_when z None false e h i = refl
those_when z (Some x) true e h i = ap (λ x. x.0 ∷ []) i
those_when z (Some x) false e h i = cc

-- all four, each by its test
pub beside_four : {b : Board} {a l r u : List Cell} (z : Puzzle) (c : Cell) → OfSize z b → a ≡ when z (leb b.w c) (c - b.w) → l ≡ when z (ltb 0 (c % b.w)) (c - 1) →
    r ≡ when z (ltb (c % b.w + 1) b.w) (c + 1) → u ≡ when z (ltb (c / b.w + 1) b.h) (c + b.w) → a ++ (l ++ (r ++ (u ++ []))) ≡ beside z c
unfolding beside
beside_four {b} z c o above left right below =
    rw (o.wide, o.high, append-nil, above, left, right, below, add-one (c % b.w), add-one (c / b.w))

-- those of some cells that are unsolved in an array of sets
abbrev pub unsolved_of : List ℕ → List Cell → List Cell
unsolved_of cells cs = keep (λ c. not (single (get_or cells c 0))) cs

-- on the board the array has the board's sets
pub around_cells : (b : Board) (c : Cell) (z : Puzzle) → OfSize z b → Sized b → c < b.w * b.h → around z (board_of b) c ≡ unsolved_of b.cells (beside z c)
unfolding around
around_cells b c z o s h =
    keep_same (λ e. not (single (at (board_of b) e))) (λ e. not (single (get_or b.cells e 0))) (beside z c)
    (λ e m. ap (λ s. not (single s)) (at_cell b e (rw (o.wide, o.high) at (beside_low z c (rw o.wide s.wide) (rw (o.wide, o.high) h) m))))

-- ## The unsolved ones, one after the other

-- what is found and what is unsolved of the sides from the n-th on is all
abbrev pub Found : List ℕ → List (Option CellNo) → List CellNo → ℕ → Type 0
Found cells sides found n = cell_numbers found ++ unsolved_of cells (joined (map those (drop n sides))) ≡ unsolved_of cells (joined (map those sides))

pub found_all : (cells : List ℕ) (sides : List (Option CellNo)) (found : List CellNo) (n : ℕ) → Found cells sides found n → length sides ≤ n →
    cell_numbers found ≡ unsolved_of cells (joined (map those sides))
found_all cells sides found n f h = let none : drop n sides ≡ [] = drop_of_length-le sides h in rw (none, append-nil) at f
