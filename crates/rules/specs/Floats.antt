-- The numbers that put cells in order: rates and priorities, as f64 with each operation rounded once.
use Rattle.std.specs.Prelude.{Bool, false, cond, List, ℕ, zero, suc, ◌+◌, ◌-◌, ◌*◌, ◌/◌, ◌^◌, length, leb, pos, Float}
use Rattle.std.specs.Float.{nan, inf, fin, binary64}
use Rattle.std.specs.Float.Ieee.{up, down, add, div, round, of_int, lt}
use Rattle.rules.specs.Lists.{keep}
use Rattle.rules.specs.Sets.{single}
use Rattle.rules.specs.Boards.{Board, Cell, at, Puzzle, row_of, column_of, line_cells, around}

-- a whole number as f64
abbrev pub float : ℕ → Float
float n = of_int binary64 (pos n)

-- the first is the higher
abbrev pub higher : Float → Float → Bool
higher a b = lt b a

-- ## Priorities

-- (4 minus unsolved neighbours, plus row rate) plus column rate; a rate is solved cells divided by the line's length
unfoldable pub priority_of : ℕ → ℕ → ℕ → ℕ → ℕ → Float
priority_of unsolved row_solved row_length column_solved column_length =
    add binary64
    (add binary64 (float (4 - unsolved)) (div binary64 (float row_solved) (float row_length)))
    (div binary64 (float column_solved) (float column_length))

-- how many of some cells are solved
abbrev pub solved_of : Board → List Cell → ℕ
solved_of b cs = length (keep (λ c. single (at b c)) cs)

-- a cell's priority on a board
unfoldable pub priority : Puzzle → Board → Cell → Float
priority z b c =
    let row = line_cells z (row_of z c) in
    let column = line_cells z (column_of z c) in
    priority_of (length (around z b c)) (solved_of b row) (length row) (solved_of b column) (length column)

-- ## The rate of a cell

-- the whole root of n, the largest r with r·r ≤ n, for n below 4 ^ k: digit by digit from the top
unfoldable pub whole_root : ℕ → ℕ → ℕ
whole_root zero n = 0
whole_root (suc k) n = let r = whole_root k (n / 4) in let t = r * 2 + 1 in cond (leb (t * t) n) t (r * 2)

-- 1 where anything is left
abbrev pub sticky : ℕ → ℕ
sticky zero = 0
sticky (suc n) = 1

-- The f64 nearest the root of a / c, for roots from 1/2 up to below 16: the root's whole part in units of 2 ^ -54, and one digit more that says whether anything is left, are
-- rounded once. The digit tells roots just above a number from that number, so that the rounding is that of the exact root: `proofs/Roots.antt` shows it, squares compared.
abbrev pub root_of : ℕ → ℕ → Float
root_of a c = let n = a * 2 ^ 108 / c in let r = whole_root 58 n in round binary64 false (r * 2 + sticky (a * 2 ^ 108 - r * r * c)) (2 ^ 55)

-- the root of an f64; only quotients of counts are asked for, which are 0 or from 1/2 up to 255
unfoldable pub root : Float → Float
root nan = nan
root (inf s) = inf s
root (fin s m e) = root_of (m * up e) (down e)

-- max/(min+1), rounded once
abbrev pub quotient : ℕ → ℕ → Float
quotient max min = div binary64 (float max) (float (suc min))

-- sqrt(max/(min+1)) + min: one rounded division, the square root rounded to nearest, one rounded addition
unfoldable pub rate : ℕ → ℕ → Float
rate max min = add binary64 (root (quotient max min)) (float min)
