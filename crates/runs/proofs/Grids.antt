-- Grids compared with a board, as slices are compared.
use mathlib.Core.Path.{◌≡◌, refl, ap}
use mathlib.Core.Bool.{◌&&◌}
use mathlib.Core.List.{List, [], ◌∷◌}
use Prim.Native.Nat.{ℕ, ◌+◌, ◌-◌, ◌*◌}
use native.Mathlib.Omega.{arith}
use lib.Dec.{eqb}
use lib.ListN.{take, drop}
use lib.Pointwise.{pointwise}
use Rattle.rules.specs.Boards.{same}
use Rattle.runs.specs.Stored.{grid_at}

-- the same cells, as slices are compared
pub same_cells : (a b : List ℕ) → pointwise eqb a b ≡ same a b
unfolding same
same_cells [] [] = refl
same_cells [] (t ∷ b) = refl
same_cells (s ∷ a) [] = refl
same_cells (s ∷ a) (t ∷ b) = ap (λ v. eqb s t && v) (same_cells a b)

-- a board's cells beside grid g, as the code takes the two out of what they stand in
pub same_grid : (cells list : List ℕ) (g n : ℕ) → pointwise eqb (take n cells) (take ((g + 1) * n - g * n) (drop (g * n) list)) ≡ same (take n cells) (grid_at n list g)
same_grid cells list g n = let e : (g + 1) * n - g * n ≡ n = omega arith in rw e (same_cells (take n cells) (grid_at n list g))
