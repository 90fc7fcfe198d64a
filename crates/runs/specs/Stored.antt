-- Grids in a list of bytes, one after the other.
use Rattle.std.specs.Prelude.{◌≡◌, Bool, true, false, List, ℕ, suc, ◌*◌, ◌≤◌, take, drop}
use Rattle.std.proofs.Math.Seq.{paste}
use Rattle.rules.specs.Lists.{any, from}
use Rattle.rules.specs.Boards.{Board, same}
use Rattle.runs.specs.declared.limits.Stats.{Stats}
use Rattle.runs.specs.Stats.{one_more}

-- grid g of a list whose grids have n cells
abbrev pub grid_at : ℕ → List ℕ → ℕ → Board
grid_at n list g = take n (drop (g * n) list)

-- the board is one of the first grids
unfoldable pub found : Board → ℕ → ℕ → List ℕ → Bool
found b n grids list = any (λ g. same b (grid_at n list g)) (from 0 grids)

-- what storing the board b, of n cells, does to the counts and to the list
pub record Added (b : Board) (n most : ℕ) (s : Stats) (list : List ℕ) (r : Stats) (out : List ℕ) : Type 0 where
  pub full : most ≤ s.grids → (r ≡ s) × (out ≡ list)
  pub again : suc s.grids ≤ most → found b n s.grids list ≡ true → (r ≡ s) × (out ≡ list)
  pub new : suc s.grids ≤ most → found b n s.grids list ≡ false → (r ≡ one_more s) × (out ≡ paste list (s.grids * n) b n)
  pub few : r.grids ≤ most
  pub steps : r.steps ≡ s.steps
