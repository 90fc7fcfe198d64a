-- A run by value, counts and the caller's list, and the run of the rules that it stands for.
use Rattle.std.specs.Prelude.{◌≡◌, ℕ, length}
use mathlib.Core.List.{List, Memᴰ}
use Rattle.rules.specs.Boards.{Board}
use Rattle.rules.specs.Probing as Rules
use Rattle.rules.specs.Search as Search
use Rattle.rules.specs.Answers.{written}
use Rattle.runs.specs.declared.limits.Limits.{Limits}
use Rattle.runs.specs.declared.limits.Stats.{Stats}

abbrev pub limits_of : Limits → Search.Limits
limits_of l = record { most_grids = l.grids; most_depth = l.depth; budget = l.budget }

-- the counts s and the list are those of the run t, whose grids have n cells; past the grids the list is as it was lent
pub record Matches (n : ℕ) (lent : List ℕ) (s : Stats) (list : List ℕ) (t : Rules.Run) : Type 0 where
  pub grids : s.grids ≡ length t.stored
  pub steps : s.steps ≡ Rules.steps t
  pub deepest : s.deepest ≡ t.deepest
  pub limit : s.limit ≡ t.limit
  pub bytes : list ≡ written t.stored lent
  pub sized : (g : Board) → Memᴰ g t.stored → length g ≡ n
