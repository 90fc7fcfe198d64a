-- The invariant: the board is one of the first grids exactly if it is one of those that are left.
use Rattle.std.proofs.Common.{◌≡◌, ◌-◌}
use Rattle.rules.specs.Lists.{any, from}
use Rattle.rules.specs.Boards.{same}
use Rattle.boards.specs.Board.{board_of}
use Rattle.runs.specs.Stored.{found, grid_at}
use Rattle.runs.proofs.stored.already_found.Given as goal

abbrev pub invariant-loop-g : goal.invariant-loop-g
invariant-loop-g l = found (board_of l.b) l.n l.grids l.list ≡ any (λ k. same (board_of l.b) (grid_at l.n l.list k)) (from l.g (l.grids - l.g))
