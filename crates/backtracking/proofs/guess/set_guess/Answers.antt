-- By whether the propagation comes to a contradiction, and whether its board is kept.
use Prim.Native.Nat.{◌*◌, ◌<◌}
use Rattle.backtracking.proofs.Boarding.{size_with, sized_on, size_at}
use Rattle.backtracking.proofs.Guessing.{sets_dead, sets_failed, sets_on}
use Rattle.backtracking.proofs.guess.set_guess.Goals as goal

pub returns-in_default : goal.returns-in_default
returns-in_default c =
    sets_dead _ _ _ _ _ _ _ _ _ c.unsolved_cells-queue.result c.requires.1 c.requires.0.few c.requires.0.table c.unsolved_cells-queue.ensures c.stepped-stats.ensures c.set-start.ensures c.in_default.ensures

pub returns-in_default-keep : goal.returns-in_default-keep
returns-in_default-keep c =
    sets_failed _ _ _ _ _ _ _ _ _ c.unsolved_cells-queue.result c.requires.1 c.requires.0.few c.requires.0.table c.unsolved_cells-queue.ensures c.stepped-stats.ensures c.set-start.ensures
    c.in-Some.ensures c.in_default-keep.ensures

pub push_both-requires : goal.push_both-requires
push_both-requires c =
    let size = size_with _ c.set-start.ensures in
    let y = c.requires in
    (sized_on size y.0.sized, c.in-Some.ensures.size, size_at (λ a b. c.args.guess.cell.0 < a * b) size y.1)

pub returns : goal.returns
returns c =
    sets_on _ _ _ _ _ _ _ _ _ c.unsolved_cells-queue.result c.requires.1 c.requires.0.few c.requires.0.table c.unsolved_cells-queue.ensures c.stepped-stats.ensures c.set-start.ensures
    c.in-Some.ensures c.in-Some-keep.ensures c.push_both.ensures
