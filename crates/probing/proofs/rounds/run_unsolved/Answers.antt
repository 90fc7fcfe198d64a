-- The starting queue is for the board's cells, whatever puzzle it is of.
use Rattle.probing.proofs.Frames.{size_of, of_size}
use Rattle.probing.proofs.rounds.run_unsolved.Goals as goal

pub run-requires : goal.run-requires
run-requires c = let b = c.args.board in (c.requires.0, c.requires.1, (c.unsolved_cells.ensures (size_of b) (of_size b)).size)
