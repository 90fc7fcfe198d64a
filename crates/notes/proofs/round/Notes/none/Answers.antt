-- In an array of nothing no cell is noted.
use Rattle.notes.proofs.Noting.{none_noted}
use Rattle.notes.proofs.round.Notes.none.Goals as goal

pub returns : goal.returns
returns c = none_noted c.args.n
