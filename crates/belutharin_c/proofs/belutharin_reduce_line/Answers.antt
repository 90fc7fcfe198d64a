-- The promise speaks of the number that is given back.
use Rattle.belutharin_c.proofs.belutharin_reduce_line.Goals as goal

pub returns-clause-promised : goal.returns-clause-promised
returns-clause-promised c = rw c.line_number.ensures c.reduce_line.ensures.promised
