-- The bytes are one clue just if a line is read that ends where they end.
use Rattle.std.proofs.Common.{rules, tests}
use Rattle.lines.proofs.Answering.{whole_given}
use Rattle.lines.proofs.single.clue_given.Goals as goal

pub returns : goal.returns
returns c = whole_given c.args.k c.args.clue.now _ _ c.read_line.ensures c.is_some_and.ensures (λ end q. search (rules, tests))
