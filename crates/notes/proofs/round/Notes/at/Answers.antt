use Rattle.notes.proofs.Noting.{note_at_lem, note_past}
use Rattle.notes.proofs.round.Notes.at.Goals as goal

pub returns-then-i-self : goal.returns-then-i-self
returns-then-i-self c = note_at_lem c.args.self.now c.args.c.0 c.if-i-self.true

pub returns-else-i-self : goal.returns-else-i-self
returns-else-i-self c = note_past c.args.self.now c.args.c.0 c.if-i-self.false
