-- A store below n is a note; a cell past the last is past the notes too.
use borrow.Author.Rules.{rules}
use mathlib.Core.Path.{ap}
use Rattle.notes.proofs.Noting.{cell_noted, past_noted}
use Rattle.notes.proofs.round.Notes.note.Goals as goal
use Rattle.notes.proofs.round.Notes.note.Goals.{then-i-self, else-i-self}

pub returns : goal.returns
returns c =
    let a = c.args in
    elim c.if-i-self.branch [
      | then-i-self w ↦ cell_noted a.self _ a.c.0 (ap (λ x. x.0) w.self-is) _ (ap (λ x. x.1.0) w.self-is) (search rules)
      | else-i-self w ↦ past_noted a.self _ a.c.0 (ap (λ x. x.0) w.self-is) _ (ap (λ x. x.1.0) w.self-is) w.if-i-self.false
    ]
