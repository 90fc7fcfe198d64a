-- What the notes stand for: the rules' notes.
use Rattle.std.specs.Prelude.{◌≡◌, List, map, ℕ, get_or, true, false, Option, None, Some}
use Rattle.std.proofs.Math.Option as Math
use Rattle.rules.specs.Lists.{from}
use Rattle.rules.specs.Sets.{Colour, has, colours}
use Rattle.rules.specs.Boards.{Cell}
use Rattle.rules.specs.Probing as Probing
use Rattle.notes.specs.declared.round.Notes.{Notes}
use Rattle.notes.specs.declared.round.Note.{Note}

-- the colours of a set, each with how many cells it newly solves
abbrev pub each_of : ℕ → List ℕ → List (Colour × ℕ)
each_of s counts = map (λ x. (x, get_or counts x 0)) (colours s)

-- what a note says
abbrev pub note_of : Note → List (Colour × ℕ)
note_of t = each_of t.set t.counts

-- how many cells a colour newly solves by a note, if the cell has it
abbrev pub solves : Note → Colour → Option ℕ
solves t x = elim (has t.set x) [ true ↦ Some (get_or t.counts x 0) | false ↦ None ]

-- what was noted of a cell, if it was popped
abbrev pub noted : Option Note → Math.Option (List (Colour × ℕ))
noted None = Math.none
noted (Some t) = Math.some (note_of t)

-- what was noted of cell c
abbrev pub note_at : Notes → Cell → Math.Option (List (Colour × ℕ))
note_at ns c = noted (get_or ns.notes c None)

-- the rules' notes: one for each of the n cells
unfoldable pub notes_of : Notes → Probing.Notes
notes_of ns = map (note_at ns) (from 0 ns.n)

-- ns are the rules' notes e, for n cells
pub record Says (n : ℕ) (e : Probing.Notes) (ns : Notes) : Type 0 where
  pub size : ns.n ≡ n
  pub notes : notes_of ns ≡ e
