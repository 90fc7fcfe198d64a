-- Clues read into a table of machines.
use Rattle.std.specs.Prelude.{◌≡◌, Option, None, Some, List, ℕ, ◌+◌}
use Rattle.std.proofs.Math.Option.{none, some}
use Rattle.rules.specs.Clues.{Clue, clues_of}
use Rattle.lines.specs.declared.machine.Machine.{Machine}
use Rattle.boards.specs.Table.{Table}

-- none where the bytes break the layout; otherwise the table is that of the puzzle of this size with these clues
abbrev pub Reads : ℕ → ℕ → ℕ → List ℕ → Option (List Machine) → Type 0
Reads k w h bytes None = clues_of k (h + w) bytes ≡ none
Reads k w h bytes (Some machines) = (clues : List Clue) × (clues_of k (h + w) bytes ≡ some clues) × Table (record { width = w; height = h; clues = clues }) w h machines
