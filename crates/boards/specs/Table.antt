-- The machines of a puzzle's lines, rows before columns.
use Rattle.std.specs.Prelude.{◌≡◌, true, List, ℕ, ◌+◌, ◌<◌, get_or}
use Rattle.rules.specs.Clues.{regular}
use Rattle.rules.specs.Boards.{Puzzle, clue_at}
use Rattle.lines.specs.declared.machine.Machine.{Machine}
use Rattle.lines.specs.Machines.{closed, machine_of}

-- the machine of line i
abbrev pub machine_at : List Machine → ℕ → Machine
machine_at machines i = get_or machines i closed

-- the table of a puzzle of this size
pub record Table (z : Puzzle) (w h : ℕ) (machines : List Machine) : Type 0 where
  pub wide : z.width ≡ w
  pub high : z.height ≡ h
  pub each : (i : ℕ) → i < h + w → machine_at machines i ≡ machine_of (clue_at z i)
  pub plain : (i : ℕ) → i < h + w → regular 7 (clue_at z i) ≡ true

-- a table of some puzzle of this size
pub record Playable (w h : ℕ) (machines : List Machine) : Type 0 where
  pub puzzle : Puzzle
  pub table : Table puzzle w h machines
