-- What is worked out of a line's sets, backwards, before the line is reduced.
use Rattle.std.specs.Prelude.{◌≡◌, List, ℕ, ◌+◌, ◌<◌, length, get_or, drop}
use Rattle.lines.specs.declared.machine.Machine.{Machine}
use Rattle.lines.specs.declared.reduction.Way.{Way}
use Rattle.lines.specs.declared.reduction.Ways.{Ways}
use Rattle.lines.specs.Machines.{goes, ends}

-- what cell i is reduced by: the states that its colours go on from, and those behind it that lead on to the end
abbrev pub way : Machine → List ℕ → ℕ → Way
way m sets i = record { goes = goes m.by (get_or sets i 0); ends = ends m (drop (i + 1) sets) }

-- the way of each cell, and the states before the first that lead on to the end
pub record WaysOf (m : Machine) (sets : List ℕ) (w : Ways) : Type 0 where
  pub cells : (i : ℕ) (other : Way) → i < length sets → get_or w.cells i other ≡ way m sets i
  pub start : w.start ≡ ends m sets
