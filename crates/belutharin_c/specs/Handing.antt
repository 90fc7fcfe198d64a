-- Where a grid stands in a list. C can't be given a part of a list, so it is told the byte from which the part starts, and its size.
use Rattle.std.specs.Prelude.{List, ℕ, zero, suc, ◌*◌, take, drop}
use Rattle.rules.specs.Answers.{PartAnswer}

-- a number with the part of a list from this start on, of this size
abbrev pub part_at : List ℕ → ℕ → ℕ → ℕ → PartAnswer
part_at list number start size = record { number = number; part = take size (drop start list) }

-- where grid i of so many cells starts; 0 with the number of a refusal
abbrev pub start_of : ℕ → ℕ → ℕ → ℕ
start_of zero i cells = i * cells
start_of (suc _) i cells = 0

-- its size; 0 with the number of a refusal
abbrev pub size_of : ℕ → ℕ → ℕ
size_of zero cells = cells
size_of (suc _) cells = 0
