-- The counts of a run by value.
use Rattle.std.specs.Prelude.{if◌then◌else◌, Option, None, Some, ℕ, suc, ◌+◌, max, leb, ltb}
use Rattle.rules.specs.Search.{first_of}
use Rattle.runs.specs.declared.limits.Limit.{Limit}
use Rattle.runs.specs.declared.limits.Limit.TheVariants.{Grids, Steps, Depth}
use Rattle.runs.specs.declared.limits.Limits.{Limits}
use Rattle.runs.specs.declared.limits.Stats.{Stats}

-- the limit's number: 0 for none
abbrev pub limit_number : Option Limit → ℕ
limit_number None = 0
limit_number (Some Grids) = 1
limit_number (Some Steps) = 2
limit_number (Some Depth) = 3

-- the limit that is met, asked in their order
unfoldable pub limit_met : Stats → Limits → ℕ → Option Limit
limit_met s l d = (if leb l.grids s.grids then Some Grids else (if leb l.budget s.steps then Some Steps else (if ltb l.depth d then Some Depth else None)))

-- the first limit met is kept
abbrev pub noted : ℕ → Stats → Stats
noted m s = record s { limit = first_of s.limit m }

abbrev pub stepped : ℕ → Stats → Stats
stepped n s = record s { steps = s.steps + n }

abbrev pub deeper : ℕ → Stats → Stats
deeper d s = record s { deepest = max s.deepest (suc d) }

abbrev pub one_more : Stats → Stats
one_more s = record s { grids = s.grids + 1 }
