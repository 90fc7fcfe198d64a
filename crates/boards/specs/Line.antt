-- Where a line's cells stand in a board's array.
use Rattle.std.specs.Prelude.{true, false, not, List, map, ℕ, ◌+◌, ◌-◌, ◌*◌, ◌≤◌, ◌<◌, eqb, ltb, get_or}
use Rattle.rules.specs.Lists.{from}
use Rattle.rules.specs.Sets.{set_of}
use Rattle.boards.specs.declared.line.Line.{Line}

-- line i of a board, rows before columns
unfoldable pub line_at : ℕ → ℕ → ℕ → Line
line_at w h i = elim (ltb i h) [ true ↦ record { start = i * w; stride = 1; len = w } | false ↦ record { start = i - h; stride = w; len = h } ]

-- the cells of a line, in order
abbrev pub places : Line → List ℕ
places l = map (λ j. l.start + j * l.stride) (from 0 l.len)

-- a line of at most 16 cells, all among the first n
pub record Reaches (l : Line) (n : ℕ) : Type 0 where
  pub few : l.len ≤ 16
  pub near : l.start ≤ 256
  pub close : l.stride ≤ 16
  pub inside : (j : ℕ) → j < l.len → l.start + j * l.stride < n

-- the set of those of n cells whose sets differ
unfoldable pub differ_bits : List ℕ → List ℕ → ℕ → ℕ
differ_bits old new n = set_of n (λ j. not (eqb (get_or old j 0) (get_or new j 0)))
