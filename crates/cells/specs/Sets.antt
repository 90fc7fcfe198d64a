-- A set with one colour more.
use Rattle.std.specs.Prelude.{◌||◌, ℕ, eqb}
use Rattle.rules.specs.Sets.{Colour, has, set_of}

-- a set with a colour
unfoldable pub including : ℕ → Colour → ℕ
including s c = set_of 8 (λ y. has s y || eqb y c)
