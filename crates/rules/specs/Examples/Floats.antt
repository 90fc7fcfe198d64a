-- Rates and priorities, worked: values that are not whole, given by the significand and the exponent of the f64.
use Rattle.std.specs.Prelude.{◌≡◌, refl, true, false, negsuc}
use Rattle.std.specs.Float.{fin}
use Rattle.rules.specs.Floats.{higher, rate, priority_of}
use Rattle.rules.specs.Examples.Computed.{computed}

-- the root of 2, 0x3FF6A09E667F3BCD: an odd significand, here times 2 ^ -52
root_of_two : rate 2 0 ≡ fin false 6369051672525773 (negsuc 51)
unfolding computed
root_of_two = refl

-- a solved neighbour counts for more than any rate below 1: 3 + 1/3 + 1/3 is below 4
more_neighbours : higher (priority_of 0 0 3 0 3) (priority_of 1 1 3 1 3) ≡ true
unfolding computed
more_neighbours = refl

-- rounded once at each operation: (1 + 1/3) + 1/3 falls short of 5/3 rounded once, by a unit in the last place
each_once : priority_of 3 1 3 1 3 ≡ fin false 3752999689475413 (negsuc 50)
unfolding computed
each_once = refl
