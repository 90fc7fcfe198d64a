-- The root of 2, and what is farther from it: the f64s next to it on either side, a number below zero, and zero; and that those next to it are no nearer.
use Rattle.std.specs.Prelude.{◌≡◌, refl, true, false, pos, negsuc, Float}
use Rattle.std.proofs.Common.{inl, inr, lt→ltb, lit<}
use Rattle.std.specs.Float.{fin}
use Rattle.rules.specs.Floats.{root}
use Rattle.rules.specs.Roots.{Farther}
use Rattle.rules.specs.Examples.Computed.{computed}

abbrev two : Float
two = fin false 1 (pos 1)

-- 1.414…: 6369051672525773 units of 2 ^ -52, and one unit less and more
abbrev root_two : Float
root_two = fin false 6369051672525773 (negsuc 51)

abbrev less : Float
less = fin false 1592262918131443 (negsuc 49)

abbrev more : Float
more = fin false 3184525836262887 (negsuc 50)

root_two_lem : root two ≡ root_two
unfolding computed
root_two_lem = refl

less_farther : Farther two root_two less
less_farther = inl (lit< tt, lit< tt)

more_farther : Farther two root_two more
more_farther = inr (lit< tt, lit< tt)

zero_farther : Farther two root_two (fin false 0 (pos 0))
zero_farther = inl (lit< tt, lit< tt)

minus_farther : Farther two root_two (fin true 1 (pos 0))
minus_farther = inr (lit< tt)

root_not_farther_than_less : Farther two less root_two → ⊥
root_not_farther_than_less (inl f) = lt→ltb _ _ f.0
root_not_farther_than_less (inr f) = lt→ltb _ _ f.1

root_not_farther_than_more : Farther two more root_two → ⊥
root_not_farther_than_more (inl f) = lt→ltb _ _ f.1
root_not_farther_than_more (inr f) = lt→ltb _ _ f.0
