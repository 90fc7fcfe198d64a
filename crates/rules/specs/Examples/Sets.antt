-- Sets of colours, worked.
use Rattle.std.specs.Prelude.{◌≡◌, refl, true, false, [], ◌∷◌}
use Rattle.rules.specs.Sets.{has, colours, single, empty, only, without, lost, proper}
use Rattle.rules.specs.Examples.Computed.{computed}

-- 13 is blank, colour 2 and colour 3
thirteen : colours 13 ≡ 0 ∷ 2 ∷ 3 ∷ []
unfolding computed
thirteen = refl

-- colour 1 is not among them
not_one : has 13 1 ≡ false
unfolding computed
not_one = refl

-- a colour that is not there is taken away in vain
still_thirteen : without 13 1 ≡ 13
unfolding computed
still_thirteen = refl

-- blank and colour 7, without blank, is colour 7 alone: a solved cell
seven : without 129 0 ≡ only 7
unfolding computed
seven = refl

solved_seven : single (only 7) ≡ true
unfolding computed
solved_seven = refl

-- nothing is left of one colour without it
nothing_left : empty (without 4 2) ≡ true
unfolding computed
nothing_left = refl

-- from 7 to 5 colour 1 was lost; from 5 to 7 nothing was
lost_one : lost 7 5 ≡ true
unfolding computed
lost_one = refl

lost_nothing : lost 5 7 ≡ false
unfolding computed
lost_nothing = refl

-- with two colours, 7 is the full set; 8 has a bit above, and 0 has none
full : proper 2 7 ≡ true
unfolding computed
full = refl

above : proper 2 8 ≡ false
unfolding computed
above = refl

none_at_all : proper 2 0 ≡ false
unfolding computed
none_at_all = refl
