-- A grid handed out, as the rules' answer, and where it stands in the list.
use Rattle.std.specs.Prelude.{◌≡◌, List, ℕ, ◌+◌, ◌*◌, ◌≤◌, length, take, drop}
use Rattle.rules.specs.Answers.{PartAnswer, grid_of}
use Rattle.grids.specs.declared.handing.Place.{Place}
use Rattle.grids.specs.declared.handing.Handed.{Handed}

-- the number, and the bytes of the part
abbrev pub answer : Handed → PartAnswer
answer r = record { number = r.number; part = r.part.now }

-- grid number i is handed out, and stands at this place, inside the list
pub record Placed (list : List ℕ) (w h n i : ℕ) (p : Place) : Type 0 where
  pub handed : record { number = 0; part = take p.size (drop p.start list) } ≡ grid_of list w h n i
  pub starts : p.start ≡ i * (w * h)
  pub sized : p.size ≡ w * h
  pub inside : p.start + p.size ≤ length list
