-- The numbers of colours and of cells.
use Rattle.std.specs.Prelude.{List, map, ℕ}
use Rattle.cells.specs.declared.CellNo.{CellNo}
use Rattle.cells.specs.declared.Colour.{Colour}

-- the numbers of some cells
abbrev pub cell_numbers : List CellNo → List ℕ
cell_numbers cs = map (λ c. c.0) cs

-- the numbers of some colours
abbrev pub colour_numbers : List Colour → List ℕ
colour_numbers xs = map (λ x. x.0) xs
