-- Where a puzzle's lines run: their cells are on the board, each once, and two lines share a cell only where they cross.
use mathlib.Core.Path.{◌≡◌, sym, ap, subst, ◌∙◌}
use mathlib.Core.Logic.{◌⊎◌, inl, inr, ◌≢◌}
use mathlib.Core.List.{map}
use Prim.Native.Nat.{ℕ, suc, ◌+◌, ◌-◌, ◌*◌, ◌/◌, ◌%◌, ◌≤◌, ◌<◌}
use native.Mathlib.Nat.{mul-le-mul_right, mul_comm, div-add-mod', mul-add-div_right, div-eq_of_lt}
use native.Mathlib.Omega.{arith}
use lib.ListN.{length}
use lib.Dec.{ltb}
use borrow.Author.Tests.{ltb-true, ltb-false, lt-ltb, le-ltb}
use Rattle.rules.specs.Lists.{from}
use Rattle.rules.specs.Boards.{Board, Cell, Puzzle, line_count, row_of, column_of, line_cells, crossing}
use Rattle.rules.proofs.Tests.{on_test, by_test}
use Rattle.rules.proofs.Lists.{In, in_map, map_in, from_low, below}
use Rattle.rules.proofs.Distinct.{Distinct, map_distinct, from_distinct}

-- a cell's row and column from its number
pub row_of_lem : (w i x : ℕ) → x < w → (i * w + x) / w ≡ i
row_of_lem w i x h = mul-add-div_right {m = w} (omega arith) i x ∙ (let z = div-eq_of_lt h in omega arith)

pub column_of_lem : (w i x : ℕ) → x < w → (i * w + x) % w ≡ x
column_of_lem w i x h = let e = div-add-mod' (i * w + x) w in let r : (i * w + x) / w * w ≡ i * w = ap (λ q. q * w) (row_of_lem w i x h) in omega arith

module _ (z : Puzzle) where
  open z use {width, height}

  -- a board of the puzzle's size
  abbrev pub Sized : Board → Type 0
  Sized b = length b ≡ width * height

  -- the cells of a row, and of a column
  row_line : (i : ℕ) → i < height → line_cells z i ≡ map (λ x. i * width + x) (from 0 width)
  unfolding line_cells
  row_line i h = rw (lt-ltb i height h, line_cells)

  column_line : (i : ℕ) → height ≤ i → line_cells z i ≡ map (λ y. y * width + (i - height)) (from 0 height)
  unfolding line_cells
  column_line i h = rw (le-ltb i height h, line_cells)

  row_cell : (i : ℕ) {c : Cell} → i < height → In c (line_cells z i) → (x : ℕ) × (x < width) × (c ≡ i * width + x)
  row_cell i {c} h m =
      let r = map_in (λ x. i * width + x) (from 0 width) (subst (λ l. In c l) (row_line i h) m) in
      let l = from_low 0 width r.1 in
      (r.0, omega arith, r.2)

  column_cell : (i : ℕ) {c : Cell} → height ≤ i → In c (line_cells z i) → (y : ℕ) × (y < height) × (c ≡ y * width + (i - height))
  column_cell i {c} h m =
      let r = map_in (λ y. y * width + (i - height)) (from 0 height) (subst (λ l. In c l) (column_line i h) m) in
      let l = from_low 0 height r.1 in
      (r.0, omega arith, r.2)

  -- cell x of row y is on the board
  cell_low : (y x : ℕ) → y < height → x < width → y * width + x < width * height
  cell_low y x h k = let q : suc y * width ≤ height * width = mul-le-mul_right width h in omega (arith, mul_comm height width)

  pub line_low : (i : ℕ) {c : Cell} → i < line_count z → In c (line_cells z i) → c < width * height
  line_low i {c} h m = by_test (ltb i height)
      (λ e. let l = ltb-true i height e in let r = row_cell i l m in subst (λ n. n < width * height) (sym r.2) (cell_low i r.0 l r.1))
      (λ e. let l = ltb-false i height e in let r = column_cell i l m in
      subst (λ n. n < width * height) (sym r.2) (cell_low r.0 (i - height) r.1 (omega arith)))

  pub line_distinct : (i : ℕ) → i < line_count z → Distinct (line_cells z i)
  line_distinct i h = by_test (ltb i height)
      (λ e. subst Distinct (sym (row_line i (ltb-true i height e))) (map_distinct (λ x. i * width + x) (from 0 width) (λ x y m n q. omega arith) (from_distinct 0 width)))
      (λ e. let l = ltb-false i height e in
      subst Distinct (sym (column_line i l))
      (map_distinct (λ y. y * width + (i - height)) (from 0 height)
      (λ x y m n q. let k : i - height < width = omega arith in sym (row_of_lem width x (i - height) k) ∙ ap (λ c. c / width) q ∙ row_of_lem width y (i - height) k)
      (from_distinct 0 height)))

  -- a line through a cell is its row or its column
  row_is : (i : ℕ) {c : Cell} → i < height → In c (line_cells z i) → i ≡ row_of z c
  row_is i h m = let r = row_cell i h m in sym (ap (λ n. n / width) r.2 ∙ row_of_lem width i r.0 r.1)

  column_is : (i : ℕ) {c : Cell} → i < line_count z → height ≤ i → In c (line_cells z i) → i ≡ column_of z c
  column_is i {c} h k m =
      let r = column_cell i k m in
      let q : c % width ≡ i - height = ap (λ n. n % width) r.2 ∙ column_of_lem width r.0 (i - height) (omega arith) in
      omega arith

  line_of_cell : (i : ℕ) {c : Cell} → i < line_count z → In c (line_cells z i) → (i ≡ row_of z c) ⊎ (i ≡ column_of z c)
  line_of_cell i h m = by_test (ltb i height) (λ e. inl (row_is i (ltb-true i height e) m)) (λ e. inr (column_is i h (ltb-false i height e) m))

  -- two lines that share a cell cross there
  pub lines_cross : (i j : ℕ) {c : Cell} → i < line_count z → j < line_count z → i ≢ j → In c (line_cells z i) → In c (line_cells z j) → crossing z i c ≡ j
  unfolding crossing
  lines_cross i j h k d m n = on_test (λ (l : ℕ). l ≡ j) (ltb i height)
      (λ e. elim (line_of_cell j k n) [ inl q ↦ absurd (d (row_is i (ltb-true i height e) m ∙ sym q)) | inr q ↦ sym q ])
      (λ e. elim (line_of_cell j k n) [ inl q ↦ sym q | inr q ↦ absurd (d (column_is i h (ltb-false i height e) m ∙ sym q)) ])

  -- and the line that crosses a line at a cell of it is a line, and runs through the cell
  pub crossing_line : (i : ℕ) {c : Cell} → i < line_count z → In c (line_cells z i) → (crossing z i c < line_count z) × In c (line_cells z (crossing z i c))
  unfolding crossing
  crossing_line i {c} h m = on_test (λ (l : ℕ). (l < line_count z) × In c (line_cells z l)) (ltb i height)
      (λ e. let l = ltb-true i height e in let r = row_cell i l m in
      let q : c % width ≡ r.0 = ap (λ n. n % width) r.2 ∙ column_of_lem width i r.0 r.1 in
      let a : c ≡ i * width + (height + c % width - height) = r.2 ∙ (omega arith) in (
        omega (arith, r.1),
        subst (λ k. In c k) (sym (column_line (column_of z c) (omega arith)))
            (subst (λ b. In b (map (λ y. y * width + (column_of z c - height)) (from 0 height))) (sym a) (in_map (λ y. y * width + (column_of z c - height)) (from 0 height) (below height i l))),
      ))
      (λ e. let l = ltb-false i height e in let r = column_cell i l m in
      let q : c / width ≡ r.0 = ap (λ n. n / width) r.2 ∙ row_of_lem width r.0 (i - height) (omega arith) in
      let a : c ≡ c / width * width + (i - height) = r.2 ∙ ap (λ y. y * width + (i - height)) (sym q) in (
        omega (arith, r.1),
        subst (λ k. In c k) (sym (row_line (row_of z c) (omega (arith, r.1))))
            (subst (λ b. In b (map (λ x. row_of z c * width + x) (from 0 width))) (sym a) (in_map (λ x. row_of z c * width + x) (from 0 width) (below width (i - height) (omega arith)))),
      ))
