-- A line's cells as places in the array: they are the line's cells by the rules, they lie on the board, and each lies on a crossing line of its own.
use mathlib.Core.Path.{◌≡◌, sym, ap, ap₂, subst, ◌∙◌}
use mathlib.Core.Bool.{true, false}
use mathlib.Core.List.{[], map}
use Prim.Native.Nat.{ℕ, ◌+◌, ◌-◌, ◌*◌, ◌/◌, ◌%◌, ◌^◌, ◌≤◌, ◌<◌}
use native.Mathlib.Nat.{mul_comm, mul-one, add_comm, mul-le-mul, mod-lt, div-lt_iff_lt-mul}
use native.Mathlib.Omega.{arith}
use lib.Bits.{bit_or}
use lib.Dec.{ltb}
use lib.ListN.{length, get_or, length-map}
use lib.Pow.{pow_mono, shl_lt}
use borrow.Author.Tests.{ltb-true, ltb-false, lt-ltb, le-ltb}
use Rattle.rules.specs.Lists.{from}
use Rattle.rules.specs.Sets.{has}
use Rattle.rules.specs.Boards.{Board, at, Puzzle, line_count, line_cells, line_of, crossing}
use Rattle.rules.proofs.Tests.{by_test, clash}
use Rattle.rules.proofs.Lists.{In, below, in_map}
use Rattle.rules.proofs.Boards.{row_of_lem, column_of_lem, line_low}
use Rattle.boards.specs.declared.line.Line.{Line}
use Rattle.boards.specs.Line.{line_at, places, Reaches}
use Rattle.boards.specs.Propagation.{cell_lines, crossed}
use Rattle.boards.proofs.Places.{line_row, line_column, length_places, map_places}
use Rattle.boards.proofs.Pending.{shifted_one, pair_is, has_up, has_up_low}

-- a fact of a line, for rows and for columns
by_line : {P : Type 0} (h i : ℕ) → (i < h → P) → (h ≤ i → P) → P
by_line h i f g = by_test (ltb i h) (λ e. f (ltb-true i h e)) (λ e. g (ltb-false i h e))

-- ## Lines on the board

-- the place of cell j
abbrev pub place : Line → ℕ → ℕ
place l j = l.start + j * l.stride

module _ (z : Puzzle) (i : ℕ) where
  abbrev pub line : Line
  line = line_at z.width z.height i

  -- the places are the line's cells
  pub line_cells_lem : line_cells z i ≡ places line
  unfolding line_cells
  line_cells_lem = by_line z.height i
      (λ l. rw (lt-ltb i z.height l, line_cells, line_row z.width z.height i l)
      (ap (λ (f : ℕ → ℕ). map f (from 0 z.width)) (λ k j. ap (λ n. i * z.width + n) (sym (mul-one j)) k)))
      (λ l. rw (le-ltb i z.height l, line_cells, line_column z.width z.height i l)
      (ap (λ (f : ℕ → ℕ). map f (from 0 z.height)) (λ k j. add_comm (j * z.width) (i - z.height) k)))

  pub place_in : (j : ℕ) → j < line.len → In (place line j) (line_cells z i)
  place_in j h = subst (In (place line j)) (sym line_cells_lem) (in_map (place line) (from 0 line.len) (below line.len j h))

  pub line_length : (b : Board) → length (line_of z b i) ≡ line.len
  line_length b = length-map (line_cells z i) (at b) ∙ ap length line_cells_lem ∙ length_places line

  -- the set of cell j
  pub line_at_lem : (b : Board) (j : ℕ) → j < line.len → get_or (line_of z b i) j 0 ≡ at b (place line j)
  line_at_lem b j h = ap (λ cs. get_or (map (at b) cs) j 0) line_cells_lem ∙ map_places (at b) line j h

-- any puzzle of this size will do
inside : (w h i j : ℕ) → i < h + w → j < (line_at w h i).len → place (line_at w h i) j < w * h
inside w h i j on k = let z : Puzzle = record { width = w; height = h; clues = [] } in line_low z i on (place_in z i j k)

pub reaches : (w h i n : ℕ) → w ≤ 16 → h ≤ 16 → i < h + w → w * h ≤ n → Reaches (line_at w h i) n
reaches w h i n p q on full = by_line h i
    (λ l. let u : i ≤ 16 = omega arith in
    subst P (sym (line_row w h i l)) (λ f. record { few = p; near = mul-le-mul u p; close = omega arith; inside = f }) within)
    (λ l. subst P (sym (line_column w h i l)) (λ f. record { few = q; near = omega arith; close = p; inside = f }) within)
  where
    P : Line → Type 0
    P l = ((j : ℕ) → j < l.len → place l j < n) → Reaches l n

    within : (j : ℕ) → j < (line_at w h i).len → place (line_at w h i) j < n
    within j k = let z = inside w h i j on k in omega arith

-- a set of a line's cells is small
pub cells_low : (w h i s : ℕ) → w ≤ 16 → h ≤ 16 → i < h + w → s < 2 ^ (line_at w h i).len → s < 65536
cells_low w h i s p q on k = let l = (reaches w h i (w * h) p q on (omega arith)).few in omega (arith, pow_mono l)

-- ## Crossing lines

-- a cell's row, and the set of its row and column
pub cell_row : (w h c : ℕ) → 0 < w → c < w * h → c / w < h
cell_row w h c p q = (div-lt_iff_lt-mul p).1 (subst (λ n. c < n) (mul_comm w h) q)

pub lines_are : (w h c : ℕ) → 0 < w → h + w ≤ 32 → c < w * h → bit_or (1 * 2 ^ (c / w) % 4294967296) (1 * 2 ^ (h + c % w) % 4294967296) ≡ cell_lines w h c
unfolding cell_lines
lines_are w h c p q l =
    let r = cell_row w h c p l in
    let m = mod-lt c p in
    ap₂ bit_or (shifted_one (c / w) (omega arith)) (shifted_one (h + c % w) (omega arith)) ∙ pair_is (h + w) (c / w) (h + c % w) (omega arith) (omega arith)

-- the line that crosses line i at its cell j
unfoldable pub cross_at : ℕ → ℕ → ℕ → ℕ
cross_at h i j = elim (ltb i h) [ true ↦ h + j | false ↦ j ]

cross_row : (h i j : ℕ) → i < h → cross_at h i j ≡ h + j
unfolding cross_at
cross_row h i j l = rw (lt-ltb i h l, cross_at)

cross_column : (h i j : ℕ) → h ≤ i → cross_at h i j ≡ j
unfolding cross_at
cross_column h i j l = rw (le-ltb i h l, cross_at)

pub crosses : (z : Puzzle) (i j : ℕ) → i < line_count z → j < (line z i).len → crossing z i (place (line z i) j) ≡ cross_at z.height i j
unfolding crossing
crosses z i j on = by_line h i
    (λ l. subst P (sym (line_row w h i l))
    (λ k. rw (lt-ltb i h l, crossing) (ap (λ n. h + n) (ap (λ n. (i * w + n) % w) (mul-one j) ∙ column_of_lem w i j k) ∙ sym (cross_row h i j l))))
    (λ l. subst P (sym (line_column w h i l))
    (λ k. rw (le-ltb i h l, crossing) (ap (λ n. n / w) (add_comm (i - h) (j * w)) ∙ row_of_lem w j (i - h) (omega arith) ∙ sym (cross_column h i j l))))
  where
    w : ℕ
    w = z.width

    h : ℕ
    h = z.height

    P : Line → Type 0
    P l = j < l.len → crossing z i (place l j) ≡ cross_at h i j

-- the set of the lines that cross line i at the cells of a set
pub crossed_row : (h i s : ℕ) → i < h → crossed h i s ≡ s * 2 ^ h
unfolding crossed
crossed_row h i s l = rw (lt-ltb i h l, crossed)

pub crossed_column : (h i s : ℕ) → h ≤ i → crossed h i s ≡ s
unfolding crossed
crossed_column h i s l = rw (le-ltb i h l, crossed)

pub crossed_in : (h i s j : ℕ) → has s j ≡ true → has (crossed h i s) (cross_at h i j) ≡ true
crossed_in h i s j e = by_line h i
    (λ l. rw (crossed_row h i s l, cross_row h i j l) (has_up s h j ∙ e))
    (λ l. rw (crossed_column h i s l, cross_column h i j l) e)

pub crossed_of : (h i s j : ℕ) → has (crossed h i s) j ≡ true → (k : ℕ) × (j ≡ cross_at h i k) × (has s k ≡ true)
crossed_of h i s j e = by_line h i
    (λ l. let p : has (s * 2 ^ h) j ≡ true = (rw (crossed_row h i s l) at e) in
    by_line h j (λ k. clash p (has_up_low s h j k))
    (λ k. let q : h + (j - h) ≡ j = omega arith in (j - h, sym (cross_row h i (j - h) l ∙ q), sym (has_up s h (j - h)) ∙ ap (has (s * 2 ^ h)) q ∙ p)))
    (λ l. (j, sym (cross_column h i j l), rw (crossed_column h i s l) at e))

pub crossed_low : (w h i s : ℕ) → s < 2 ^ (line_at w h i).len → crossed h i s < 2 ^ (h + w)
crossed_low w h i s k = by_line h i
    (λ l. let p : s < 2 ^ w = subst (λ l. s < 2 ^ l.len) (line_row w h i l) k in
    rw (crossed_row h i s l) (subst (λ n. s * 2 ^ h < 2 ^ n) (add_comm w h) (shl_lt w h p)))
    (λ l. let p : s < 2 ^ h = subst (λ l. s < 2 ^ l.len) (line_column w h i l) k in
    let q : h ≤ h + w = omega arith in rw (crossed_column h i s l) (omega (arith, pow_mono q)))
