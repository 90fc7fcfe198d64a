-- A cell's neighbours: all on the board, at most four, and given by the puzzle's size alone.
use mathlib.Core.Path.{◌≡◌, refl}
use mathlib.Core.Logic.{inl, inr}
use mathlib.Core.Bool.{Bool, true, false, not}
use mathlib.Core.List.Memᴰ
use Prim.Native.Nat.{suc, ◌+◌, ◌-◌, ◌*◌, ◌/◌, ◌%◌, ◌≤◌, ◌<◌}
use native.Mathlib.Nat.{div-add-mod', div-lt_iff_lt-mul, mod-lt, mul-le-mul_right, mul_comm}
use native.Mathlib.Omega.{arith}
use lib.ListN.{length, length-append}
use lib.Dec.{leb, ltb}
use borrow.Author.Tests.{ltb-true}
use Rattle.rules.specs.Sets.{single}
use Rattle.rules.specs.Boards.{Board, Cell, at, Puzzle, when, beside, around}
use Rattle.rules.proofs.Lists.{In, keep_few}

module _ (z : Puzzle) where
  open z use {width, height}

  in_when : (v : Bool) (e : Cell) {c : Cell} → In c (when z v e) → (v ≡ true) × (c ≡ e)
  in_when true e m = (refl, Memᴰ.eq_of_singleton m)
  in_when false e m = absurd (Memᴰ.not-nil m)

  when_few : (v : Bool) (e : Cell) → length (when z v e) ≤ 1
  when_few true e = omega arith
  when_few false e = omega arith

  pub beside_few : (c : Cell) → length (beside z c) ≤ 4
  unfolding beside
  beside_few c = simp length-append (omega (
    arith,
    when_few (leb width c) (c - width),
    when_few (ltb 0 (c % width)) (c - 1),
    when_few (ltb (suc (c % width)) width) (c + 1),
    when_few (ltb (suc (c / width)) height) (c + width),
  ))

  pub around_few : (b : Board) (c : Cell) → length (around z b c) ≤ 4
  unfolding around
  around_few b c = omega (arith, keep_few (λ n. not (single (at b n))) (beside z c), beside_few c)

  -- the neighbours of a cell on the board are on the board
  module _ (c : Cell) (p : 0 < width) (h : c < width * height) where
    on_row : c / width < height
    on_row = (div-lt_iff_lt-mul p).1 (rw mul_comm h)

    right_low : suc (c % width) < width → c + 1 < width * height
    right_low k = let q : suc (c / width) * width ≤ height * width = mul-le-mul_right width on_row in
        omega (arith, div-add-mod' c width, mul_comm width height)

    below_low : suc (c / width) < height → c + width < width * height
    below_low k = let q : suc (suc (c / width)) * width ≤ height * width = mul-le-mul_right width k in
        omega (arith, div-add-mod' c width, mod-lt c p, mul_comm width height)

    pub beside_low : {e : Cell} → In e (beside z c) → e < width * height
    unfolding beside
    beside_low {e} m =
        let low : (v : Bool) (a : Cell) → (v ≡ true → a < width * height) → In e (when z v a) → e < width * height = λ v a f n. (let r = in_when v a n in rw r.1 (f r.0)) in
        elim (Memᴰ.append_cases (when z (leb width c) (c - width)) m) [
          | inl a ↦ low (leb width c) (c - width) (λ _. omega arith) a
          | inr n ↦ elim (Memᴰ.append_cases (when z (ltb 0 (c % width)) (c - 1)) n) [
            | inl a ↦ low (ltb 0 (c % width)) (c - 1) (λ _. omega arith) a
            | inr n ↦ elim (Memᴰ.append_cases (when z (ltb (suc (c % width)) width) (c + 1)) n) [
              | inl a ↦ low (ltb (suc (c % width)) width) (c + 1) (λ t. right_low (ltb-true (suc (c % width)) width t)) a
              | inr a ↦ low (ltb (suc (c / width)) height) (c + width) (λ t. below_low (ltb-true (suc (c / width)) height t)) a
            ]
          ]
        ]
