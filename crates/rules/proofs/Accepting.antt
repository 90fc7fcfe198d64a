-- An input is refused with a number, and everything untouched; or it is accepted, and its puzzle is searched.
use mathlib.Core.Path.{◌≡◌, ap, ◌∙◌}
use mathlib.Core.Bool.{true, ◌&&◌}
use mathlib.Core.List.{List}
use mathlib.Core.Option.{Option, none, some}
use Prim.Native.Nat.{ℕ, ◌+◌, ◌*◌, ◌≤◌, ◌<◌}
use native.Mathlib.Nat.{mul-le-mul}
use native.Mathlib.Omega.{arith}
use lib.ListN.{length}
use lib.Dec.{leb, eqb}
use borrow.Author.Tests.{leb-true, eqb-true}
use Rattle.rules.specs.Lists.{every}
use Rattle.rules.specs.Sets.{proper}
use Rattle.rules.specs.Clues.{Clue, clues_of}
use Rattle.rules.specs.Answers.{side, most_colours, colour_count, limits, board, Asked, Answer, untouched, searched, test_cells, solve}
use Rattle.rules.specs.Promises.{Accepted, puzzle_of}
use Rattle.rules.proofs.Tests.{on_test, on_option, passed, and_true, true_and}
use Rattle.rules.proofs.Fitting.{Playable, given_playable}

pub few_colours : (k : ℕ) → colour_count k ≡ true → k ≤ most_colours
few_colours k e = leb-true k most_colours (and_true (leb 1 k) (leb k most_colours) e).1

-- what holds of every refusal, whose number is above 10, and of every accepted input's answer holds of all answers
pub solve_cases : (a : Asked) (P : Answer → Type 0) → ((n : ℕ) → 10 < n → P (untouched a n)) → ((clues : List Clue) → Accepted a clues → P (searched a clues)) → P (solve a)
unfolding solve
solve_cases a P refused accepted =
    on_test P (side a.w && side a.h)
    (λ e. on_test P (colour_count a.k)
    (λ k. on_test P (limits a.most_grids a.most_depth a.budget)
    (λ l. on_option P (clues_of a.k (a.h + a.w) a.clues) (λ _. refused 14 (omega arith))
    (λ clues r. on_test P (board a.k (a.w * a.h) a.cells)
    (λ c. on_test P (leb (a.most_grids * (a.w * a.h)) (length a.list))
    (λ m. let s = and_true (side a.w) (side a.h) e in accepted clues (record { width = s.0; height = s.1; colours = k; limited = l; read = r; cells = c; room = m }))
    (λ _. refused 16 (omega arith)))
    (λ _. refused 15 (omega arith))))
    (λ _. refused 13 (omega arith)))
    (λ _. refused 12 (omega arith)))
    (λ _. refused 11 (omega arith))

-- an input that is answered by 1, 2 or 3 is accepted
pub answered_accepted : (a : Asked) → (solve a).number ≤ 3 → (clues : List Clue) × Accepted a clues
answered_accepted a = solve_cases a (λ r. r.number ≤ 3 → (clues : List Clue) × Accepted a clues) (λ n h k. absurd (omega arith)) (λ clues y _. (clues, y))

module _ (a : Asked) (clues : List Clue) (y : Accepted a clues) where
  pub accepted_searched : solve a ≡ searched a clues
  unfolding solve
  accepted_searched =
      passed (untouched a 11) (true_and y.width y.height)
      ∙ passed (untouched a 12) y.colours
      ∙ passed (untouched a 13) y.limited
      ∙ ap (λ (o : Option (List Clue)). elim o as (λ _. Answer) [ some c ↦ test_cells a c | none ↦ untouched a 14 ]) y.read
      ∙ passed (untouched a 15) y.cells
      ∙ passed (untouched a 16) y.room

  -- its board has the puzzle's size, with cells that may be given
  board_tests : (eqb (length a.cells) (a.w * a.h) ≡ true) × (every (proper a.k) a.cells ≡ true)
  board_tests = and_true (eqb (length a.cells) (a.w * a.h)) (every (proper a.k) a.cells) y.cells

  pub accepted_sized : length a.cells ≡ a.w * a.h
  accepted_sized = eqb-true (length a.cells) (a.w * a.h) board_tests.0

  pub accepted_proper : every (proper a.k) a.cells ≡ true
  accepted_proper = board_tests.1

  pub accepted_playable : Playable (puzzle_of a clues) a.k a.cells
  accepted_playable = given_playable (puzzle_of a clues) a.k a.cells accepted_sized accepted_proper

  -- it has at most 256 cells and the most colours
  pub accepted_colours : a.k ≤ most_colours
  accepted_colours = few_colours a.k y.colours

  -- a byte has room for them
  pub accepted_room : a.k ≤ 7
  accepted_room = let h = accepted_colours in omega arith

  pub accepted_few : length a.cells ≤ 256
  accepted_few = let e = accepted_sized in let m : a.w * a.h ≤ 16 * 16 = mul-le-mul (low a.w y.width) (low a.h y.height) in omega arith
    where
      low : (n : ℕ) → side n ≡ true → n ≤ 16
      low n e = leb-true n 16 (and_true (leb 1 n) (leb n 16) e).1
