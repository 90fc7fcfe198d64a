-- One line that is handed over: what holds of an accepted one, what it is answered, and that the answer is what is promised.
use mathlib.Core.Path.{◌≡◌, refl, sym, ap, subst, ◌∙◌}
use mathlib.Core.Logic.{inl, inr}
use mathlib.Core.Bool.{true}
use mathlib.Core.List.{List}
use mathlib.Core.Option.{Option, none, some}
use Prim.Native.Nat.{ℕ, suc, ◌^◌, ◌≤◌}
use native.Mathlib.Omega.{arith}
use lib.ListN.{length, get_or}
use lib.Dec.{leb, ltb}
use lib.Pow.{pow_mono}
use borrow.Author.Tests.{leb-true, ltb-true}
use Rattle.rules.specs.Lists.{every}
use Rattle.rules.specs.Sets.{proper}
use Rattle.rules.specs.Clues.{Clue}
use Rattle.rules.specs.Lines.{Reduces, reduce}
use Rattle.rules.specs.Answers.{side, LineAnswer, line, line_reduced, test_line_cells, reduce_line}
use Rattle.rules.specs.Promises.{LineAccepted, LinePromise, LinePromised}
use Rattle.rules.proofs.Tests.{passed, and_true}
use Rattle.rules.proofs.Lists.{every_out, get_or-in}
use Rattle.rules.proofs.Lines.{Bytes, reduce_is}
use Rattle.rules.proofs.Accepting.{few_colours}

module _ (k : ℕ) (bytes cells : List ℕ) (clue : Clue) (y : LineAccepted k bytes cells clue) where
  cell_tests : (side (length cells) ≡ true) × (every (proper k) cells ≡ true)
  cell_tests = and_true (side (length cells)) (every (proper k) cells) y.sets

  pub line_few : length cells ≤ 16
  line_few = leb-true (length cells) 16 (and_true (leb 1 (length cells)) (leb (length cells) 16) cell_tests.0).1

  pub line_bytes_lem : Bytes cells
  unfolding proper
  line_bytes_lem i h =
      let p = every_out (proper k) cells cell_tests.1 (get_or-in cells i 0 h) in
      let l = ltb-true (get_or cells i 0) (2 ^ suc k) (and_true (leb 1 (get_or cells i 0)) (ltb (get_or cells i 0) (2 ^ suc k)) p).1 in
      let s : suc k ≤ 8 = omega (arith, few_colours k y.colours) in
      omega (arith, pow_mono s)

  pub line_answer : line_reduced cells (reduce clue cells) ≡ reduce_line k bytes cells
  unfolding reduce_line
  line_answer = sym
      (passed (line 12 cells) y.colours
      ∙ ap (λ (o : Option Clue). elim o as (λ _. LineAnswer) [ some c ↦ test_line_cells k c cells | none ↦ line 14 cells ]) y.read
      ∙ passed (line 15 cells) y.sets)

-- REDUCING ONE LINE KEEPS WHAT IS PROMISED
pub line_promised : (k : ℕ) (bytes cells : List ℕ) → LinePromised k bytes cells (reduce_line k bytes cells)
line_promised k bytes cells clue y = subst (LinePromise clue cells) (line_answer k bytes cells clue y) (go (reduce clue cells) (reduce_is clue cells (line_bytes_lem k bytes cells clue y)))
  where
    go : (o : Option (List ℕ)) → Reduces clue cells o → LinePromise clue cells (line_reduced cells o)
    go none h = record { answered = inr refl; reduced = λ e. absurd (omega arith); contradiction = λ _. h }
    go (some out) h = record { answered = inl refl; reduced = λ _. h; contradiction = λ e. absurd (omega arith) }
