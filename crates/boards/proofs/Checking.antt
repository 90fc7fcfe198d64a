-- The final check, line by line.
use mathlib.Core.Path.{◌≡◌, refl, sym, ap, ◌∙◌}
use mathlib.Core.Bool.{Bool, true, false}
use mathlib.Core.List.{List, map}
use Prim.Native.Nat.{ℕ, ◌+◌, ◌-◌, ◌*◌, ◌≤◌, ◌<◌}
use native.Mathlib.Omega.{arith}
use lib.ListN.{length}
use Rattle.rules.specs.Lists.{from}
use Rattle.rules.specs.Sets.{only}
use Rattle.rules.specs.Lines.{fits}
use Rattle.rules.specs.Boards.{Puzzle, line_count, line_of, clue_at}
use Rattle.rules.specs.Propagation.{check}
use Rattle.rules.proofs.Tests.{by_test, by_equal, clash}
use Rattle.rules.proofs.Lists.{In, every_in, every_out, from_low, below}
use Rattle.rules.proofs.Fitting.{check_meets}
use Rattle.lines.specs.declared.machine.Machine.{Machine}
use Rattle.boards.specs.declared.board.Board.{Board}
use Rattle.boards.specs.Board.{board_of, Sized}
use Rattle.boards.specs.Table.{Table}
use Rattle.boards.specs.Propagation.{Passes}
use Rattle.boards.proofs.Sizes.{board_length, at_size}

-- some line is arranged in the sets of line j
abbrev pub line_fits : Puzzle → Board → ℕ → Bool
line_fits z b j = fits (clue_at z j) (line_of z (board_of b) j)

-- the lines from i on passed
abbrev pub Checked : Board → List Machine → ℕ → Type 0
Checked b machines i = (z : Puzzle) → Table z b.w b.h machines → (j : ℕ) → i ≤ j → j < b.h + b.w → line_fits z b j ≡ true

module _ (b : Board) (machines : List Machine) (s : Sized b) (long : length b.cells ≡ 256) where
  -- what the final check means: every line meets its clue
  pub check_passes : (r : Bool) → ((z : Puzzle) → Table z b.w b.h machines → r ≡ check z (board_of b)) → Passes b machines r
  check_passes r f = record {
    is = f;
    meant = λ z t colours e.
        let size : length (map only colours) ≡ z.width * z.height = ap length (sym e) ∙ board_length b s long ∙ at_size t (λ w h. w * h ≡ z.width * z.height) refl in
        let m = check_meets z colours size in
        let same : r ≡ check z (map only colours) = f z t ∙ ap (check z) e in
        (λ p. m.0 (sym same ∙ p), λ p. same ∙ m.1 p);
  }

  pub checked_turn : (i : ℕ) → Checked b machines i → 0 < i → ((z : Puzzle) → Table z b.w b.h machines → line_fits z b (i - 1) ≡ true) → Checked b machines (i - 1)
  checked_turn i so_far l f z t j k m = by_equal j (i - 1) (λ e. ap (line_fits z b) e ∙ f z t) (λ e. so_far z t j (omega arith) m)

  pub checked_fails : (i : ℕ) → 0 < i → i ≤ b.h + b.w → ((z : Puzzle) → Table z b.w b.h machines → line_fits z b (i - 1) ≡ false) → Passes b machines false
  unfolding check
  checked_fails i l m f = check_passes false (λ z t.
      let line : In (i - 1) (from 0 (line_count z)) = at_size t (λ w h. i - 1 < h + w → In (i - 1) (from 0 (line_count z))) (below (line_count z) (i - 1)) (omega arith) in
      by_test (check z (board_of b)) (λ e. clash (every_out (line_fits z b) (from 0 (line_count z)) e line) (f z t)) (λ e. sym e))

  pub checked_end : Checked b machines 0 → Passes b machines true
  unfolding check
  checked_end so_far = check_passes true (λ z t. sym (every_in (line_fits z b) (from 0 (line_count z))
      (λ j m. let k = from_low 0 (line_count z) m in so_far z t j (omega arith) (at_size t (λ w h. j < h + w) (omega arith)))))
