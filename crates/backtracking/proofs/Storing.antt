-- Storing a solved board, by the ways it can go.
use mathlib.Core.Path.{◌≡◌, sym, subst}
use mathlib.Core.Bool.{true}
use mathlib.Core.List.{List}
use Prim.Native.Nat.{ℕ, ◌*◌, ◌<◌}
use lib.ListN.{length}
use Rattle.std.specs.Prelude.{Option, Some}
use Rattle.rules.specs.Boards as Rules
use Rattle.rules.specs.Boards.{Puzzle, solved}
use Rattle.rules.specs.Propagation.{check}
use Rattle.rules.specs.Probing.{Run}
use Rattle.rules.proofs.Tests.{on_test, clash}
use Rattle.lines.specs.declared.machine.Machine.{Machine}
use Rattle.boards.specs.declared.board.Board.{Board}
use Rattle.boards.specs.Board.{board_of, Sized, SameSize}
use Rattle.boards.proofs.Sizes.{board_length}
use Rattle.runs.specs.declared.limits.Limits.{Limits}
use Rattle.runs.specs.declared.limits.Stats.{Stats}
use Rattle.runs.specs.Stored.{Added}
use Rattle.runs.proofs.Matches.{added_matches}
use Rattle.boards.specs.Table.{Table}
use Rattle.backtracking.specs.Parts.{Went, checked_in}
use Rattle.backtracking.specs.Setting.{Setting, RunIs, KeptTo}
use Rattle.backtracking.specs.Comes.{Stores}
use Rattle.backtracking.proofs.Boarding.{of_size}

module _ (b : Board) (machines : List Machine) (list : List ℕ) (l : Limits) (s : Stats) where
  -- the final check passed
  pub stores_met : (r : Stats) (out : List ℕ) → Sized b → length b.cells ≡ 256 → ((z : Puzzle) → Table z b.w b.h machines → true ≡ check z (board_of b)) →
      Added (board_of b) (b.w * b.h) l.grids s list r out → Stores b machines list l s (Some r) out (λ z. checked_in z)
  stores_met r out sized long checks a = record {
    few = a.few;
    to = λ g t m h. on_test (KeptTo g s (Some r) out) (check g.puzzle (board_of b))
        (λ _. added_matches (b.w * b.h) g.lent (board_of b) l.grids r out m (board_length b sized long) (subst (λ n. n < l.grids) m.grids h) a)
        (λ f. clash (sym (checks g.puzzle g.table)) f);
  }

-- what storing a board of the same size comes to
pub stores_on : {b a : Board} {machines : List Machine} {list : List ℕ} {l : Limits} {s : Stats} {k : Option Stats} {out : List ℕ} (part : Puzzle → Rules.Board → Unit {0} → Run → Went (Unit {0})) → SameSize b a →
    Stores a machines list l s k out part → (g : Setting b.w b.h machines) (t : Run) → RunIs g s list t → s.grids < l.grids → KeptTo g s k out (part g.puzzle (board_of a) (tt {0}) t)
stores_on {b} {a} {machines} {list} {l} {s} {k} {out} part e = of_size
    (λ d. Stores d machines list l s k out part → (g : Setting b.w b.h machines) (t : Run) → RunIs g s list t → s.grids < l.grids → KeptTo g s k out (part g.puzzle (board_of d) (tt {0}) t))
    e (λ cells w g t m h. w.to g t m h)
