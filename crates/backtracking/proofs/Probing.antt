-- A run of probing by value goes as the rules' run does, and its steps are counted.
use mathlib.Core.Path.{◌≡◌, sym, subst}
use mathlib.Core.List.{List}
use Prim.Native.Nat.{ℕ, ◌+◌, ◌*◌}
use Rattle.std.specs.Prelude.{Option, None, Some, IfSome}
use Rattle.rules.specs.Boards.{Puzzle}
use Rattle.rules.specs.Probing as Rules
use Rattle.rules.specs.Probing.{Run, CellQueue, contradiction, probed, probe}
use Rattle.rules.proofs.Probing.{ProbedBelow, probe_below, Quiet}
use Rattle.lines.specs.declared.machine.Machine.{Machine}
use Rattle.boards.specs.declared.board.Board.{Board}
use Rattle.boards.specs.Board.{board_of, SameSize}
use Rattle.runs.specs.declared.limits.Stats.{Stats}
use Rattle.runs.specs.Stats.{stepped}
use Rattle.runs.proofs.Matches.{probed_matches}
use Rattle.notes.specs.declared.round.Notes.{Notes}
use Rattle.notes.specs.Round.{notes_of}
use Rattle.probing.specs.Probing.{ProbedTo, Probes}
use Rattle.probing.specs.declared.rounds.Probed.{Probed}
use Rattle.backtracking.specs.Setting.{Setting, RunIs}

module _ {b : Board} {q : Puzzle → CellQueue} {machines : List Machine} (list : List ℕ) {r : Probed} (p : Probes b q machines r) (s s₁ : Stats) (step : s₁ ≡ stepped r.steps s) where
  -- the steps of the probing more
  probe_step : (g : Setting b.w b.h machines) (t u : Run) → RunIs g s list t → Quiet t u → Rules.steps u ≡ Rules.steps t + r.steps → RunIs g s₁ list u
  probe_step g t u m i e = subst (λ v. RunIs g v list u) (sym step) (probed_matches (b.w * b.h) g.lent r.steps m i e)

  -- how the rules' probing ends, and the run that it leaves
  pub record Probing (g : Setting b.w b.h machines) (t : Run) (end : Run → Rules.Probed) : Type 0 where
    pub run : Run
    pub ends : probe g.puzzle (board_of b) (q g.puzzle) t ≡ end run
    pub is : RunIs g s₁ list run

  -- a contradiction
  pub probing_none : r.end ≡ None → (g : Setting b.w b.h machines) (t : Run) → RunIs g s list t → Probing g t (λ u. contradiction u)
  probing_none e g t m =
      let i : ProbedTo None (Rules.steps t + r.steps) (probe g.puzzle (board_of b) (q g.puzzle) t) = subst (λ o. ProbedTo o (Rules.steps t + r.steps) (probe g.puzzle (board_of b) (q g.puzzle) t)) e (p.to g.puzzle g.table t) in
      let d = subst (ProbedBelow g.puzzle (board_of b) t) i.1 (probe_below g.puzzle (board_of b) (q g.puzzle) t) in
      record { run = i.0; ends = i.1; is = probe_step g t i.0 m d i.2 }

  module _ {a : Board} {ns : Notes} (e : r.end ≡ Some (a, ns)) where
    -- a board to go on with, and the notes
    pub probing_some : (g : Setting b.w b.h machines) (t : Run) → RunIs g s list t → Probing g t (λ u. probed (board_of a) (notes_of ns) u)
    probing_some g t m =
        let i : ProbedTo (Some (a, ns)) (Rules.steps t + r.steps) (probe g.puzzle (board_of b) (q g.puzzle) t) = subst (λ o. ProbedTo o (Rules.steps t + r.steps) (probe g.puzzle (board_of b) (q g.puzzle) t)) e (p.to g.puzzle g.table t) in
        let d = subst (ProbedBelow g.puzzle (board_of b) t) i.1 (probe_below g.puzzle (board_of b) (q g.puzzle) t) in
        record { run = i.0; ends = i.1; is = probe_step g t i.0 m d.1 i.2 }

-- the size of the board and of the notes
module _ {b : Board} {q : Puzzle → CellQueue} {machines : List Machine} {r : Probed} (p : Probes b q machines r) {a : Board} {ns : Notes} (e : r.end ≡ Some (a, ns)) where
  pub probing_size : SameSize b a
  probing_size = subst (λ (o : Option (Board × Notes)). IfSome o (λ v. SameSize b v.0)) e p.size

  pub probing_notes : ns.n ≡ b.w * b.h
  probing_notes = subst (λ (o : Option (Board × Notes)). IfSome o (λ v. v.1.n ≡ b.w * b.h)) e p.notes
