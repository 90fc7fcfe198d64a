-- How the run of an accepted puzzle begins: a board that is solved before the search is checked, and an unsolved one goes through a first run of probing.
use Rattle.std.proofs.Common.{◌≡◌, refl, sym, ap, subst, ◌∙◌, true, false, List, length, ℕ, suc, ◌+◌, ◌*◌, arith, Option, None, Some, Ok}
use Rattle.std.specs.Prelude.{IfSome}
use Rattle.rules.specs.Clues.{Clue}
use Rattle.rules.specs.Boards.{Puzzle, solved}
use Rattle.rules.specs.Probing as Probing
use Rattle.rules.specs.Probing.{contradiction, probed, probe, start_queue}
use Rattle.rules.specs.Guesses.{choose}
use Rattle.rules.specs.Search.{Outcome, fresh, answered, search, checked, begun, whole_run}
use Rattle.rules.specs.Answers.{most_colours, answer_of}
use Rattle.rules.proofs.Tests.{passed}
use Rattle.rules.proofs.Fitting as Fitting
use Rattle.rules.proofs.Keeping.{ProbedSound, probe_sound}
use Rattle.rules.proofs.Room as Room
use Rattle.rules.proofs.Room.{chosen_waiting}
use Rattle.lines.specs.declared.machine.Machine.{Machine}
use Rattle.boards.specs.declared.board.Board.{Board}
use Rattle.boards.specs.Board.{board_of, SameSize}
use Rattle.boards.specs.Table.{Table}
use Rattle.notes.specs.declared.round.Notes.{Notes}
use Rattle.notes.specs.Round.{notes_of}
use Rattle.probing.specs.declared.rounds.Probed.{Probed}
use Rattle.probing.specs.Probing.{ProbedTo, Probes}
use Rattle.runs.specs.declared.limits.Limits.{Limits}
use Rattle.runs.specs.Matches.{limits_of}
use Rattle.belutharin.specs.declared.answers.Outcome.TheVariants.{DeadEnd}
use Rattle.belutharin.specs.declared.answers.Answer.{Answer}
use Rattle.belutharin.proofs.Accepting.{at_sides}
use Rattle.belutharin.specs.Answers.{asked, answer, at_once, Checks, Given, Searches}

abbrev pub puzzle : Board → List Clue → Puzzle
puzzle b clues = record { width = b.w; height = b.h; clues = clues }

abbrev start : Board → Puzzle → Probing.Probed
start b z = probe z (board_of b) (start_queue z (board_of b)) fresh

-- what is left of a run whose first run of probing ends with this board and these notes: the board is checked if it is solved, and searched if not
abbrev pub Left : Puzzle → List ℕ → Limits → Board → Notes → Type 0
Left z cells l d ns = whole_run z (limits_of l) cells ≡ (elim (solved (board_of d)) as (λ _. Outcome) [
  | true ↦ checked z (limits_of l) (board_of d)
  | false ↦ answered (search z (limits_of l) (suc l.depth) 0 (board_of d) (choose (board_of d) (notes_of ns)) fresh)
])

-- the board can be played, and the guesses that are chosen have room
pub record Rest (z : Puzzle) (b : Board) (cells : List ℕ) (l : Limits) (d : Board) (ns : Notes) : Type 0 where
  pub left : Left z cells l d ns
  pub fine : Fitting.Playable z most_colours (board_of d)
  pub few : Room.Waiting most_colours (b.w * b.h) (choose (board_of d) (notes_of ns))

-- an unsolved board that was accepted, and where the first run of probing leaves it
pub record Begun (b : Board) (machines : List Machine) (cells list : List ℕ) (l : Limits) (d : Board) (ns : Notes) : Type 0 where
  pub given : Given b machines cells list l
  pub size : SameSize b d
  pub notes : ns.n ≡ b.w * b.h
  pub rest : (z : Puzzle) → Table z b.w b.h machines → Rest z b cells l d ns

module _ {b : Board} {machines : List Machine} {cells list : List ℕ} {l : Limits} (y : Given b machines cells list l) where
  pub playable : (z : Puzzle) → Table z b.w b.h machines → Fitting.Playable z most_colours cells
  playable z t = Fitting.given_playable z most_colours cells (y.long ∙ sym (ap (λ n. n * z.height) t.wide ∙ ap (λ n. b.w * n) t.high)) y.proper

  -- the run begins with the given board
  from_board : (z : Puzzle) → whole_run z (limits_of l) cells ≡ whole_run z (limits_of l) (board_of b)
  from_board z = ap (whole_run z (limits_of l)) (sym y.board)

  -- the given board is solved
  pub given_solved : solved (board_of b) ≡ true → (r : Answer) (out : List ℕ) → Checks b machines cells list r out list → Searches b machines l cells list r out list
  unfolding whole_run
  given_solved e r out f k bytes clues t =
      let a = asked b.w b.h k l.grids l.depth l.budget bytes cells list in
      f (puzzle b clues) t (limits_of l) a refl refl ∙ ap (answer_of a) (sym (from_board (puzzle b clues) ∙ passed (begun (puzzle b clues) (limits_of l) (start b (puzzle b clues))) e))

  module _ (unsolved : solved (board_of b) ≡ false) (p : Probed) (w : Probes b (λ z. start_queue z (board_of b)) machines p) where
    abbrev Whole : Puzzle → Probing.Probed → Type 0
    Whole z v = whole_run z (limits_of l) cells ≡ begun z (limits_of l) v

    probes_first : (z : Puzzle) → Whole z (start b z)
    unfolding whole_run
    probes_first z = from_board z ∙ ap (λ v. elim v as (λ _. Outcome) [ true ↦ checked z (limits_of l) (board_of b) | false ↦ begun z (limits_of l) (start b z) ]) unsolved

    ends_at : (o : Option (Board × Notes)) → p.end ≡ o → (z : Puzzle) → Table z b.w b.h machines → ProbedTo o (Probing.steps fresh + p.steps) (start b z)
    ends_at o e z t = subst (λ v. ProbedTo v (Probing.steps fresh + p.steps) (start b z)) e (w.to z t fresh)

    -- the first run of probing is a contradiction
    pub first_contradicts : p.end ≡ None → (r : Answer) → r ≡ at_once DeadEnd → Searches b machines l cells list r cells list
    first_contradicts e r is k bytes clues t =
        let z = puzzle b clues in
        ap (λ v. answer (Ok v) cells list) is ∙ ap (answer_of (asked b.w b.h k l.grids l.depth l.budget bytes cells list)) (sym (probes_first z ∙ ap (begun z (limits_of l)) (ends_at None e z t).1))

    -- it leaves the board unsolved or solved
    pub begins : (d : Board) (ns : Notes) → p.end ≡ Some (d, ns) → Begun b machines cells list l d ns
    begins d ns e = record {
      given = y;
      size = subst (λ v. IfSome v (λ q. SameSize b q.0)) e w.size;
      notes = subst (λ v. IfSome v (λ q. q.1.n ≡ b.w * b.h)) e w.notes;
      rest = λ z t.
          let fits = subst (Fitting.Playable z most_colours) (sym y.board) (playable z t) in
          let i = ends_at (Some (d, ns)) e z t in
          record {
            left = probes_first z ∙ ap (begun z (limits_of l)) i.1;
            fine = (subst (ProbedSound z most_colours (board_of b)) i.1 (probe_sound z most_colours (omega arith) (board_of b) (start_queue z (board_of b)) fresh fits)).playable;
            few = subst (λ n. Room.Waiting most_colours n (choose (board_of d) (notes_of ns))) (ap length y.board ∙ y.long) (chosen_waiting z most_colours (board_of b) (start_queue z (board_of b)) fresh fits.low i.1);
          };
    }

module _ {b : Board} {machines : List Machine} {cells list : List ℕ} {l : Limits} {d : Board} {ns : Notes} (s : Begun b machines cells list l d ns) where
  -- what holds of the machines of the given board's size holds of the board that is left
  pub same_lines : (P : ℕ → ℕ → Type 0) → P b.w b.h → P d.w d.h
  same_lines = at_sides s.size.wide s.size.high

  -- it solves the board
  pub begun_solved : solved (board_of d) ≡ true → (r : Answer) (out : List ℕ) → Checks d machines cells list r out list → Searches b machines l cells list r out list
  begun_solved e r out f k bytes clues t =
      let z = puzzle b clues in
      let a = asked b.w b.h k l.grids l.depth l.budget bytes cells list in
      f z (same_lines (λ w h. Table z w h machines) t) (limits_of l) a refl refl
      ∙ ap (answer_of a) (sym ((s.rest z t).left ∙ passed (answered (search z (limits_of l) (suc l.depth) 0 (board_of d) (choose (board_of d) (notes_of ns)) fresh)) e))
