-- The search at depth 0 of an accepted puzzle, after the first run of probing, is the rest of the rules' run.
use Rattle.std.proofs.Common.{◌≡◌, refl, sym, ap, subst, ◌∙◌, true, false, List, [], length, ℕ, suc, ◌+◌, ◌*◌, ◌≤◌, arith, Ok}
use mathlib.Core.List.Memᴰ
use Rattle.rules.specs.Boards.{Puzzle, solved}
use Rattle.rules.specs.Probing.{Run}
use Rattle.rules.specs.Guesses.{choose}
use Rattle.rules.specs.Search as Search
use Rattle.rules.specs.Search.{left, dead, not_dead, fresh, answered, search, whole_run}
use Rattle.rules.specs.Answers as Rules
use Rattle.rules.specs.Answers.{most_colours, answer_of, written}
use Rattle.rules.specs.Promises.{Promise, of_outcome}
use Rattle.rules.proofs.Tests.{clash}
use Rattle.rules.proofs.Room as Room
use Rattle.rules.proofs.Room.{waiting_few}
use Rattle.rules.proofs.Promises.{run_promise, dead_stores_none}
use Rattle.lines.specs.declared.machine.Machine.{Machine}
use Rattle.boards.specs.declared.board.Board.{Board}
use Rattle.boards.specs.Board.{board_of}
use Rattle.boards.specs.Table.{Table, Playable}
use Rattle.boards.proofs.Sizes.{few_cells}
use Rattle.notes.specs.declared.round.Notes.{Notes}
use Rattle.notes.specs.Round.{notes_of}
use Rattle.runs.specs.declared.limits.Limits.{Limits}
use Rattle.runs.specs.declared.limits.Stats.{Stats}
use Rattle.runs.specs.Matches.{limits_of, Matches}
use Rattle.guesses.specs.declared.waiting.Guesses.{Guesses}
use Rattle.guesses.specs.Waiting.{Waiting, IfRoom}
use Rattle.backtracking.specs.declared.ended.Ended.{Ended}
use Rattle.backtracking.specs.Setting.{Ready, Setting, LeftTo}
use Rattle.backtracking.specs.Comes
use Rattle.backtracking.specs.Comes.{depth_of, SearchStands}
use Rattle.backtracking.proofs.Boarding.{sized_on, size_cells}
use Rattle.belutharin.specs.declared.answers.TheConstants.{FRESH}
use Rattle.belutharin.specs.declared.answers.Outcome.{Outcome}
use Rattle.belutharin.specs.declared.answers.Outcome.TheVariants.{Listed, DeadEnd}
use Rattle.belutharin.specs.Answers.{outcome_number, asked, answer, Searches}
use Rattle.belutharin.proofs.Beginning.{puzzle, playable, Begun, same_lines}

-- the counts of a run by value are those of the rules' run
counts_same : {n : ℕ} {lent out : List ℕ} {s : Stats} {u : Run} (o : Outcome) (cells list : List ℕ) → Matches n lent s out u →
    answer (Ok (record { outcome = o; stats = s })) cells list ≡ Rules.counted (outcome_number o) u cells list
counts_same o cells list i = λ j. record { number = outcome_number o; grids = i.grids j; steps = i.steps j; deepest = i.deepest j; limit = i.limit j; cells = cells; list = list }

module _ {b : Board} {machines : List Machine} {cells list : List ℕ} {l : Limits} {d : Board} {ns : Notes} (s : Begun b machines cells list l d ns) where
  same_cells : d.w * d.h ≡ b.w * b.h
  same_cells = size_cells s.size

  pub begun_ready : Ready d machines list l FRESH
  begun_ready = record {
    sized = sized_on s.size s.given.sized;
    table = same_lines s (λ w h. Playable w h machines) s.given.table;
    grids = s.given.grids;
    depth = s.given.depth;
    budget = s.given.budget;
    room = subst (λ n. l.grids * n ≤ length list) (sym same_cells) s.given.room;
    few = omega arith;
  }

  abbrev setting : (z : Puzzle) → Table z b.w b.h machines → Setting d.w d.h machines
  setting z t = record { puzzle = z; table = same_lines s (λ w h. Table z w h machines) t; lent = list }

  fresh_is : Matches (d.w * d.h) list FRESH list fresh
  unfolding written
  fresh_is = record { grids = refl; steps = refl; deepest = refl; limit = refl; bytes = refl; sized = λ g m. absurd (Memᴰ.not-nil m) }

  module _ (waiting : Guesses) (chosen : IfRoom (choose (board_of d) (notes_of ns)) waiting) where
    wait : (z : Puzzle) → Table z b.w b.h machines → Waiting (choose (board_of d) (notes_of ns)) waiting
    wait z t = record { within = chosen.within; guesses = chosen.guesses (waiting_few most_colours (b.w * b.h) (choose (board_of d) (notes_of ns)) (omega arith) (few_cells b s.given.sized) (s.rest z t).few) }

    few_at : (z : Puzzle) → Table z b.w b.h machines → Room.Waiting most_colours (d.w * d.h) (choose (board_of d) (notes_of ns))
    few_at z t = subst (λ n. Room.Waiting most_colours n (choose (board_of d) (notes_of ns))) (sym same_cells) (s.rest z t).few

    pub begun_stands : SearchStands d waiting machines list FRESH
    begun_stands =
        let z = s.given.table.puzzle in
        let t = s.given.table.table in
        record {
          setting = setting z t;
          guesses = choose (board_of d) (notes_of ns);
          run = fresh;
          is = fresh_is;
          fine = (s.rest z t).fine;
          wait = wait z t;
          few = few_at z t;
        }

    module _ (unsolved : solved (board_of d) ≡ false) (e : Ended) (out : List ℕ) (f : Comes.Searches d waiting machines list l (l.depth + 1) FRESH e out) where
      abbrev search_at : Puzzle → ℕ → ℕ → Search.Left
      search_at z n k = search z (limits_of l) n k (board_of d) (choose (board_of d) (notes_of ns)) fresh

      -- what the search leaves
      ends : (z : Puzzle) (t : Table z b.w b.h machines) → LeftTo (setting z t) e out (search_at z (suc l.depth) 0)
      ends z t =
          let more : l.depth + 1 ≡ suc l.depth = omega arith in
          let none : depth_of l (l.depth + 1) ≡ 0 = omega arith in
          subst (λ n. LeftTo (setting z t) e out (search_at z n 0)) more
          (subst (λ k. LeftTo (setting z t) e out (search_at z (l.depth + 1) k)) none
          (f.to (setting z t) (choose (board_of d) (notes_of ns)) fresh fresh_is (s.rest z t).fine (wait z t) (few_at z t)))

      rest_is : (z : Puzzle) → Table z b.w b.h machines → whole_run z (limits_of l) cells ≡ answered (search_at z (suc l.depth) 0)
      rest_is z t = (s.rest z t).left ∙ ap (λ v. elim v as (λ _. Search.Outcome) [ true ↦ Search.checked z (limits_of l) (board_of d) | false ↦ answered (search_at z (suc l.depth) 0) ]) unsolved

      pub begun_dead : e.dead ≡ true → Searches b machines l cells list (record { outcome = DeadEnd; stats = e.stats }) cells out
      unfolding written
      begun_dead h k bytes clues t = go (search_at (puzzle b clues) (suc l.depth) 0) (ends (puzzle b clues) t) (rest_is (puzzle b clues) t)
        where
          go : (v : Search.Left) → LeftTo (setting (puzzle b clues) t) e out v → whole_run (puzzle b clues) (limits_of l) cells ≡ answered v →
              answer (Ok (record { outcome = DeadEnd; stats = e.stats })) cells out ≡ answer_of (asked b.w b.h k l.grids l.depth l.budget bytes cells list) (whole_run (puzzle b clues) (limits_of l) cells)
          go (left not_dead a u) i q = clash h i.0
          go (left dead a u) i q = counts_same DeadEnd cells out i.2 ∙ ap (λ v. Rules.counted 3 u cells v) (i.2.bytes ∙ ap (λ v. written v list) nothing)
              ∙ ap (answer_of (asked b.w b.h k l.grids l.depth l.budget bytes cells list)) (sym q)
            where
              nothing : u.stored ≡ []
              nothing = dead_stores_none (puzzle b clues) (limits_of l) most_colours (omega arith) cells (playable s.given (puzzle b clues) t) u
                  (subst (λ v. Promise (puzzle b clues) (limits_of l) most_colours cells (of_outcome cells v)) q (run_promise (puzzle b clues) (limits_of l) most_colours (omega arith) cells (playable s.given (puzzle b clues) t)))

      pub begun_listed : e.dead ≡ false → (back : List ℕ) → back ≡ board_of e.board → Searches b machines l cells list (record { outcome = Listed; stats = e.stats }) back out
      begun_listed h back o k bytes clues t = go (search_at (puzzle b clues) (suc l.depth) 0) (ends (puzzle b clues) t) (rest_is (puzzle b clues) t)
        where
          go : (v : Search.Left) → LeftTo (setting (puzzle b clues) t) e out v → whole_run (puzzle b clues) (limits_of l) cells ≡ answered v →
              answer (Ok (record { outcome = Listed; stats = e.stats })) back out ≡ answer_of (asked b.w b.h k l.grids l.depth l.budget bytes cells list) (whole_run (puzzle b clues) (limits_of l) cells)
          go (left dead a u) i q = clash i.0 h
          go (left not_dead a u) i q = counts_same Listed back out i.2 ∙ (λ j. Rules.counted 2 u ((o ∙ i.1) j) (i.2.bytes j))
              ∙ ap (answer_of (asked b.w b.h k l.grids l.depth l.budget bytes cells list)) (sym q)
