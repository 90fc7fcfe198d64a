-- What comes after a guess: it is noted as made, or its colour is gone.
use mathlib.Core.Path.{◌≡◌, refl, sym, ap, subst, ◌∙◌}
use mathlib.Core.Bool.{Bool, true}
use mathlib.Core.List.{List}
use Prim.Native.Nat.{ℕ, suc, ◌*◌, ◌^◌, ◌≤◌, ◌<◌}
use native.Mathlib.Omega.{arith}
use lib.ListN.{length, get_or}
use Rattle.std.specs.declared.ops.ControlFlow.{ControlFlow}
use Rattle.std.specs.declared.ops.ControlFlow.TheVariants.{Continue, Break}
use Rattle.rules.specs.Sets.{has, empty, colours, without}
use Rattle.rules.specs.Boards as Rules
use Rattle.rules.specs.Boards.{at, remove}
use Rattle.rules.specs.Probing.{Run}
use Rattle.rules.specs.Guesses.{Guess}
use Rattle.rules.specs.Answers.{most_colours, most_waiting}
use Rattle.rules.specs.Search.{End, dead, not_dead, others}
use Rattle.rules.proofs.Tests.{on_test, clash}
use Rattle.rules.proofs.Sets.{member, member_low}
use Rattle.rules.proofs.Narrowing.{⊑_trans, sub_low, remove_sub}
use Rattle.rules.proofs.Room as Room
use Rattle.lines.specs.declared.machine.Machine.{Machine}
use Rattle.boards.specs.declared.board.Board.{Board}
use Rattle.boards.specs.Board.{board_of, Sized, SameSize, with_cell}
use Rattle.boards.proofs.Sizes.{few_cells}
use Rattle.runs.specs.declared.limits.Limits.{Limits}
use Rattle.runs.specs.declared.limits.Stats.{Stats}
use Rattle.guesses.specs.declared.waiting.Guesses.{Guesses}
use Rattle.guesses.specs.Waiting.{guesses_of, Waiting, IfRoom}
use Rattle.guesses.specs.Made.{Made}
use Rattle.backtracking.specs.Parts.{is_dead, Own, ends, goes, own_probing, after_own, after}
use Rattle.backtracking.specs.Setting.{Setting, RunIs, Fine, Few, Stands, OwnTo, TurnTo}
use Rattle.backtracking.specs.Comes.{ProbesNode, Ends}
use Rattle.backtracking.specs.declared.ended.Ended.{Ended}
use Rattle.backtracking.specs.declared.node.Node.{Node}
use Rattle.backtracking.proofs.Boarding.{size_more, size_with, size_cells, of_size, cell_at, remove_with, empty_zero, not_zero}
use Rattle.backtracking.proofs.Owning.{OwnBelow, own_below}

module _ (t : Node) (c x : ℕ) (isdead : Bool) (machines : List Machine) (list : List ℕ) (l : Limits) (few : t.stats.grids ≤ l.grids) (within : t.guesses.head ≤ most_waiting) where
  -- what the rules' step after a guess comes to
  abbrev Case : ControlFlow Ended Node → List ℕ → Type 0
  Case r out = (g : Setting t.board.w t.board.h machines) (b : Rules.Board) (gs : List Guess) (p : Bool) (those : List Guess) (s : Run) (d : End) → Stands g t list b gs p those s →
      isdead ≡ is_dead d → Fine g b → Few g gs → has (at b c) x ≡ true → (d ≡ dead → t.stats.grids < l.grids) → TurnTo g r out (after g.puzzle b c x gs p those d s)

  module _ (a : Board) (low : c < t.board.w * t.board.h) (died : isdead ≡ true) (gone : a ≡ with_cell t.board c (without (get_or t.board.cells c 0) x)) where
    pub gone_size : SameSize t.board a
    gone_size = size_with _ gone

    gone_board : {b : Rules.Board} → board_of t.board ≡ b → board_of a ≡ remove b c x
    gone_board e = ap board_of gone ∙ remove_with t.board c x low ∙ ap (λ b. remove b c x) e

    gone_cell : {b : Rules.Board} → board_of t.board ≡ b → get_or a.cells c 0 ≡ at (remove b c x) c
    gone_cell e = sym (cell_at a c (subst (λ n. c < n) (sym (size_cells gone_size)) low)) ∙ ap (λ b. at b c) (gone_board e)

    -- it was the cell's last colour
    pub ends_last : get_or a.cells c 0 ≡ 0 → Ends t c x isdead machines list l (Break (record { dead = true; board = a; stats = t.stats })) list
    ends_last z = record { within = record { size = gone_size; few = few }; to = go }
      where
        go : Case (Break (record { dead = true; board = a; stats = t.stats })) list
        go g b gs p those s not_dead is q fine room there k = clash died q
        go g b gs p those s dead is q fine room there k = on_test (TurnTo g (Break (record { dead = true; board = a; stats = t.stats })) list) (empty (at (remove b c x) c))
            (λ _. (refl, gone_board is.board, is.run))
            (λ e. clash (empty_zero (at (remove b c x) c) (sym (gone_cell is.board) ∙ z)) e)

    -- the node is probed
    module _ (set : ℕ) (reads : set ≡ get_or a.cells c 0) (byte : set < 256) (some : set ≡ 0 → ⊥) where
      -- what the rules' step comes to, by the end of the probing
      after_probed : {o : ControlFlow Ended (Board × Stats)} {out : List ℕ} (r : ControlFlow Ended Node) → ProbesNode a machines list l t.stats o out →
          ((g : Setting t.board.w t.board.h machines) (b : Rules.Board) (gs those : List Guess) → Waiting gs t.guesses → Made t.made those → Fine g b → Few g gs → (v : Own) →
          OwnTo g o out v → OwnBelow (remove b c x) v → TurnTo g r out (after_own (λ e. others c x (colours (at e c)) gs) those v)) → Case r out
      after_probed r w turn g b gs p those s not_dead is q fine room there k = clash died q
      after_probed {o} {out} r w turn g b gs p those s dead is q fine room there k = on_test (TurnTo g r out) (empty (at (remove b c x) c))
          (λ e. clash e (ap empty (sym (reads ∙ gone_cell is.board)) ∙ not_zero set byte some))
          (λ _. turn g b gs those is.waiting is.made fine room (own_probing g.puzzle (remove b c x) s)
          (subst (λ b. OwnTo g o out (own_probing g.puzzle b s)) (gone_board is.board) (own g s is.run (k refl)))
          (own_below g.puzzle (remove b c x) s))
        where
          own : (g : Setting t.board.w t.board.h machines) (u : Run) → RunIs g t.stats list u → t.stats.grids < l.grids → OwnTo g o out (own_probing g.puzzle (board_of a) u)
          own = of_size (λ (d : Board). ProbesNode d machines list l t.stats o out → (g : Setting t.board.w t.board.h machines) (u : Run) → RunIs g t.stats list u → t.stats.grids < l.grids →
              OwnTo g o out (own_probing g.puzzle (board_of d) u)) gone_size (λ cells v g u m h. v.to g u m h) w

      -- and ends
      pub ends_over : {r : Ended} {out : List ℕ} → ProbesNode a machines list l t.stats (Break r) out → Ends t c x isdead machines list l (Break r) out
      ends_over {r} {out} w = record { within = record { size = size_more gone_size w.within.size; few = w.within.few }; to = after_probed (Break r) w turn }
        where
          turn : (g : Setting t.board.w t.board.h machines) (b : Rules.Board) (gs those : List Guess) → Waiting gs t.guesses → Made t.made those → Fine g b → Few g gs → (v : Own) →
              OwnTo g (Break r) out v → OwnBelow (remove b c x) v → TurnTo g (Break r) out (after_own (λ e. others c x (colours (at e c)) gs) those v)
          turn g b gs those i j fine room (ends e f u) m below = m
          turn g b gs those i j fine room (goes e u) m below = absurd m

      -- or goes on, and the cell's other colours wait
      pub ends_probed : {o : Board} {s : Stats} {out : List ℕ} (rest : Guesses) (now : ℕ) → Sized t.board → ProbesNode a machines list l t.stats (Continue (o, s)) out →
          now ≡ get_or o.cells c 0 → IfRoom (others c x (colours now) (guesses_of t.guesses)) rest →
          Ends t c x isdead machines list l (Continue (record { board = o; guesses = rest; probed = true; made = t.made; stats = s })) out
      ends_probed {o} {s} {out} rest now sized w read waits = record {
        within = record { size = size_more gone_size w.within.size; few = w.within.few; within = waits.within };
        to = after_probed (Continue next) w turn;
      }
        where
          next : Node
          next = record { board = o; guesses = rest; probed = true; made = t.made; stats = s }

          read_at : {e : Rules.Board} → board_of o ≡ e → now ≡ at e c
          read_at q = read ∙ sym (cell_at o c (subst (λ n. c < n) (sym (size_cells (size_more gone_size w.within.size))) low)) ∙ ap (λ b. at b c) q

          turn : (g : Setting t.board.w t.board.h machines) (b : Rules.Board) (gs those : List Guess) → Waiting gs t.guesses → Made t.made those → Fine g b → Few g gs → (v : Own) →
              OwnTo g (Continue (o, s)) out v → OwnBelow (remove b c x) v → TurnTo g (Continue next) out (after_own (λ e. others c x (colours (at e c)) gs) those v)
          turn g b gs those i j fine room (ends e f u) m below = absurd m
          turn g b gs those i j fine room (goes e u) (q, m) below =
              let small : at e c < 2 ^ suc most_colours = sub_low c (2 ^ suc most_colours) (⊑_trans below (remove_sub b c x)) (fine.low c) in
              let fits = Room.waiting_few most_colours (t.board.w * t.board.h) (others c x (colours (at e c)) gs) (omega arith) (few_cells t.board sized)
              (Room.others_waiting most_colours (t.board.w * t.board.h) c x (colours (at e c)) gs low (λ y n. member_low (suc most_colours) (at e c) y small (member 8 (at e c) n).1) room) in
              let same : others c x (colours now) (guesses_of t.guesses) ≡ others c x (colours (at e c)) gs =
              ap (λ v. others c x (colours v) (guesses_of t.guesses)) (read_at q) ∙ ap (others c x (colours (at e c))) i.guesses in
              record {
                board = q;
                waiting = record { within = waits.within; guesses = waits.guesses (subst (λ (hs : List Guess). length hs ≤ most_waiting) (sym same) fits) ∙ same };
                probed = refl;
                made = j;
                run = m;
              }
