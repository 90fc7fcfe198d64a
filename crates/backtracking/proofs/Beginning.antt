-- What comes before a guess is tried, by the ways it can go.
use mathlib.Core.Path.{◌≡◌, refl, sym, ap, subst, ◌∙◌}
use mathlib.Core.Bool.{Bool, true, false}
use mathlib.Core.List.{List, ◌∷◌}
use Prim.Native.Nat.{ℕ, suc, ◌*◌, ◌≤◌, ◌<◌}
use native.Mathlib.Omega.{arith}
use Rattle.std.specs.Prelude.{Option, None, Some}
use Rattle.std.specs.declared.ops.ControlFlow.{ControlFlow}
use Rattle.std.specs.declared.ops.ControlFlow.TheVariants.{Continue, Break}
use Rattle.rules.specs.Loops.{more, stop}
use Rattle.rules.specs.Sets.{has, single}
use Rattle.rules.specs.Boards as Rules
use Rattle.rules.specs.Boards.{at}
use Rattle.rules.specs.Probing.{Run}
use Rattle.rules.specs.Guesses as Choosing
use Rattle.rules.specs.Guesses.{guess}
use Rattle.rules.specs.Search.{not_dead, left, node, over, note, met}
use Rattle.rules.proofs.Tests.{on_test, on_number, clash}
use Rattle.lines.specs.declared.machine.Machine.{Machine}
use Rattle.boards.specs.declared.board.Board.{Board}
use Rattle.boards.specs.Board.{board_of}
use Rattle.runs.specs.declared.limits.Limits.{Limits}
use Rattle.runs.specs.declared.limits.Stats.{Stats}
use Rattle.runs.specs.Stats.{limit_met}
use Rattle.runs.specs.Matches.{limits_of}
use Rattle.guesses.specs.declared.waiting.Guess.{Guess}
use Rattle.guesses.specs.declared.waiting.Guesses.{Guesses}
use Rattle.guesses.specs.Waiting.{guesses_of, next, Waiting, Rest}
use Rattle.guesses.specs.Made.{Made}
use Rattle.backtracking.specs.Parts.{Own, ends, goes, own_probing, after_own, Before, turned, tries, lone_guess, before}
use Rattle.backtracking.specs.Setting.{Setting, RunIs, Stands, OwnTo, BeforeTo, NodeWithin}
use Rattle.backtracking.specs.Comes.{Asks, ProbesNode, Begins}
use Rattle.backtracking.specs.declared.ended.Ended.{Ended}
use Rattle.backtracking.specs.declared.node.Node.{Node}
use Rattle.backtracking.proofs.Boarding.{size_same}
use Rattle.backtracking.proofs.Asking.{limit_none, asks_within, unmet, met_some, met_left}

module _ (t : Node) (machines : List Machine) (list : List ℕ) (l : Limits) (d : ℕ) (few : t.stats.grids ≤ l.grids) where
  -- a limit is met
  pub begins_met : {r : Ended} → Asks t.board t.stats l d (Break r) → Begins t machines list l d (Break r) list
  begins_met {r} e = record {
    within = asks_within few e;
    to = λ g b c x gs p made s is. on_number (BeforeTo g (Break r) list) (met g.puzzle (limits_of l) s d) {f = λ n. turned (stop (over (left not_dead b (note (suc n) s))))}
        (λ z. absurd (met_some g l d is.run e z))
        (λ n z. met_left g l d is.run e is.board n z);
  }

  module _ (free : limit_met t.stats l d ≡ None) (h : Guess) (rest : Guesses) (next_is : guess h.cell.0 h.colour.0 ≡ next t.guesses) (after_next : Rest t.guesses rest) where
    -- the node with the other guesses
    abbrev again : Node
    again = record t { guesses = rest }

    again_within : NodeWithin t.board l again
    again_within = record { size = size_same t.board; few = few; within = after_next.within }

    -- the guess that the rules take next
    record Next (c x : ℕ) (gs : List Choosing.Guess) : Type 0 where
      cell_is : h.cell.0 ≡ c
      colour_is : h.colour.0 ≡ x
      waiting : Waiting gs rest

    taken : (c x : ℕ) (gs : List Choosing.Guess) → Waiting (guess c x ∷ gs) t.guesses → Next c x gs
    taken c x gs w =
        let e : guess h.cell.0 h.colour.0 ∷ guesses_of rest ≡ guess c x ∷ gs = ap (λ a. a ∷ guesses_of rest) next_is ∙ sym after_next.guesses ∙ w.guesses in
        record { cell_is = cc; colour_is = cc; waiting = record { within = after_next.within; guesses = cc } }

    -- the step, no limit being met
    steps : (r : ControlFlow Ended (Node × Option Guess)) (out : List ℕ) (g : Setting t.board.w t.board.h machines) (b : Rules.Board) (c x : ℕ) (gs : List Choosing.Guess) (p : Bool) (made : List Choosing.Guess) (s : Run) →
        RunIs g t.stats list s →
        BeforeTo g r out (elim (has (at b c) x) as (λ _. Before) [
          | false ↦ turned (more (node b gs p made s))
          | true ↦ elim (single (at b c)) as (λ _. Before) [ true ↦ turned (lone_guess g.puzzle b gs p made s) | false ↦ tries c x (node b gs p made s) ]
        ]) → BeforeTo g r out (before g.puzzle (limits_of l) d b c x gs p made s)
    steps r out g b c x gs p made s m i = on_number (BeforeTo g r out) (met g.puzzle (limits_of l) s d) {f = λ n. turned (stop (over (left not_dead b (note (suc n) s))))}
        (λ _. i) (λ n z. absurd (let y : suc n ≡ 0 = sym z ∙ unmet g l d m free in omega arith))

    -- the cell's colours, as the code reads them and as the rules do
    reads : (v : Bool) {b : Rules.Board} {c x : ℕ} → board_of t.board ≡ b → h.cell.0 ≡ c → h.colour.0 ≡ x → has (at (board_of t.board) h.cell.0) h.colour.0 ≡ v → has (at b c) x ≡ v
    reads v {b} {c} {x} e f k q = ap (λ b. has (at b c) x) (sym e) ∙ ap (λ c. has (at (board_of t.board) c) x) (sym f) ∙ ap (has (at (board_of t.board) h.cell.0)) (sym k) ∙ q

    alone : (v : Bool) {b : Rules.Board} {c : ℕ} → board_of t.board ≡ b → h.cell.0 ≡ c → single (at (board_of t.board) h.cell.0) ≡ v → single (at b c) ≡ v
    alone v {b} {c} e f q = ap (λ b. single (at b c)) (sym e) ∙ ap (λ c. single (at (board_of t.board) c)) (sym f) ∙ q

    -- the colour is gone
    pub begins_gone : has (at (board_of t.board) h.cell.0) h.colour.0 ≡ false → Begins t machines list l d (Continue (again, None)) list
    begins_gone q = record {
      within = (again_within, tt);
      to = λ g b c x gs p made s is. let n = taken c x gs is.waiting in
          steps (Continue (again, None)) list g b c x gs p made s is.run (on_test (BeforeTo g (Continue (again, None)) list) (has (at b c) x)
          (λ e. clash e (reads false is.board n.cell_is n.colour_is q))
          (λ _. record { board = is.board; waiting = n.waiting; probed = is.probed; made = is.made; run = is.run }));
    }

    module _ (here : has (at (board_of t.board) h.cell.0) h.colour.0 ≡ true) where
      -- the guess is to be tried
      pub begins_tries : h.cell.0 < t.board.w * t.board.h → h.colour.0 < 8 → single (at (board_of t.board) h.cell.0) ≡ false → Begins t machines list l d (Continue (again, Some h)) list
      begins_tries i j k = record {
        within = (
          again_within,
          record { board = refl; stats = refl; untouched = refl; cell = i; colour = j; grids = (limit_none t.stats l d free).0; steps = (limit_none t.stats l d free).1 },
        );
        to = λ g b c x gs p made s is. let n = taken c x gs is.waiting in
            steps (Continue (again, Some h)) list g b c x gs p made s is.run (on_test (BeforeTo g (Continue (again, Some h)) list) (has (at b c) x)
            (λ _. on_test (BeforeTo g (Continue (again, Some h)) list) (single (at b c))
            (λ e. clash e (alone false is.board n.cell_is k))
            (λ _. (n.cell_is, n.colour_is, record { board = is.board; waiting = n.waiting; probed = is.probed; made = is.made; run = is.run })))
            (λ e. clash (reads true is.board n.cell_is n.colour_is here) e));
      }

      module _ (one : single (at (board_of t.board) h.cell.0) ≡ true) where
        -- the cell has one colour left, and the node has been probed
        pub begins_lone : t.probed ≡ true → Begins t machines list l d (Continue (again, None)) list
        begins_lone q = record {
          within = (again_within, tt);
          to = λ g b c x gs p made s is. let n = taken c x gs is.waiting in
              steps (Continue (again, None)) list g b c x gs p made s is.run (on_test (BeforeTo g (Continue (again, None)) list) (has (at b c) x)
              (λ _. on_test (BeforeTo g (Continue (again, None)) list) (single (at b c))
              (λ _. subst (λ v. BeforeTo g (Continue (again, None)) list (turned (lone_guess g.puzzle b gs v made s))) (sym q ∙ is.probed)
              (record { board = is.board; waiting = n.waiting; probed = q; made = is.made; run = is.run }))
              (λ e. clash (alone true is.board n.cell_is one) e))
              (λ e. clash (reads true is.board n.cell_is n.colour_is here) e));
        }

        -- it has not been probed: what its own probing comes to
        own : {o : ControlFlow Ended (Board × Stats)} {out : List ℕ} (r : ControlFlow Ended (Node × Option Guess)) → t.probed ≡ false → ProbesNode t.board machines list l t.stats o out →
            ((g : Setting t.board.w t.board.h machines) (gs made : List Choosing.Guess) → Waiting gs rest → Made t.made made → (v : Own) → OwnTo g o out v → BeforeTo g r out (turned (after_own (λ a. gs) made v))) →
            (g : Setting t.board.w t.board.h machines) (b : Rules.Board) (c x : ℕ) (gs : List Choosing.Guess) (p : Bool) (made : List Choosing.Guess) (s : Run) →
            Stands g t list b (guess c x ∷ gs) p made s → BeforeTo g r out (before g.puzzle (limits_of l) d b c x gs p made s)
        own {o} {out} r q w go g b c x gs p made s is = let n = taken c x gs is.waiting in
            steps r out g b c x gs p made s is.run (on_test (BeforeTo g r out) (has (at b c) x)
            (λ _. on_test (BeforeTo g r out) (single (at b c))
            (λ _. subst (λ v. BeforeTo g r out (turned (lone_guess g.puzzle b gs v made s))) (sym q ∙ is.probed)
            (go g gs made n.waiting is.made (own_probing g.puzzle b s)
            (subst (λ b. OwnTo g o out (own_probing g.puzzle b s)) is.board (w.to g s is.run (limit_none t.stats l d free).0))))
            (λ e. clash (alone true is.board n.cell_is one) e))
            (λ e. clash (reads true is.board n.cell_is n.colour_is here) e))

        -- it ends the node
        pub begins_over : {r : Ended} {out : List ℕ} → t.probed ≡ false → ProbesNode t.board machines list l t.stats (Break r) out → Begins t machines list l d (Break r) out
        begins_over {r} {out} q w = record { within = w.within; to = own (Break r) q w go }
          where
            go : (g : Setting t.board.w t.board.h machines) (gs made : List Choosing.Guess) → Waiting gs rest → Made t.made made → (v : Own) → OwnTo g (Break r) out v →
                BeforeTo g (Break r) out (turned (after_own (λ a. gs) made v))
            go g gs made i j (ends e a u) m = m
            go g gs made i j (goes a u) m = absurd m

        -- the node goes on
        pub begins_probed : {a : Board} {s : Stats} {out : List ℕ} → t.probed ≡ false → ProbesNode t.board machines list l t.stats (Continue (a, s)) out →
            Begins t machines list l d (Continue (record { board = a; guesses = rest; probed = true; made = t.made; stats = s }, None)) out
        begins_probed {a} {s} {out} q w = record {
          within = (record { size = w.within.size; few = w.within.few; within = after_next.within }, tt);
          to = own (Continue (after, None)) q w go;
        }
          where
            after : Node
            after = record { board = a; guesses = rest; probed = true; made = t.made; stats = s }

            go : (g : Setting t.board.w t.board.h machines) (gs made : List Choosing.Guess) → Waiting gs rest → Made t.made made → (v : Own) → OwnTo g (Continue (a, s)) out v →
                BeforeTo g (Continue (after, None)) out (turned (after_own (λ a. gs) made v))
            go g gs made i j (ends e b u) m = absurd m
            go g gs made i j (goes b u) (q, m) = record { board = q; waiting = i; probed = refl; made = j; run = m }
