-- A turn of a node: the next guess, with what comes before it and after it, is the rules' step of a pass.
use mathlib.Core.Path.{◌≡◌, refl, sym, ap, ap₂, subst, ◌∙◌}
use mathlib.Core.Logic.{◌⊎◌, inl, inr}
use mathlib.Core.Bool.{Bool, true}
use mathlib.Core.List.{List, [], ◌∷◌}
use Prim.Native.Nat.{ℕ, suc, ◌+◌, ◌-◌, ◌*◌, ◌^◌, ◌≤◌, ◌<◌}
use native.Mathlib.Omega.{arith}
use lib.ListN.{length, take}
use Rattle.std.specs.Prelude.{Option, None, Some}
use Rattle.std.specs.declared.ops.ControlFlow.{ControlFlow}
use Rattle.std.specs.declared.ops.ControlFlow.TheVariants.{Continue, Break}
use Rattle.rules.specs.Loops.{Turn, more, stop}
use Rattle.rules.specs.Sets.{has, single}
use Rattle.rules.specs.Boards as Rules
use Rattle.rules.specs.Boards.{at, Puzzle}
use Rattle.rules.specs.Probing.{Run, steps}
use Rattle.rules.specs.Guesses.{Guess, guess}
use Rattle.rules.specs.Answers.{most_colours, most_waiting}
use Rattle.rules.specs.Search as Search
use Rattle.rules.specs.Search.{Limits, End, dead, not_dead, Tried, tried, node, Pass, met, after_guess}
use Rattle.rules.proofs.Tests.{on_test, on_number}
use Rattle.rules.proofs.Room as Room
use Rattle.rules.proofs.Runs.{met_none}
use Rattle.rules.proofs.Bounds.{Bounded, TriedBounded}
use Rattle.lines.specs.declared.machine.Machine.{Machine}
use Rattle.boards.specs.declared.board.Board.{Board}
use Rattle.boards.specs.Board.{board_of, SameSize, with_cells}
use Rattle.boards.proofs.Sizes.{few_cells}
use Rattle.runs.specs.declared.limits.Limits.{Limits as Given}
use Rattle.runs.specs.Matches.{limits_of}
use Rattle.guesses.specs.declared.waiting.Guess.{Guess as GuessByValue}
use Rattle.guesses.specs.Waiting.{Waiting}
use Rattle.guesses.proofs.Arrays.{guesses_length}
use Rattle.backtracking.specs.Parts.{Before, turned, tries, lone_guess, before, after, is_dead}
use Rattle.backtracking.specs.Setting.{Ready, Setting, RunIs, Fine, Few, TriedTo, Stands, NodeIs, NodeFine, TurnTo, BeforeTo, NodeWithin, EndWithin}
use Rattle.backtracking.specs.Comes.{Begins, Ends, depth_of, NodeStands, GuessStands, Tries, Turns}
use Rattle.backtracking.specs.declared.node.Node.{Node}
use Rattle.backtracking.specs.declared.ended.Ended.{Ended}
use Rattle.backtracking.proofs.Parts.{after_before, before_is, after_is}
use Rattle.backtracking.proofs.Boarding.{size_more, at_size}
use Rattle.backtracking.proofs.Fine.{most_steps, tried_within, steps_few}
use Rattle.backtracking.proofs.Passing.{trying_at, step_at}

-- ## Before a guess

module _ (z : Puzzle) (l : Limits) (d : ℕ) (b : Rules.Board) (c x : ℕ) (gs : List Guess) (p : Bool) (made : List Guess) (s : Run) where
  -- a guess that is tried, with what was asked before it
  abbrev IsTried : Before → Type 0
  IsTried v = (v ≡ tries c x (node b gs p made s)) × (met z l s d ≡ 0) × (has (at b c) x ≡ true)

  abbrev Either : Before → Type 0
  Either v = IsTried v ⊎ ((u : Turn Search.Node Pass) × (v ≡ turned u))

  before_either : Either (before z l d b c x gs p made s)
  before_either = on_number Either (met z l s d)
      (λ e. on_test Either (has (at b c) x)
      (λ k. on_test Either (single (at b c)) (λ _. inr (lone_guess z b gs p made s, refl)) (λ _. inl (refl, e, k)))
      (λ _. inr (more (node b gs p made s), refl)))
      (λ m _. inr (stop (Search.over (Search.left not_dead b (Search.note (suc m) s))), refl))

-- where a guess waits the rules' guesses are not empty
none_waits : {P : Type 0} (t : Node) → t.guesses.head < most_waiting → Waiting [] t.guesses → P
none_waits t waits i = absurd (let e = ap length i.guesses in omega (arith, guesses_length t.guesses))

module _ (left : ℕ) {t : Node} {machines : List Machine} {list : List ℕ} {l : Given} (waits : t.guesses.head < most_waiting) where
  -- ## A guess that is not tried

  turned_to : {r : ControlFlow Ended (Node × Option GuessByValue)} {out : List ℕ} (u : ControlFlow Ended Node) → Begins t machines list l (depth_of l left) r out →
      ((g : Setting t.board.w t.board.h machines) (v : Before) → BeforeTo g r out v → TurnTo g u out (after_before g.puzzle (limits_of l) (trying_at g l left) (depth_of l left) v)) →
      (g : Setting t.board.w t.board.h machines) (n : Search.Node) → NodeIs g t list n → TurnTo g u out (step_at g l left n)
  turned_to u w go g (node b [] p made s) is = none_waits t waits is.waiting
  turned_to {r} {out} u w go g (node b (guess c x ∷ gs) p made s) is =
      subst (TurnTo g u out) (sym (before_is g.puzzle (limits_of l) (trying_at g l left) (depth_of l left) b c x gs p made s))
      (go g (before g.puzzle (limits_of l) (depth_of l left) b c x gs p made s) (w.to g b c x gs p made s is))

  -- the node is over
  pub turn_over : {r : Ended} {out : List ℕ} → Begins t machines list l (depth_of l left) (Break r) out → Turns t machines list l left (Break r) out
  turn_over {r} {out} w = record { within = w.within; to = λ g n is fine. turned_to (Break r) w go g n is }
    where
      go : (g : Setting t.board.w t.board.h machines) (v : Before) → BeforeTo g (Break r) out v → TurnTo g (Break r) out (after_before g.puzzle (limits_of l) (trying_at g l left) (depth_of l left) v)
      go g (turned u) h = h
      go g (tries c x n) h = absurd h

  -- or it goes on
  pub turn_skipped : {n : Node} {out : List ℕ} → Begins t machines list l (depth_of l left) (Continue (n, None)) out → Turns t machines list l left (Continue n) out
  turn_skipped {n} {out} w = record { within = w.within.0; to = λ g m is fine. turned_to (Continue n) w go g m is }
    where
      go : (g : Setting t.board.w t.board.h machines) (v : Before) → BeforeTo g (Continue (n, None)) out v →
          TurnTo g (Continue n) out (after_before g.puzzle (limits_of l) (trying_at g l left) (depth_of l left) v)
      go g (turned u) h = h
      go g (tries c x m) h = absurd h

  -- ## A guess that is tried

  module _ {n : Node} {h : GuessByValue} {out : List ℕ} (w : Begins t machines list l (depth_of l left) (Continue (n, Some h)) out) where
    abbrev c : ℕ
    c = h.cell.0

    abbrev x : ℕ
    x = h.colour.0

    -- the rules' node as it is when the guess is tried
    record Tried-in (g : Setting t.board.w t.board.h machines) (m : Search.Node) : Type 0 where
      board : Rules.Board
      gs : List Guess
      p : Bool
      made : List Guess
      run : Run
      step : step_at g l left m ≡
          after_guess g.puzzle (limits_of l) (trying_at g l left) (depth_of l left) board c x gs p made (trying_at g l left board c x run)
      stands : Stands g n out board gs p made run
      fine : Fine g board
      few : Few g gs
      has_colour : has (at board c) x ≡ true
      room : (length run.stored < l.grids) × (steps run < l.budget)

    tried_in : (g : Setting t.board.w t.board.h machines) (m : Search.Node) → NodeIs g t list m → NodeFine g m → Tried-in g m
    tried_in g (node b [] p made s) is i = none_waits t waits is.waiting
    tried_in g (node b (guess k y ∷ gs) p made s) is i = elim (before_either g.puzzle (limits_of l) (depth_of l left) b k y gs p made s) [
      | inl q ↦ found q (subst (BeforeTo g (Continue (n, Some h)) out) q.0 (w.to g b k y gs p made s is))
      | inr q ↦ absurd (subst (BeforeTo g (Continue (n, Some h)) out) q.1 (w.to g b k y gs p made s is))
    ]
      where
        found : IsTried g.puzzle (limits_of l) (depth_of l left) b k y gs p made s (before g.puzzle (limits_of l) (depth_of l left) b k y gs p made s) →
            BeforeTo g (Continue (n, Some h)) out (tries k y (node b gs p made s)) → Tried-in g (node b (guess k y ∷ gs) p made s)
        found q o = record {
          board = b;
          gs = gs;
          p = p;
          made = made;
          run = s;
          step = before_is g.puzzle (limits_of l) (trying_at g l left) (depth_of l left) b k y gs p made s
              ∙ ap (after_before g.puzzle (limits_of l) (trying_at g l left) (depth_of l left)) q.0
              ∙ ap₂ (λ (u v : ℕ). after_guess g.puzzle (limits_of l) (trying_at g l left) (depth_of l left) b u v gs p made (trying_at g l left b u v s)) (sym o.0) (sym o.1);
          stands = o.2;
          fine = i.0;
          few = Room.taken_waiting most_colours (t.board.w * t.board.h) (guess k y) gs i.1;
          has_colour = rw (o.0, o.1) q.2;
          room = met_none g.puzzle (limits_of l) s (depth_of l left) q.1;
        }

    -- a guess of the rules that the code's stands for
    pub guess_stands : NodeStands t machines list → GuessStands n.board c x machines out n.stats
    guess_stands m = subst (λ b. GuessStands b c x machines out n.stats) (sym w.within.1.board) (record {
      setting = m.setting;
      run = k.run;
      is = k.stands.run;
      fine = subst (Fine m.setting) (sym here) k.fine;
      has_colour = subst (λ b. has (at b c) x ≡ true) (sym here) k.has_colour;
    })
      where
        k : Tried-in m.setting m.node
        k = tried_in m.setting m.node m.is m.fine

        here : board_of t.board ≡ k.board
        here = ap board_of (sym w.within.1.board) ∙ k.stands.board

    module _ (some_left : 1 ≤ left) (deep : left ≤ l.depth + 1) {q : Ended} {tried-out : List ℕ}
        (v : Tries n.board c x machines out l (left - 1) n.stats q tried-out) where
      -- the guess has come to what the rules say, within its bounds
      record Came (g : Setting t.board.w t.board.h machines) (m : Search.Node) : Type 0 where
        before_it : Tried-in g m
        end : End
        run : Run
        came : trying_at g l left before_it.board c x before_it.run ≡ tried end run
        is : TriedTo g q tried-out (tried end run)
        bounded : Bounded g.puzzle (limits_of l) (most_steps g l left) end run

      came_to : (g : Setting t.board.w t.board.h machines) (m : Search.Node) → NodeIs g t list m → NodeFine g m → Came g m
      came_to g m is fine = go (trying_at g l left k.board c x k.run) refl
          (subst (λ b. TriedTo g q tried-out (trying_at g l left b c x k.run)) k.stands.board
          (at_size
          (λ a b. (g : Setting a b machines) (s : Run) → RunIs g n.stats out s → Fine g (board_of n.board) → has (at (board_of n.board) c) x ≡ true →
          TriedTo g q tried-out (trying_at g l left (board_of n.board) c x s))
          w.within.0.size v.to g k.run k.stands.run (subst (Fine g) (sym k.stands.board) k.fine) (subst (λ b. has (at b c) x ≡ true) (sym k.stands.board) k.has_colour)))
          (tried_within g l left some_left deep k.board c x k.run k.fine k.has_colour k.room.0 k.room.1)
        where
          k : Tried-in g m
          k = tried_in g m is fine

          go : (o : Tried) → trying_at g l left k.board c x k.run ≡ o → TriedTo g q tried-out o →
              TriedBounded g.puzzle (limits_of l) (most_steps g l left) (trying_at g l left k.board c x k.run) → Came g m
          go (tried a s) o e y = record {
            before_it = k;
            end = a;
            run = s;
            came = o;
            is = e;
            bounded = subst (TriedBounded g.puzzle (limits_of l) (most_steps g l left)) o y;
          }

      -- its steps stay few
      pub tried_steps : Ready t.board machines list l t.stats → NodeStands t machines list → q.stats.steps ≤ 2 ^ 40
      tried_steps y m =
          let k = came_to m.setting m.node m.is m.fine in
          steps_few m.setting l left some_left deep y.depth y.budget (few_cells t.board y.sized) q.stats.steps
          (subst (λ n. n ≤ most_steps m.setting l left) (sym k.is.1.steps) k.bounded.short)

      -- the board is restored, and the guess has ended
      module _ {restored : Board} (as-saved : restored ≡ with_cells q.board n.board.cells) where
        abbrev pub back : Node
        back = record n { board = restored; stats = q.stats }

        pub back_size : SameSize t.board restored
        back_size = record { wide = ap (λ b. b.w) as-saved ∙ v.within.size.wide ∙ w.within.0.size.wide; high = ap (λ b. b.h) as-saved ∙ v.within.size.high ∙ w.within.0.size.high }

        back_board : board_of restored ≡ board_of n.board
        back_board = ap board_of as-saved ∙ ap₂ (λ (a b : ℕ). take (a * b) n.board.cells) v.within.size.wide v.within.size.high

        ended_to : {u : ControlFlow Ended Node} {last : List ℕ} → Ends back c x q.dead machines tried-out l u last → (g : Setting t.board.w t.board.h machines) (m : Search.Node) → NodeIs g t list m → NodeFine g m →
            TurnTo g u last (step_at g l left m)
        ended_to {u} {last} i g m is fine = subst (TurnTo g u last)
            (sym (k.step ∙ ap (after_guess g.puzzle (limits_of l) (trying_at g l left) (depth_of l left) k.board c x k.gs k.p k.made) o.came
            ∙ after_is g.puzzle (limits_of l) (trying_at g l left) (depth_of l left) k.board c x k.gs k.p k.made o.end o.run))
            (at_size
            (λ a b. (g : Setting a b machines) (b : Rules.Board) (gs : List Guess) (p : Bool) (made : List Guess) (s : Run) (e : End) → Stands g back tried-out b gs p made s →
            q.dead ≡ is_dead e → Fine g b → Few g gs → has (at b c) x ≡ true → (e ≡ dead → q.stats.grids < l.grids) →
            TurnTo g u last (after g.puzzle b c x gs p made e s))
            back_size i.to g k.board k.gs k.p k.made o.run o.end
            (record { board = back_board ∙ k.stands.board; waiting = k.stands.waiting; probed = k.stands.probed; made = k.stands.made; run = o.is.1 })
            o.is.0 k.fine k.few k.has_colour (λ d. room o.end d o.bounded))
          where
            o : Came g m
            o = came_to g m is fine

            k : Tried-in g m
            k = o.before_it

            room : (a : End) → a ≡ dead → Bounded g.puzzle (limits_of l) (most_steps g l left) a o.run → q.stats.grids < l.grids
            room dead d y = subst (λ n. n < l.grids) (sym o.is.1.grids) y.few
            room not_dead d y = cc

        pub turn_tried : {u : ControlFlow Ended Node} {last : List ℕ} → Ends back c x q.dead machines tried-out l u last → Turns t machines list l left u last
        turn_tried {u} {last} i = record { within = more_within u i.within; to = ended_to i }
          where
            more_within : (u : ControlFlow Ended Node) → EndWithin restored l (NodeWithin restored l) u → EndWithin t.board l (NodeWithin t.board l) u
            more_within (Break r) j = record { size = size_more back_size j.size; few = j.few }
            more_within (Continue m) j = record { size = size_more back_size j.size; few = j.few; within = j.within }
