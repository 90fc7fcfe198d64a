-- A pass over a node's guesses, turn by turn, is the rules' pass.
use mathlib.Core.Path.{◌≡◌, refl, sym, ap, subst, ◌∙◌}
use mathlib.Core.List.{List, [], ◌∷◌}
use Prim.Native.Nat.{ℕ, ◌+◌, ◌-◌, ◌*◌, ◌≤◌, ◌<◌}
use native.Mathlib.Omega.{arith}
use lib.ListN.{length}
use Rattle.std.specs.declared.ops.ControlFlow.{ControlFlow}
use Rattle.std.specs.declared.ops.ControlFlow.TheVariants.{Continue, Break}
use Rattle.rules.specs.Loops.{Turn, more, stop, Holds}
use Rattle.rules.specs.Boards as Rules
use Rattle.rules.specs.Boards.{size}
use Rattle.rules.specs.Probing.{Run}
use Rattle.rules.specs.Guesses.{guess}
use Rattle.rules.specs.Search as Search
use Rattle.rules.specs.Search.{Left, Tried, node, Spent, Pass, over, ran_out, pass_step, pass_measure, pass, refill, after_pass}
use Rattle.rules.specs.Answers.{most_waiting}
use Rattle.rules.proofs.Ends.{pass_falls, pass_turn}
use Rattle.lines.specs.declared.machine.Machine.{Machine}
use Rattle.boards.specs.Board.{board_of, SameSize}
use Rattle.runs.specs.declared.limits.Limits.{Limits as Given}
use Rattle.runs.specs.Matches.{limits_of}
use Rattle.guesses.proofs.Arrays.{guesses_length}
use Rattle.backtracking.specs.Parts.{refilled}
use Rattle.backtracking.specs.Setting.{Setting, NodeIs, NodeFine, PassTo, TurnTo}
use Rattle.backtracking.specs.Comes.{depth_of, try_at, NodeStands, Passes, Turns}
use Rattle.backtracking.specs.declared.ended.Ended.{Ended}
use Rattle.backtracking.specs.declared.node.Node.{Node}
use Rattle.backtracking.proofs.Boarding.{size_more, at_size, size_at}
use Rattle.backtracking.proofs.Parts.{after_refill}
use Rattle.backtracking.proofs.Fine.{PassFine, step_fine}

-- a pass, its steps and M3 of the rules, where the search may go so much deeper
module _ {w h : ℕ} {machines : List Machine} (g : Setting w h machines) (l : Given) (left : ℕ) where
  abbrev pub trying_at : Rules.Board → ℕ → ℕ → Run → Tried
  trying_at = try_at g.puzzle l (left - 1)

  abbrev pub pass_at : Search.Node → Pass
  pass_at = pass g.puzzle (limits_of l) trying_at (depth_of l left)

  abbrev pub step_at : Search.Node → Turn Search.Node Pass
  step_at = pass_step g.puzzle (limits_of l) trying_at (depth_of l left)

  abbrev pub turn_of : Turn Search.Node Pass → Pass
  turn_of (more n) = pass_at n
  turn_of (stop r) = r

  abbrev pub after_pass_at : Pass → Left
  after_pass_at = after_pass g.puzzle (limits_of l) trying_at (depth_of l left)

  abbrev pub refill_at : Spent → Left
  refill_at = refill g.puzzle (limits_of l) trying_at (depth_of l left)

  abbrev pub refilled_at : Spent → Turn Search.Node Left
  refilled_at = refilled g.puzzle (limits_of l) (depth_of l left)

  abbrev pub after_refill_at : Turn Search.Node Left → Left
  after_refill_at = after_refill g.puzzle (limits_of l) trying_at (depth_of l left)

  -- a pass from n is a pass from the rules' node that t stands for
  pub record Follows (t : Node) (list : List ℕ) (n : Search.Node) : Type 0 where
    pub now : Search.Node
    pub is : NodeIs g t list now
    pub fine : NodeFine g now
    pub same : pass_at n ≡ pass_at now

  -- what a turn that goes on does to it
  pub follows_turn : {t : Node} {list : List ℕ} {n : Search.Node} (u : Node) (out : List ℕ) (f : Follows t list n) → TurnTo g (Continue u) out (step_at f.now) → Follows u out n
  follows_turn {t} {list} {n} u out f to = go (step_at f.now) refl to
    where
      go : (o : Turn Search.Node Pass) → step_at f.now ≡ o → TurnTo g (Continue u) out o → Follows u out n
      go (more m) q i = record {
        now = m;
        is = i;
        fine = subst (Holds (NodeFine g) (PassFine g)) q (step_fine g (limits_of l) (try_at g.puzzle l (left - 1)) (depth_of l left) f.now f.fine);
        same = f.same ∙ pass_turn g.puzzle (limits_of l) trying_at (depth_of l left) f.now ∙ ap turn_of q;
      }
      go (stop r) q i = absurd i

  -- and a turn that ends the node
  pub follows_over : {t : Node} {list : List ℕ} {n : Search.Node} (r : Ended) (out : List ℕ) (f : Follows t list n) → TurnTo g (Break r) out (step_at f.now) → PassTo g (Break r) out (pass_at n)
  follows_over {t} {list} {n} r out f to =
      subst (PassTo g (Break r) out) (sym (f.same ∙ pass_turn g.puzzle (limits_of l) trying_at (depth_of l left) f.now)) (go (step_at f.now) to)
    where
      go : (o : Turn Search.Node Pass) → TurnTo g (Break r) out o → PassTo g (Break r) out (turn_of o)
      go (more m) i = absurd i
      go (stop (over a)) i = i
      go (stop (ran_out a)) i = absurd i

  -- none waits
  pub follows_none : {t : Node} {list : List ℕ} {n : Search.Node} (f : Follows t list n) → most_waiting ≤ t.guesses.head → PassTo g (Continue t) list (pass_at n)
  follows_none {t} {list} {n} f k =
      subst (PassTo g (Continue t) list) (sym (f.same ∙ pass_turn g.puzzle (limits_of l) trying_at (depth_of l left) f.now)) (go f.now f.is)
    where
      go : (m : Search.Node) → NodeIs g t list m → PassTo g (Continue t) list (turn_of (step_at m))
      go (node b [] p made s) i = i
      go (node b (guess c x ∷ gs) p made s) i = absurd (let e = ap length i.waiting.guesses in omega (arith, guesses_length t.guesses))

-- ## The loop of a pass

pub record Passing (t₀ : Node) (machines : List Machine) (list₀ : List ℕ) (l : Given) (left : ℕ) (t : Node) (list : List ℕ) : Type 0 where
  pub size : SameSize t₀.board t.board
  pub few : t.stats.grids ≤ l.grids
  pub long : length list ≡ length list₀
  pub within : t.guesses.head ≤ most_waiting
  pub follows : (g : Setting t₀.board.w t₀.board.h machines) (n : Search.Node) → NodeIs g t₀ list₀ n → NodeFine g n → Follows g l left t list n

module _ {t₀ : Node} {machines : List Machine} {list₀ : List ℕ} {l : Given} {left : ℕ} where
  module _ {t : Node} {list : List ℕ} (i : Passing t₀ machines list₀ l left t list) where
    -- a node of the rules that t stands for
    pub passing_stands : NodeStands t₀ machines list₀ → NodeStands t machines list
    passing_stands m = let f = i.follows m.setting m.node m.is m.fine in
        let r : (g : Setting t.board.w t.board.h machines) × NodeIs g t list f.now × NodeFine g f.now =
        size_at (λ a b. (g : Setting a b machines) × NodeIs g t list f.now × NodeFine g f.now) i.size (m.setting, f.is, f.fine) in
        record { setting = r.0; node = f.now; is = r.1; fine = r.2 }

    pub passing_done : most_waiting ≤ t.guesses.head → Passes t₀ machines list₀ l left (Continue t) list
    passing_done k = record {
      within = record { size = i.size; few = i.few; within = i.within };
      to = λ g n is fine. follows_none g l left (i.follows g n is fine) k;
    }

    turn_to : {u : ControlFlow Ended Node} {out : List ℕ} → Turns t machines list l left u out → (g : Setting t₀.board.w t₀.board.h machines) (n : Search.Node) → NodeIs g t list n → NodeFine g n →
        TurnTo g u out (step_at g l left n)
    turn_to {u} {out} w = at_size (λ a b. (g : Setting a b machines) (n : Search.Node) → NodeIs g t list n → NodeFine g n → TurnTo g u out (step_at g l left n)) i.size w.to

    pub passing_over : {r : Ended} {out : List ℕ} → Turns t machines list l left (Break r) out → Passes t₀ machines list₀ l left (Break r) out
    passing_over {r} {out} w = record {
      within = record { size = size_more i.size w.within.size; few = w.within.few };
      to = λ g n is fine. let f = i.follows g n is fine in follows_over g l left r out f (turn_to w g f.now f.is f.fine);
    }

    pub passing_on : {u : Node} {out : List ℕ} → Turns t machines list l left (Continue u) out → length out ≡ length list → Passing t₀ machines list₀ l left u out
    passing_on {u} {out} w k = record {
      size = size_more i.size w.within.size;
      few = w.within.few;
      long = k ∙ i.long;
      within = w.within.within;
      follows = λ g n is fine. let f = i.follows g n is fine in follows_turn g l left u out f (turn_to w g f.now f.is f.fine);
    }

-- the measure of a pass: the colours on the board, and the guesses that wait
abbrev pub node_size : Node → ℕ
node_size t = size (board_of t.board) * 9 + (most_waiting - t.guesses.head)

node_size_lem : {w h : ℕ} {machines : List Machine} (g : Setting w h machines) (t : Node) (list : List ℕ) (n : Search.Node) → NodeIs g t list n → pass_measure n ≡ node_size t
node_size_lem g t list (node b gs p made s) i =
    let e : size b ≡ size (board_of t.board) = ap size (sym i.board) in
    let k : length gs ≡ most_waiting - t.guesses.head = ap length (sym i.waiting.guesses) ∙ guesses_length t.guesses in
    omega arith

pub turn_less : {t : Node} {machines : List Machine} {list : List ℕ} {l : Given} {left : ℕ} {u : Node} {out : List ℕ} →
    NodeStands t machines list → Turns t machines list l left (Continue u) out → node_size u < node_size t
turn_less {t} {machines} {list} {l} {left} {u} {out} m w = go (step_at m.setting l left m.node) (w.to m.setting m.node m.is m.fine)
    (pass_falls m.setting.puzzle (limits_of l) (trying_at m.setting l left) (depth_of l left) m.node)
  where
    go : (o : Turn Search.Node Pass) → TurnTo m.setting (Continue u) out o → Holds (λ t. pass_measure t < pass_measure m.node) (λ r. Unit {0}) o → node_size u < node_size t
    go (more n) i f = let a = node_size_lem m.setting u out n i in let b = node_size_lem m.setting t list m.node m.is in omega arith
    go (stop r) i f = absurd i
