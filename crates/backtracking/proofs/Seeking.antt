-- The search at a node, pass by pass, is the rules' search.
use mathlib.Core.Path.{◌≡◌, refl, sym, ap, ap₂, subst, ◌∙◌}
use mathlib.Core.Bool.{Bool, true, false}
use mathlib.Core.List.{List, []}
use Prim.Native.Nat.{ℕ, zero, suc, ◌+◌, ◌-◌, ◌*◌, ◌≤◌, ◌<◌}
use native.Mathlib.Omega.{arith}
use lib.ListN.{length, replicate}
use Rattle.std.specs.Prelude.{None}
use Rattle.std.specs.declared.ops.ControlFlow.{ControlFlow}
use Rattle.std.specs.declared.ops.ControlFlow.TheVariants.{Continue, Break}
use Rattle.rules.specs.Lists.{any, from}
use Rattle.rules.specs.Loops.{Turn, more, stop, Holds}
use Rattle.rules.specs.Boards as Rules
use Rattle.rules.specs.Boards.{size, Puzzle}
use Rattle.rules.specs.Probing.{Run}
use Rattle.rules.specs.Guesses.{Guess}
use Rattle.rules.specs.Search as Search
use Rattle.rules.specs.Search.{Limits, not_dead, Left, Tried, node, Spent, spent, Pass, over, ran_out, note, deeper, met, pass, again, any_closed, spent_measure, after_pass, node_from, try_guess, search}
use Rattle.rules.specs.Answers.{most_waiting}
use Rattle.rules.proofs.Ends.{spent_falls}
use Rattle.lines.specs.declared.machine.Machine.{Machine}
use Rattle.boards.specs.declared.board.Board.{Board}
use Rattle.boards.specs.Board.{board_of, Sized, SameSize}
use Rattle.runs.specs.declared.limits.Limits.{Limits as Given}
use Rattle.runs.specs.declared.limits.Stats.{Stats}
use Rattle.runs.specs.Stats as Counts
use Rattle.runs.specs.Stats.{limit_met}
use Rattle.runs.specs.Matches.{limits_of}
use Rattle.runs.proofs.Matches.{deeper_matches}
use Rattle.guesses.specs.declared.waiting.Guesses.{Guesses}
use Rattle.guesses.specs.Waiting.{Waiting}
use Rattle.guesses.proofs.Closed.{made_none, covered, any_covered}
use Rattle.backtracking.specs.Parts.{refilled}
use Rattle.backtracking.specs.Setting.{Setting, RunIs, Fine, Few, LeftTo, NodeIs, SpentIs, NodeFine, SpentFine, PassTo, RefillTo}
use Rattle.backtracking.specs.Comes.{depth_of, Asks, Refills, NodeStands, SearchStands, Searches, Passes}
use Rattle.backtracking.specs.declared.node.Node.{Node}
use Rattle.backtracking.specs.declared.ended.Ended.{Ended}
use Rattle.backtracking.proofs.Boarding.{size_same, size_more, sized_on, at_size, size_at}
use Rattle.backtracking.proofs.Asking.{limit_none, asks_within, unmet, met_some, met_left}
use Rattle.backtracking.proofs.Parts.{passed, refilled_is, refill_is}
use Rattle.backtracking.proofs.Fine.{fine_long, PassFine, pass_fine, refill_fine, depth_down}
use Rattle.backtracking.proofs.Passing.{trying_at, pass_at, after_pass_at, refill_at, refilled_at, after_refill_at}

-- where no limit is met the search may go deeper
pub some_left : (left : ℕ) (s : Stats) (l : Given) → limit_met s l (depth_of l left) ≡ None → left ≤ l.depth + 1 → 1 ≤ left
some_left left s l m q = let k = (limit_none s l (depth_of l left) m).2 in omega arith

-- ## The rules' search at a node

module _ (z : Puzzle) (l : Limits) where
  -- what a search comes to, by the limit that is met
  abbrev asked_first : (r d : ℕ) → Rules.Board → List Guess → Run → ℕ → Left
  asked_first r d b gs s k = elim k as (λ _. Left) [
    | suc m ↦ Search.left not_dead b (note (suc m) s)
    | zero ↦ node_from z l (try_guess z l (λ e hs t. search z l r (suc d) e hs t) (suc d)) d b gs (deeper d s)
  ]

  search_limit : (r d : ℕ) (b : Rules.Board) (gs : List Guess) (s : Run) (m : ℕ) → met z l s d ≡ suc m → search z l r d b gs s ≡ Search.left not_dead b (note (suc m) s)
  unfolding search
  search_limit zero d b gs s m e = ap (λ k. Search.left not_dead b (note k s)) e
  search_limit (suc r) d b gs s m e =
      ap (asked_first r d b gs s) e

  search_goes : (r d : ℕ) (b : Rules.Board) (gs : List Guess) (s : Run) → met z l s d ≡ 0 →
      (try : Rules.Board → ℕ → ℕ → Run → Tried) → try ≡ try_guess z l (λ e hs t. search z l r (suc d) e hs t) (suc d) →
      search z l (suc r) d b gs s ≡ after_pass z l try d (pass z l try d (node b gs false [] (deeper d s)))
  unfolding search node_from
  search_goes r d b gs s e try q =
      ap (asked_first r d b gs s) e
      ∙ ap (λ (f : Rules.Board → ℕ → ℕ → Run → Tried). after_pass z l f d (pass z l f d (node b gs false [] (deeper d s)))) (sym q)

-- ## What a node stands for on the way to an end

module _ {w h : ℕ} {machines : List Machine} (g : Setting w h machines) (l : Given) (left : ℕ) (end : Left) where
  -- the end is that of a pass from the rules' node that n stands for, and of M3 after it
  pub record Begun-as (n : Node) (list : List ℕ) : Type 0 where
    pub now : Search.Node
    pub is : NodeIs g n list now
    pub fine : NodeFine g now
    pub same : end ≡ after_pass_at g l left (pass_at g l left now)

  -- the end is that of M3 from the rules' node that n stands for
  pub record Spent-as (n : Node) (list : List ℕ) : Type 0 where
    pub now : Spent
    pub is : SpentIs g n list now
    pub fine : SpentFine g now
    pub same : end ≡ refill_at g l left now

  -- a pass that has run out of guesses
  begun_passed : {n : Node} {list : List ℕ} (u : Node) (out : List ℕ) (f : Begun-as n list) → PassTo g (Continue u) out (pass_at g l left f.now) → Spent-as u out
  begun_passed u out f to = go (pass_at g l left f.now) refl to
    where
      go : (p : Pass) → pass_at g l left f.now ≡ p → PassTo g (Continue u) out p → Spent-as u out
      go (over a) e k = absurd k
      go (ran_out a) e k = record {
        now = a;
        is = k;
        fine = subst (PassFine g) e (pass_fine g (limits_of l) (trying_at g l left) (depth_of l left) f.now f.fine);
        same = f.same ∙ ap (after_pass_at g l left) e;
      }

  -- new guesses
  spent_refilled : {n : Node} {list : List ℕ} (q : Node) (f : Spent-as n list) → RefillTo g (Continue q) list (refilled_at g l left f.now) → Begun-as q list
  spent_refilled {n} {list} q f to = go (refilled_at g l left f.now) refl to
    where
      go : (p : Turn Search.Node Left) → refilled_at g l left f.now ≡ p → RefillTo g (Continue q) list p → Begun-as q list
      go (more m) e k = record {
        now = m;
        is = k;
        fine = subst (Holds (NodeFine g) (λ _. Unit {0})) e (refill_fine g (limits_of l) (depth_of l left) f.now f.fine);
        same = f.same ∙ refill_is g.puzzle (limits_of l) (trying_at g l left) (depth_of l left) f.now ∙ ap (after_refill_at g l left) e;
      }
      go (stop a) e k = absurd k

-- what a pass and M3 come to, at the size of another board
module _ (b : Board) (machines : List Machine) (l : Given) (left : ℕ) (n : Node) (list : List ℕ) (same : SameSize b n.board) where
  pass_to : (u : ControlFlow Ended Node) (out : List ℕ) → Passes n machines list l left u out → (g : Setting b.w b.h machines) (m : Search.Node) → NodeIs g n list m → NodeFine g m →
      PassTo g u out (pass_at g l left m)
  pass_to u out w = at_size (λ a b. (g : Setting a b machines) (m : Search.Node) → NodeIs g n list m → NodeFine g m → PassTo g u out (pass_at g l left m)) same w.to

  refill_to : (q : ControlFlow Ended Node) → Refills n machines list l (depth_of l left) q → (g : Setting b.w b.h machines) (u : Spent) → SpentIs g n list u → SpentFine g u →
      RefillTo g q list (refilled_at g l left u)
  refill_to q w = at_size (λ a b. (g : Setting a b machines) (u : Spent) → SpentIs g n list u → SpentFine g u → RefillTo g q list (refilled_at g l left u)) same w.to

-- what a node is begun as
abbrev pub begun : Board → Guesses → Stats → Node
begun b waiting s = record { board = b; guesses = waiting; probed = false; made = replicate 256 0; stats = s }

-- ## The search from a board, where b, waiting, list₀ and s are what it was given

abbrev seek_at : (b : Board) {machines : List Machine} (l : Given) (left : ℕ) → Setting b.w b.h machines → List Guess → Run → Left
seek_at b l left g gs t = search g.puzzle (limits_of l) left (depth_of l left) (board_of b) gs t

-- a node from which a pass begins, and one whose guesses have run out, on the way to the search's end
module _ (b : Board) (waiting : Guesses) (machines : List Machine) (list₀ : List ℕ) (l : Given) (left : ℕ) (s : Stats) (n : Node) (list : List ℕ) where
  abbrev Ends-as : ((g : Setting b.w b.h machines) → Left → Type 0) → Type 0
  Ends-as As = (g : Setting b.w b.h machines) (gs : List Guess) (t : Run) → RunIs g s list₀ t → Fine g (board_of b) → Waiting gs waiting → Few g gs → As g (seek_at b l left g gs t)

  pub record Seeking : Type 0 where
    pub size : SameSize b n.board
    pub few : n.stats.grids ≤ l.grids
    pub long : length list ≡ length list₀
    pub within : n.guesses.head ≤ most_waiting
    pub follows : Ends-as (λ g end. Begun-as g l left end n list)

  pub record Resting : Type 0 where
    pub size : SameSize b n.board
    pub few : n.stats.grids ≤ l.grids
    pub long : length list ≡ length list₀
    pub within : n.guesses.head ≤ most_waiting
    pub follows : Ends-as (λ g end. Spent-as g l left end n list)

module _ {b : Board} {waiting : Guesses} {machines : List Machine} {list₀ : List ℕ} {l : Given} {left : ℕ} {s : Stats} where
  -- a limit is met at once
  pub seek_limited : {r : Ended} → s.grids ≤ l.grids → Asks b s l (depth_of l left) (Break r) → Searches b waiting machines list₀ l left s r list₀
  seek_limited {r} few e = record {
    within = asks_within few e;
    to = λ g gs t is fine wait few. go g gs t is (met g.puzzle (limits_of l) t (depth_of l left)) refl;
  }
    where
      go : (g : Setting b.w b.h machines) (gs : List Guess) (t : Run) → RunIs g s list₀ t → (n : ℕ) → met g.puzzle (limits_of l) t (depth_of l left) ≡ n → LeftTo g r list₀ (seek_at b l left g gs t)
      go g gs t is zero q = absurd (met_some g l (depth_of l left) is e q)
      go g gs t is (suc n) q = subst (LeftTo g r list₀) (sym (search_limit g.puzzle (limits_of l) left (depth_of l left) (board_of b) gs t n q)) (met_left g l (depth_of l left) is e refl n q)

  -- the node begins
  pub seek_begins : {deepened : Stats} → deepened ≡ Counts.deeper (depth_of l left) s → limit_met s l (depth_of l left) ≡ None → left ≤ l.depth + 1 → s.grids ≤ l.grids → waiting.head ≤ most_waiting →
      Seeking b waiting machines list₀ l left s (begun b waiting deepened) list₀
  seek_begins e m q f h = record {
    size = size_same b;
    few = subst (λ (v : Stats). v.grids ≤ l.grids) (sym e) f;
    long = refl;
    within = h;
    follows = λ g gs t is fine wait few. record {
      now = node (board_of b) gs false [] (deeper (depth_of l left) t);
      is = record {
        board = refl;
        waiting = wait;
        probed = refl;
        made = made_none;
        run = subst (λ v. RunIs g v list₀ (deeper (depth_of l left) t)) (sym e) (deeper_matches (b.w * b.h) g.lent (depth_of l left) is);
      };
      fine = (fine, few);
      same = goes g gs t (unmet g l (depth_of l left) is m);
    };
  }
    where
      goes : (g : Setting b.w b.h machines) (gs : List Guess) (t : Run) → met g.puzzle (limits_of l) t (depth_of l left) ≡ 0 →
          seek_at b l left g gs t ≡ after_pass_at g l left (pass_at g l left (node (board_of b) gs false [] (deeper (depth_of l left) t)))
      goes g gs t k =
          let p : 1 ≤ left = some_left left s l m q in
          let r : left ≡ suc (left - 1) = omega arith in
          ap (λ v. search g.puzzle (limits_of l) v (depth_of l left) (board_of b) gs t) r
          ∙ search_goes g.puzzle (limits_of l) (left - 1) (depth_of l left) (board_of b) gs t k (trying_at g l left)
          (ap (λ d. try_guess g.puzzle (limits_of l) (λ e hs t. search g.puzzle (limits_of l) (left - 1) d e hs t) d) (depth_down g l left p q))

  -- ## A pass

  module _ {n : Node} {list : List ℕ} (i : Seeking b waiting machines list₀ l left s n list) where
    pub seek_stands : SearchStands b waiting machines list₀ s → NodeStands n machines list
    seek_stands m = let f = i.follows m.setting m.guesses m.run m.is m.fine m.wait m.few in
        let r : (g : Setting n.board.w n.board.h machines) × NodeIs g n list f.now × NodeFine g f.now =
        size_at (λ a b. (g : Setting a b machines) × NodeIs g n list f.now × NodeFine g f.now) i.size (m.setting, f.is, f.fine) in
        record { setting = r.0; node = f.now; is = r.1; fine = r.2 }

    pub seek_over : {r : Ended} {out : List ℕ} → Passes n machines list l left (Break r) out → Searches b waiting machines list₀ l left s r out
    seek_over {r} {out} w = record {
      within = record { size = size_more i.size w.within.size; few = w.within.few };
      to = λ g gs t is fine wait few. let f = i.follows g gs t is fine wait few in
          subst (LeftTo g r out) (sym f.same) (go g (pass_at g l left f.now) (pass_to b machines l left n list i.size (Break r) out w g f.now f.is f.fine));
    }
      where
        go : (g : Setting b.w b.h machines) (p : Pass) → PassTo g (Break r) out p → LeftTo g r out (after_pass_at g l left p)
        go g (over a) k = k
        go g (ran_out a) k = absurd k

    pub seek_rests : {u : Node} {out : List ℕ} → Passes n machines list l left (Continue u) out → length out ≡ length list → Resting b waiting machines list₀ l left s u out
    seek_rests {u} {out} w k = record {
      size = size_more i.size w.within.size;
      few = w.within.few;
      long = k ∙ i.long;
      within = w.within.within;
      follows = λ g gs t is fine wait few. let f = i.follows g gs t is fine wait few in
          begun_passed g l left (seek_at b l left g gs t) u out f (pass_to b machines l left n list i.size (Continue u) out w g f.now f.is f.fine);
    }

  -- ## M3

  module _ {n : Node} {list : List ℕ} (i : Resting b waiting machines list₀ l left s n list) where
    pub rest_over : {r : Ended} → Refills n machines list l (depth_of l left) (Break r) → Searches b waiting machines list₀ l left s r list
    rest_over {r} w = record {
      within = record { size = size_more i.size w.within.size; few = w.within.few };
      to = λ g gs t is fine wait few. let f = i.follows g gs t is fine wait few in
          subst (LeftTo g r list) (sym (f.same ∙ refill_is g.puzzle (limits_of l) (trying_at g l left) (depth_of l left) f.now))
          (go g (refilled_at g l left f.now) (refill_to b machines l left n list i.size (Break r) w g f.now f.is f.fine));
    }
      where
        go : (g : Setting b.w b.h machines) (p : Turn Search.Node Left) → RefillTo g (Break r) list p → LeftTo g r list (after_refill_at g l left p)
        go g (more m) k = absurd k
        go g (stop a) k = k

    pub rest_seeks : {q : Node} → Refills n machines list l (depth_of l left) (Continue q) → Seeking b waiting machines list₀ l left s q list
    rest_seeks {q} w = record {
      size = size_more i.size w.within.size;
      few = w.within.few;
      long = i.long;
      within = w.within.within;
      follows = λ g gs t is fine wait few. let f = i.follows g gs t is fine wait few in
          spent_refilled g l left (seek_at b l left g gs t) q f (refill_to b machines l left n list i.size (Continue q) w g f.now f.is f.fine);
    }

-- ## The measure of M3: twice the colours on the board, and 1 where no cell is closed

abbrev pub rest_size : Node → ℕ
rest_size t = size (board_of t.board) * 2 + elim (any (covered t.board t.made) (from 0 (t.board.w * t.board.h))) [ true ↦ 0 | false ↦ 1 ]

rest_size_lem : {w h : ℕ} {machines : List Machine} (g : Setting w h machines) (t : Node) (list : List ℕ) (u : Spent) → Sized t.board → t.board.w ≡ w → t.board.h ≡ h → SpentIs g t list u → SpentFine g u →
    rest_size t ≡ spent_measure u
rest_size_lem g t list (spent b p made s) k u v i f =
    let long : length (board_of t.board) ≡ t.board.w * t.board.h = ap length i.board ∙ fine_long g f ∙ ap₂ (λ (x y : ℕ). x * y) (sym u) (sym v) in
    ap₂ (λ (x y : ℕ). x * 2 + y) (ap size i.board)
    (ap (λ (o : Bool). elim o as (λ _. ℕ) [ true ↦ 0 | false ↦ 1 ]) (any_covered t.board t.made k long made i.made ∙ ap (λ x. any_closed x made) i.board))

module _ {b : Board} {waiting : Guesses} {machines : List Machine} {list₀ : List ℕ} {l : Given} {left : ℕ} {s : Stats} (sized : Sized b) (m : SearchStands b waiting machines list₀ s) where
  -- M3 and a pass make it smaller
  pub rest_less : {n : Node} {list : List ℕ} (i : Resting b waiting machines list₀ l left s n list) {q : Node} (w : Refills n machines list l (depth_of l left) (Continue q)) {u : Node} {out : List ℕ} →
      Passes q machines list l left (Continue u) out → rest_size u < rest_size n
  rest_less {n} {list} i {q} w {u} {out} v = go (refilled z L (depth_of l left) f.now) refl (refill_to b machines l left n list i.size (Continue q) w g f.now f.is f.fine)
    where
      g : Setting b.w b.h machines
      g = m.setting

      z : Puzzle
      z = g.puzzle

      L : Limits
      L = limits_of l

      f : Spent-as g l left (seek_at b l left g m.guesses m.run) n list
      f = i.follows g m.guesses m.run m.is m.fine m.wait m.few

      here : SameSize b q.board
      here = size_more i.size w.within.size

      there : SameSize b u.board
      there = size_more here v.within.size

      go : (p : Turn Search.Node Left) → refilled z L (depth_of l left) f.now ≡ p → RefillTo g (Continue q) list p → rest_size u < rest_size n
      go (stop a) e k = absurd k
      go (more t) e k = then (pass_at g l left t) refl (pass_to b machines l left q list here (Continue u) out v g t k fine)
        where
          fine : NodeFine g t
          fine = subst (Holds (NodeFine g) (λ _. Unit {0})) e (refill_fine g L (depth_of l left) f.now f.fine)

          then : (p : Pass) → pass_at g l left t ≡ p → PassTo g (Continue u) out p → rest_size u < rest_size n
          then (over a) e' k' = absurd k'
          then (ran_out a) e' k' =
              let falls : spent_measure a < spent_measure f.now = subst (Holds (λ t. spent_measure t < spent_measure f.now) (λ r. Unit {0}))
              (refilled_is z L (trying_at g l left) (depth_of l left) f.now ∙ ap (passed z L (trying_at g l left) (depth_of l left)) e ∙ ap again e')
              (spent_falls z L (trying_at g l left) (depth_of l left) f.now) in
              let x = rest_size_lem g n list f.now (sized_on i.size sized) i.size.wide i.size.high f.is f.fine in
              let y = rest_size_lem g u out a (sized_on there sized) there.wide there.high k' (subst (PassFine g) e' (pass_fine g L (trying_at g l left) (depth_of l left) t fine)) in
              omega arith
