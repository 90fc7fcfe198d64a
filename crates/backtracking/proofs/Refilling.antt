-- New guesses when a node's guesses have run out.
use mathlib.Core.Path.{◌≡◌, refl, sym, subst, ◌∙◌}
use mathlib.Core.Bool.{true, false, ◌||◌}
use mathlib.Core.List.{List}
use Prim.Native.Nat.{ℕ, suc, ◌≤◌}
use native.Mathlib.Omega.{arith}
use Rattle.std.specs.Prelude.{None}
use Rattle.std.specs.declared.ops.ControlFlow.{ControlFlow}
use Rattle.std.specs.declared.ops.ControlFlow.TheVariants.{Continue, Break}
use Rattle.rules.specs.Loops.{stop}
use Rattle.rules.specs.Boards.{solved}
use Rattle.rules.specs.Guesses.{Guess}
use Rattle.rules.specs.Search.{not_dead, left, Spent, spent, note, met, any_closed, first_unsolved}
use Rattle.rules.proofs.Tests.{on_test, on_number, clash}
use Rattle.lines.specs.declared.machine.Machine.{Machine}
use Rattle.boards.specs.Board.{board_of}
use Rattle.runs.specs.declared.limits.Limits.{Limits}
use Rattle.runs.specs.Stats.{limit_met}
use Rattle.runs.specs.Matches.{limits_of}
use Rattle.guesses.specs.declared.waiting.Guesses.{Guesses}
use Rattle.guesses.specs.Waiting.{Waiting}
use Rattle.guesses.specs.Made.{Made}
use Rattle.backtracking.specs.Parts.{refilled}
use Rattle.backtracking.specs.Setting.{Setting, SpentIs, SpentFine, RefillTo}
use Rattle.backtracking.specs.Comes.{Asks, Refills}
use Rattle.backtracking.specs.declared.ended.Ended.{Ended}
use Rattle.backtracking.specs.declared.node.Node.{Node}
use Rattle.backtracking.proofs.Boarding.{size_same}
use Rattle.backtracking.proofs.Asking.{asks_within, unmet, met_some, met_left}

module _ (t : Node) (machines : List Machine) (list : List ℕ) (l : Limits) (d : ℕ) (few : t.stats.grids ≤ l.grids) where
  -- what the rules' refill comes to
  abbrev Case : ControlFlow Ended Node → Type 0
  Case r = (g : Setting t.board.w t.board.h machines) (u : Spent) → SpentIs g t list u → SpentFine g u → RefillTo g r list (refilled g.puzzle (limits_of l) d u)

  -- a limit is met
  pub refills_met : {r : Ended} → Asks t.board t.stats l d (Break r) → Refills t machines list l d (Break r)
  refills_met {r} e = record { within = asks_within few e; to = go }
    where
      go : Case (Break r)
      go g (spent b p made s) is fine = on_number (RefillTo g (Break r) list) (met g.puzzle (limits_of l) s d) {f = λ n. stop (left not_dead b (note (suc n) s))}
          (λ z. absurd (met_some g l d is.run e z))
          (λ n z. met_left g l d is.run e is.board n z)

  module _ (free : limit_met t.stats l d ≡ None) where
    -- the board is solved, or a cell is closed
    pub refills_over : ((those : List Guess) → Made t.made those → solved (board_of t.board) || any_closed (board_of t.board) those ≡ true) →
        Refills t machines list l d (Break (record { dead = false; board = t.board; stats = t.stats }))
    refills_over f = record { within = record { size = size_same t.board; few = few }; to = go }
      where
        go : Case (Break (record { dead = false; board = t.board; stats = t.stats }))
        go g (spent b p made s) is fine = on_number (RefillTo g (Break (record { dead = false; board = t.board; stats = t.stats })) list)
            (met g.puzzle (limits_of l) s d) {f = λ n. stop (left not_dead b (note (suc n) s))}
            (λ _. on_test (RefillTo g (Break (record { dead = false; board = t.board; stats = t.stats })) list) (solved b || any_closed b made) (λ _. (refl, is.board, is.run))
            (λ q. clash (subst (λ b. solved b || any_closed b made ≡ true) is.board (f made is.made)) q))
            (λ n z. absurd (let y : suc n ≡ 0 = sym z ∙ unmet g l d is.run free in omega arith))

    -- the first unsolved cell gives new guesses
    pub refills_more : (new : Guesses) → ((those : List Guess) → Made t.made those → solved (board_of t.board) || any_closed (board_of t.board) those ≡ false) →
        Waiting (first_unsolved (board_of t.board)) new → Refills t machines list l d (Continue (record t { guesses = new }))
    refills_more new f i = record { within = record { size = size_same t.board; few = few; within = i.within }; to = go }
      where
        go : Case (Continue (record t { guesses = new }))
        go g (spent b p made s) is fine = on_number (RefillTo g (Continue (record t { guesses = new })) list)
            (met g.puzzle (limits_of l) s d) {f = λ n. stop (left not_dead b (note (suc n) s))}
            (λ _. on_test (RefillTo g (Continue (record t { guesses = new })) list) (solved b || any_closed b made)
            (λ q. clash q (subst (λ b. solved b || any_closed b made ≡ false) is.board (f made is.made)))
            (λ _. record { board = is.board; waiting = subst (λ b. Waiting (first_unsolved b) new) is.board i; probed = is.probed; made = is.made; run = is.run }))
            (λ n z. absurd (let y : suc n ≡ 0 = sym z ∙ unmet g l d is.run free in omega arith))
