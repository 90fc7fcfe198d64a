use mathlib.Core.Path.{sym, subst, ◌∙◌}
use Prim.Native.Nat.{◌*◌, ◌<◌}
use native.Mathlib.Omega.{arith}
use Rattle.runs.specs.declared.limits.Stats.{Stats}
use Rattle.backtracking.proofs.Boarding.{size_at, ready_on}
use Rattle.backtracking.proofs.Trying.{try_over, deeper_stands, deeper_tried}
use Rattle.backtracking.proofs.Passing.{passing_stands, passing_on, passing_over, passing_done, turn_less}
use Rattle.backtracking.proofs.Turning.{turn_over, turn_skipped, guess_stands, tried_steps, back_size, turn_tried}
use Rattle.backtracking.proofs.Seeking.{some_left, seek_limited, seek_begins, seek_stands, seek_over, seek_rests, rest_over, rest_seeks, rest_less}
use Rattle.backtracking.proofs.nodes.+search_search_mutable_try_direction_turn.Goals as goal

-- ## The search

pub search-returns-in-Break : goal.search-returns-in-Break
search-returns-in-Break t c = seek_limited c.requires.0.few c.in-Break.ensures

-- the node begins with the guesses that were chosen
pub search-search_mutable-requires : goal.search-search_mutable-requires
search-search_mutable-requires t c =
    let y = c.requires in
    let free = c.in_default.ensures.is in
    let i = seek_begins c.deeper.ensures free y.2 y.0.few y.1 in
    (omega (arith, c.decreases), (ready_on y.0 i.size i.long i.few, i.within, some_left _ _ _ free y.2, y.2, seek_stands i y.3))

pub search-returns-in-Break-search_mutable : goal.search-returns-in-Break-search_mutable
search-returns-in-Break-search_mutable t c =
    let y = c.requires in seek_over (seek_begins c.deeper.ensures c.in_default.ensures.is y.2 y.0.few y.1) c.in-Break-search_mutable.ensures

pub search-loop-end-init : goal.search-loop-end-init
search-loop-end-init t c =
    let y = c.requires in seek_rests (seek_begins c.deeper.ensures c.in_default.ensures.is y.2 y.0.few y.1) c.in_default-search_mutable.ensures c.search_mutable.auto.list

pub search-returns-in-Break-refill : goal.search-returns-in-Break-refill
search-returns-in-Break-refill t c = rest_over c.loop-end.invariant (c.in-Break-refill.ensures _ _)

-- and begins anew with new guesses
pub search-search_mutable-requires-in-loop-end : goal.search-search_mutable-requires-in-loop-end
search-search_mutable-requires-in-loop-end t c =
    let y = c.requires in
    let i = rest_seeks c.loop-end.invariant (c.in_default-refill.ensures _ _) in
    (omega (arith, c.decreases), (ready_on y.0 i.size i.long i.few, i.within, some_left _ _ _ c.in_default.ensures.is y.2, y.2, seek_stands i y.3))

pub search-returns-in-Break-search_mutable-2 : goal.search-returns-in-Break-search_mutable-2
search-returns-in-Break-search_mutable-2 t c = seek_over (rest_seeks c.loop-end.invariant (c.in_default-refill.ensures _ _)) c.in-Break-search_mutable-2.ensures

pub search-loop-end-smaller : goal.search-loop-end-smaller
search-loop-end-smaller t c = rest_less c.requires.0.sized c.requires.3 c.loop-end.invariant (c.in_default-refill.ensures _ _) c.in_default-search_mutable-2.ensures

pub search-loop-end-preserved : goal.search-loop-end-preserved
search-loop-end-preserved t c = seek_rests (rest_seeks c.loop-end.invariant (c.in_default-refill.ensures _ _)) c.in_default-search_mutable-2.ensures c.search_mutable-in-loop-end.auto.list

-- ## A pass

pub search_mutable-turn-requires : goal.search_mutable-turn-requires
search_mutable-turn-requires t c =
    let i = c.loop-node.invariant in
    let y = c.requires in
    (omega (arith, c.decreases), (ready_on y.0 i.size i.long i.few, omega (arith, c.loop-node-test.true), y.2, y.3, passing_stands i y.4))

pub search_mutable-returns-in_err-turn : goal.search_mutable-returns-in_err-turn
search_mutable-returns-in_err-turn t c = rw c.from_residual.ensures (passing_over c.loop-node.invariant c.in_err-turn.ensures)

pub search_mutable-loop-node-smaller : goal.search_mutable-loop-node-smaller
search_mutable-loop-node-smaller t c = turn_less (passing_stands c.loop-node.invariant c.requires.4) c.in_ok-turn.ensures

pub search_mutable-loop-node-preserved : goal.search_mutable-loop-node-preserved
search_mutable-loop-node-preserved t c = passing_on c.loop-node.invariant c.in_ok-turn.ensures c.turn.auto.list

pub search_mutable-returns : goal.search_mutable-returns
search_mutable-returns t c = passing_done c.loop-node.invariant c.loop-node-test.false

-- ## One guess

pub try_direction-search-requires : goal.try_direction-search-requires
try_direction-search-requires t c =
    let y = c.requires in
    let w = c.in-Continue.ensures in
    let i = w.within in
    (omega (arith, c.decreases), (ready_on y.0 i.0.size c.enter_guess.auto.list i.0.few, i.1, omega (arith, y.5), deeper_stands c.args.left w y.6))

pub try_direction-returns-in-Continue : goal.try_direction-returns-in-Continue
try_direction-returns-in-Continue t c = deeper_tried c.args.left c.in-Continue.ensures c.search.ensures

pub try_direction-returns-in-Break : goal.try_direction-returns-in-Break
try_direction-returns-in-Break t c = try_over c.args.left c.in-Break.ensures

-- ## A turn

pub turn-returns-in_err-next : goal.turn-returns-in_err-next
turn-returns-in_err-next t c = rw c.from_residual.ensures (turn_over c.args.left c.requires.1 c.in_err-next.ensures)

pub turn-returns-in_default : goal.turn-returns-in_default
turn-returns-in_default t c = turn_skipped c.args.left c.requires.1 (rw c.in_default.is at c.in_ok-next.ensures)

pub turn-try_direction-tried-requires : goal.turn-try_direction-tried-requires
turn-try_direction-tried-requires t c =
    let y = c.requires in
    let w = rw c.in-Some.is at c.in_ok-next.ensures in
    let i = w.within.0 in
    let k = w.within.1 in (
      omega (arith, c.decreases, y.2),
      (
        ready_on y.0 i.size c.before_guess.auto.list i.few,
        size_at (λ a b. c.in-Some.guess.cell.0 < a * b) i.size k.cell,
        k.colour,
        subst (λ (v : Stats). v.steps < c.args.task.limits.budget) (sym k.stats) k.steps,
        subst (λ (v : Stats). v.grids < c.args.task.limits.grids) (sym k.stats) k.grids,
        omega (arith, y.2, y.3),
        guess_stands c.args.left y.1 w y.4,
      ),
    )

pub turn-after_guess-requires : goal.turn-after_guess-requires
turn-after_guess-requires t c =
    let y = c.requires in
    let w = rw c.in-Some.is at c.in_ok-next.ensures in
    let v = c.try_direction-tried.ensures in
    let size = back_size c.args.left y.1 w y.2 y.3 v c.restore-node.ensures in (
      ready_on y.0 size (c.try_direction-tried.auto.list ∙ c.before_guess.auto.list) v.within.few,
      w.within.0.within,
      size_at (λ a b. c.in-Some.guess.cell.0 < a * b) size w.within.1.cell,
      w.within.1.colour,
      tried_steps c.args.left y.1 w y.2 y.3 v y.0 y.4,
    )

pub turn-returns : goal.turn-returns
turn-returns t c =
    let y = c.requires in
    turn_tried c.args.left y.1 (rw c.in-Some.is at c.in_ok-next.ensures) y.2 y.3 c.try_direction-tried.ensures c.restore-node.ensures c.after_guess.ensures
