use Rattle.std.proofs.Common.{◌≡◌, ℕ, ◌<◌, get_or, length, sym, ◌∙◌, arith, rules}
use Rattle.boards.proofs.Sizes.{board_cells}
use Rattle.probing.proofs.Running.{measure_small, running_start, run_solved, run_empty, Popped, steps_small, noted_less, noted_turn, cut_fails, cut_solves, cut_less, cut_turn}
use Rattle.probing.proofs.rounds.run.Goals as goal
use Rattle.probing.proofs.rounds.run.Goals.{Start, After-probe-impact}

-- ## The start and the end
bytes : (s : Start) → (j : ℕ) → get_or s.args.board.cells j 0 < 256
bytes s = search rules

pub returns-then-is_solved_full : goal.returns-then-is_solved_full
returns-then-is_solved_full c =
    run_solved c.args.board c.args.queue _ c.none-notes.result c.requires.0 (board_cells c.args.board _ c.well_formed.0) c.requires.2 c.none-notes.ensures
    (sym c.is_solved_full.ensures ∙ c.if-is_solved_full.true)

pub loop-c-init : goal.loop-c-init
loop-c-init c =
    let b = c.args.board in
    let low = bytes (goal.at.loop-c-init c).Start in
    running_start b c.args.queue _ c.none-notes.result c.requires.0 (board_cells b _ c.well_formed.0) c.requires.2 c.none-notes.ensures
    (measure_small b c.args.queue c.requires.0 c.requires.2 low) (sym c.is_solved_full.ensures ∙ c.if-is_solved_full.false)

pub returns : goal.returns
returns c = run_empty c.loop-c.invariant c.in_default.ensures.first

-- ## A turn
popped : (c : After-probe-impact) → let l = c.loop-c in Popped c.args.board c.args.queue c.args.machines.now l.board l.queue l.notes l.steps c.in-Some.c.0 c.in-Some.rest c.probe-impact.result
popped c =
    let e = c.in-Some.ensures in
    record { run = c.loop-c.invariant; sized = c.requires.0; playable = c.requires.1; first = e.first; below = e.below; long = e.size; impact = c.probe-impact.ensures }

pub overflow_add-steps : goal.overflow_add-steps
overflow_add-steps c = record { fits = omega (arith, steps_small (popped (goal.at.overflow_add-steps c).After-probe-impact)) }

-- ## No colour contradicts
pub loop-c-smaller-then-impact-eq0 : goal.loop-c-smaller-then-impact-eq0
loop-c-smaller-then-impact-eq0 c =
    noted_less (popped (goal.at.loop-c-smaller-then-impact-eq0 c).After-probe-impact) c.if-impact-eq0.true c.note-notes.result (rw (← c.cell.ensures) c.note-notes.ensures)

pub loop-c-preserved-then-impact-eq0 : goal.loop-c-preserved-then-impact-eq0
loop-c-preserved-then-impact-eq0 c =
    noted_turn (popped (goal.at.loop-c-preserved-then-impact-eq0 c).After-probe-impact) c.if-impact-eq0.true c.note-notes.result (rw (← c.cell.ensures) c.note-notes.ensures)

-- ## Some colours contradict
pub returns-in_default-cut : goal.returns-in_default-cut
returns-in_default-cut c = cut_fails (popped (goal.at.returns-in_default-cut c).After-probe-impact) c.if-impact-eq0.false c.in_default-cut.ensures

pub returns-then-is_solved_full-2 : goal.returns-then-is_solved_full-2
returns-then-is_solved_full-2 c =
    let k = c.in-Some-cut in
    let full : length k.left.cells ≡ 256 = search rules in
    cut_solves (popped (goal.at.returns-then-is_solved_full-2 c).After-probe-impact) c.if-impact-eq0.false k.left k.pushed k.ensures full _ c.none-notes-else-impact-eq0.ensures
    (sym c.is_solved_full-else-impact-eq0.ensures ∙ c.if-is_solved_full-2.true)

pub loop-c-smaller : goal.loop-c-smaller
loop-c-smaller c =
    let k = c.in-Some-cut in
    let full : length k.left.cells ≡ 256 = search rules in
    cut_less (popped (goal.at.loop-c-smaller c).After-probe-impact) c.if-impact-eq0.false k.left k.pushed k.ensures full _ c.none-notes-else-impact-eq0.ensures
    (sym c.is_solved_full-else-impact-eq0.ensures ∙ c.if-is_solved_full-2.false)

pub loop-c-preserved : goal.loop-c-preserved
loop-c-preserved c =
    let k = c.in-Some-cut in
    let full : length k.left.cells ≡ 256 = search rules in
    cut_turn (popped (goal.at.loop-c-preserved c).After-probe-impact) c.if-impact-eq0.false k.left k.pushed k.ensures full _ c.none-notes-else-impact-eq0.ensures
    (sym c.is_solved_full-else-impact-eq0.ensures ∙ c.if-is_solved_full-2.false)
