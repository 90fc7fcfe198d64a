-- A run of probing, turn by turn: a turn of the code's loop is a step of the rules, whatever puzzle the table is of.
-- The steps stay few: a turn assumes at most eight colours, and what the rules' loop measures falls with it.
use Rattle.std.proofs.Common.{◌≡◌, ℕ, suc, ◌+◌, ◌*◌, ◌^◌, ◌≤◌, ◌<◌, true, false, ltb, Some, None, List, [], ◌∷◌, length, get_or, set, replicate, length-take, refl, sym, ap, ◌∙◌, add-zero, mul-le-mul, ltb-true, ltb-false, arith}
use Rattle.std.proofs.Math.Option.{Option, none, some}
use lib.ListN.{get_or-eq_default}
use Rattle.rules.specs.Loops.{Turn, more, stop}
use Rattle.rules.specs.Sets.{Colour, colours, empty}
use Rattle.rules.specs.Boards as Rules
use Rattle.rules.specs.Boards.{Cell, at, remove_all, solved, size, newly, Puzzle}
use Rattle.rules.specs.Propagation.{propagate}
use Rattle.rules.specs.Queues.{waiting, pop}
use Rattle.rules.specs.Floats.{higher}
use Rattle.rules.specs.Probing as Probing
use Rattle.rules.specs.Probing.{Run, steps, CellQueue, no_notes, Probing, probing, contradiction, probed, solving, assumed_all, new_round, outcomes, push_both, cut, judge, probe_step, probe_on, probe}
use Rattle.rules.proofs.Tests.{by_test}
use Rattle.rules.proofs.Sets.{colours_few, colours_some, colours_none}
use Rattle.rules.proofs.Narrowing.{size_few}
use Rattle.rules.proofs.Queues.{waiting_few}
use Rattle.rules.proofs.Steps.{assumed_steps}
use Rattle.rules.proofs.Rounds.{probe_more, probe_stop, probe_less, step_empty, step_noted, step_judged, probe_solved, probe_starts}
use Rattle.lines.specs.declared.machine.Machine.{Machine}
use Rattle.boards.specs.declared.board.Board.{Board}
use Rattle.boards.specs.Board.{board_of, Sized, SameSize}
use Rattle.boards.specs.Table.{Table, Playable}
use Rattle.boards.proofs.Sizes.{few_cells, board_length}
use Rattle.queues.specs.declared.Queue.{Queue}
use Rattle.queues.specs.Entries.{queue_of}
use Rattle.queues.proofs.Entries.{queue_length}
use Rattle.notes.specs.declared.round.Notes.{Notes}
use Rattle.notes.specs.Round.{each_of, notes_of, Says}
use Rattle.probing.specs.declared.probe.Impact.{Impact}
use Rattle.probing.specs.Probing.{Impacts, propagate_point, cut_colours, Pushes, Probes}
use Rattle.probing.proofs.Frames.{same_refl, same_trans, same_sized, same_cells, table_same, at_cell}

-- ## What the rules say of a turn

-- a cell was propagated, and neighbours were pushed
abbrev after_cut : Run → Option (Rules.Board × CellQueue) → Turn Probing Probing.Probed
after_cut s none = stop (contradiction s)
after_cut s (some e) = new_round e.0 e.1 s

point_cut : (z : Puzzle) (b : Rules.Board) (c : Cell) (q : CellQueue) (s : Run) → cut z b c q s (propagate z b c) ≡ after_cut s (propagate_point z b c q)
unfolding propagate_point
point_cut z b c q s = go (propagate z b c)
  where
    go : (v : Option Rules.Board) → cut z b c q s v ≡ after_cut s (elim v [ none ↦ none | some a ↦ some (a, push_both z a c (newly b a) q) ])
    go none = refl
    go (some a) = refl

-- the contradicting colours are cut
judge_cut : (z : Puzzle) (b : Rules.Board) (c : Cell) (q : CellQueue) (ns : Probing.Notes) (s : Run) (good : List (Colour × ℕ)) (x : Colour) (xs : List Colour) →
    judge z b c q ns s good (x ∷ xs) ≡ after_cut s (cut_colours z b c (x ∷ xs) q)
unfolding cut_colours
judge_cut z b c q ns s good x xs = by_test (empty (at (remove_all b c (x ∷ xs)) c))
    (λ e. rw (e, judge, cut_colours))
    (λ e. rw (e, judge, cut_colours) (point_cut z (remove_all b c (x ∷ xs)) c q s))

-- a run that has done nothing
idle : Run
idle = record { stored = []; events = []; deepest = 0; limit = 0 }

-- ## The loop

-- what the rules' loop measures
abbrev pub measured : Board → Queue → ℕ
measured b q = size (board_of b) * suc (length (queue_of q)) + waiting (queue_of q)

-- the run from the start, after s, is the run from here on, n steps later
abbrev Here : Puzzle → Board → Queue → Board → Queue → Notes → ℕ → Run → Type 0
Here z board queue b q notes n s =
    (t : Run) × (steps t ≡ steps s + n) × (probe z (board_of board) (queue_of queue) s ≡ probe_on z (probing (board_of b) (queue_of q) (notes_of notes) t))

pub record Running (board : Board) (queue : Queue) (machines : List Machine) (b : Board) (q : Queue) (notes : Notes) (n : ℕ) : Type 0 where
  pub size : SameSize board b
  pub long : length b.cells ≡ 256
  pub queued : q.n ≡ board.w * board.h
  pub noted : notes.n ≡ board.w * board.h
  pub few : n + 8 * measured b q ≤ 8 * measured board queue
  pub small : measured board queue ≤ 2 ^ 24
  pub here : (z : Puzzle) → Table z board.w board.h machines → (s : Run) → Here z board queue b q notes n s

-- a new round has no notes
fresh : (b : Board) {notes : Notes} {n : ℕ} → Sized b → length b.cells ≡ 256 → Says n (replicate n none) notes → n ≡ b.w * b.h → notes_of notes ≡ no_notes (board_of b)
fresh b s l u e = u.notes ∙ ap (λ m. replicate m none) (e ∙ sym (board_length b s l))

module _ (board : Board) (queue : Queue) (machines : List Machine) (notes : Notes) (s : Sized board) (l : length board.cells ≡ 256) (e : queue.n ≡ board.w * board.h)
    (u : Says (board.w * board.h) (replicate (board.w * board.h) none) notes) where
  pub running_start : measured board queue ≤ 2 ^ 24 → solved (board_of board) ≡ false → Running board queue machines board queue notes 0
  running_start h f = record {
    size = same_refl board;
    long = l;
    queued = e;
    noted = u.size;
    few = omega arith;
    small = h;
    here = λ z t r. (
      r,
      sym (add-zero (steps r)),
      probe_starts z (board_of board) (queue_of queue) r f ∙ ap (λ ns. probe_on z (probing (board_of board) (queue_of queue) ns r)) (sym (fresh board s l u refl)),
    );
  }

  pub run_solved : solved (board_of board) ≡ true → Probes board (λ _. queue_of queue) machines (record { steps = 0; end = Some (board, notes) })
  run_solved f = record {
    size = same_refl board;
    notes = u.size;
    few = omega arith;
    to = λ z t r. (r, probe_solved z (board_of board) (queue_of queue) r f ∙ ap (λ ns. probed (board_of board) ns r) (sym (fresh board s l u refl)), sym (add-zero (steps r)));
  }

-- the cells of a board are bytes, so that the measure is small at the start
pub measure_small : (board : Board) (queue : Queue) → Sized board → queue.n ≡ board.w * board.h → ((c : ℕ) → get_or board.cells c 0 < 256) → measured board queue ≤ 2 ^ 24
measure_small board queue s e f =
    let n = few_cells board s in
    let b : size (board_of board) ≤ 255 * length (board_of board) = size_few 255 (board_of board) low in
    let k : size (board_of board) ≤ 65280 = omega (arith, length-take (board.w * board.h) board.cells) in
    let m : suc (length (queue_of queue)) ≤ 257 = omega (arith, queue_length queue) in
    omega (arith, mul-le-mul k m, waiting_few (queue_of queue))
  where
    low : (c : ℕ) → at (board_of board) c ≤ 255
    low c = by_test (ltb c (board.w * board.h))
        (λ h. rw (at_cell board c (ltb-true c (board.w * board.h) h)) (let g = f c in omega arith))
        (λ h. let g = ltb-false c (board.w * board.h) h in
        rw (get_or-eq_default (board_of board) 0 {n = c} (omega (arith, length-take (board.w * board.h) board.cells))) (omega arith))

-- ## A turn

module _ {board : Board} {queue : Queue} {machines : List Machine} {b : Board} {q : Queue} {notes : Notes} {n : ℕ} (r : Running board queue machines b q notes n) where
  -- nothing waits: the run ends with the round's notes
  pub run_empty : none ≡ pop higher (queue_of q) → Probes board (λ _. queue_of queue) machines (record { steps = n; end = Some (b, notes) })
  run_empty p = record {
    size = r.size;
    notes = r.noted;
    few = omega (arith, r.few, r.small);
    to = λ z t s. (let h = r.here z t s in
        (h.0, h.2 ∙ probe_stop z (probing (board_of b) (queue_of q) (notes_of notes) h.0) (step_empty z (board_of b) (queue_of q) (notes_of notes) h.0 (sym p)), h.1));
  }

-- a cell was popped, and its colours were assumed
pub record Popped (board : Board) (queue : Queue) (machines : List Machine) (b : Board) (q : Queue) (notes : Notes) (n : ℕ) (c : Cell) (rest : Queue) (i : Impact) : Type 0 where
  pub run : Running board queue machines b q notes n
  pub sized : Sized board
  pub playable : Playable board.w board.h machines
  pub first : some (c, queue_of rest) ≡ pop higher (queue_of q)
  pub below : c < q.n
  pub long : rest.n ≡ q.n
  pub impact : Impacts b c machines i

module _ {board : Board} {queue : Queue} {machines : List Machine} {b : Board} {q : Queue} {notes : Notes} {n : ℕ} {c : Cell} {rest : Queue} {i : Impact}
    (p : Popped board queue machines b q notes n c rest i) where
  open p use {run, sized, playable, first, below, long, impact}

  -- the run then
  after : Run → Run
  after t = assumed_all c (colours (at (board_of b) c)) t

  after_steps : (s t : Run) → steps t ≡ steps s + n → steps (after t) ≡ steps s + (n + i.steps)
  unfolding after
  after_steps s t e = omega (arith, assumed_steps c (colours (at (board_of b) c)) t, impact.steps, e)

  pub assumed_eight : i.steps ≤ 8
  assumed_eight = rw impact.steps (colours_few (at (board_of b) c))

  pub steps_small : n + i.steps ≤ 2 ^ 28
  steps_small = omega (arith, run.few, run.small, assumed_eight)

  -- no colour contradicts: the cell is noted
  module _ (e : i.bad ≡ 0) (noted : Notes) (v : Says notes.n (set (notes_of notes) c (some (each_of (get_or b.cells c 0) i.counts))) noted) where
    step_on : (z : Puzzle) → Table z board.w board.h machines → (t : Run) →
        probe_step z (probing (board_of b) (queue_of q) (notes_of notes) t) ≡ more (probing (board_of b) (queue_of rest) (notes_of noted) (after t))
    unfolding after
    step_on z k t =
        let x = table_same run.size k in
        step_noted z (board_of b) (queue_of q) (notes_of notes) t c (queue_of rest) (sym first) (impact.bad z x ∙ ap colours e ∙ colours_none)
        ∙ ap (λ ns. more (probing (board_of b) (queue_of rest) ns (after t)))
        (ap (λ l. set (notes_of notes) c (some l)) (impact.good z x e ∙ ap (λ s. each_of s i.counts) (at_cell b c (rw (same_cells run.size, ← run.queued) below))) ∙ sym v.notes)

    pub noted_less : measured b rest < measured b q
    noted_less = probe_less playable.puzzle (probing (board_of b) (queue_of q) (notes_of notes) idle) (step_on playable.puzzle playable.table idle)

    pub noted_turn : Running board queue machines b rest noted (n + i.steps)
    noted_turn = record {
      size = run.size;
      long = run.long;
      queued = long ∙ run.queued;
      noted = v.size ∙ run.noted;
      few = omega (arith, run.few, noted_less, assumed_eight);
      small = run.small;
      here = λ z k s. (let h = run.here z k s in
          (after h.0, after_steps s h.0 h.1, h.2 ∙ probe_more z (probing (board_of b) (queue_of q) (notes_of notes) h.0) (step_on z k h.0)));
    }

  -- some colours contradict: they are cut
  module _ (e : i.bad ≡ 0 → ⊥) where
    cut_off : Puzzle → Option (Rules.Board × CellQueue)
    cut_off z = cut_colours z (board_of b) c (colours i.bad) (queue_of rest)

    step_cut : (z : Puzzle) → Table z board.w board.h machines → (t : Run) → probe_step z (probing (board_of b) (queue_of q) (notes_of notes) t) ≡ after_cut (after t) (cut_off z)
    unfolding after cut_off
    step_cut z x t =
        let m = colours_some i.bad impact.low e in
        step_judged z (board_of b) (queue_of q) (notes_of notes) t c (queue_of rest) (sym first) (m.0 ∷ m.1) (impact.bad z (table_same run.size x) ∙ m.2)
        ∙ judge_cut z (board_of b) c (queue_of rest) (notes_of notes) (after t) (solving (outcomes z (board_of b) c)) m.0 m.1
        ∙ ap (λ xs. after_cut (after t) (cut_colours z (board_of b) c xs (queue_of rest))) (sym m.2)

    -- a contradiction ends the run
    pub cut_fails : Pushes b rest machines (λ z. cut_colours z (board_of b) c (colours i.bad) (queue_of rest)) None → Probes board (λ _. queue_of queue) machines (record { steps = n + i.steps; end = None })
    unfolding cut_off
    cut_fails v = record {
      size = tt;
      notes = tt;
      few = steps_small;
      to = λ z x s. (let h = run.here z x s in
          (after h.0, h.2 ∙ probe_stop z (probing (board_of b) (queue_of q) (notes_of notes) h.0) (step_cut z x h.0 ∙ ap (after_cut (after h.0)) (v.to z (table_same run.size x))), after_steps s h.0 h.1));
    }

    -- otherwise a new round starts, or the board is solved
    module _ (k : Board) (pushed : Queue) (v : Pushes b rest machines (λ z. cut_colours z (board_of b) c (colours i.bad) (queue_of rest)) (Some (k, pushed))) (l : length k.cells ≡ 256)
        (noted : Notes) (w : Says (board.w * board.h) (replicate (board.w * board.h) none) noted) where
      none_noted : notes_of noted ≡ no_notes (board_of k)
      none_noted = fresh k (same_sized (same_trans run.size v.size) sized) l w (sym (same_cells (same_trans run.size v.size)))

      step_round : (z : Puzzle) → Table z board.w board.h machines → (t : Run) →
          probe_step z (probing (board_of b) (queue_of q) (notes_of notes) t) ≡ new_round (board_of k) (queue_of pushed) (after t)
      unfolding cut_off
      step_round z x t = step_cut z x t ∙ ap (after_cut (after t)) (v.to z (table_same run.size x))

      pub cut_solves : solved (board_of k) ≡ true → Probes board (λ _. queue_of queue) machines (record { steps = n + i.steps; end = Some (k, noted) })
      cut_solves d = record {
        size = same_trans run.size v.size;
        notes = w.size;
        few = steps_small;
        to = λ z x s. (let h = run.here z x s in
            (after h.0, h.2 ∙ probe_stop z (probing (board_of b) (queue_of q) (notes_of notes) h.0) (step_round z x h.0 ∙ rw (d, new_round, none_noted)), after_steps s h.0 h.1));
      }

      module _ (d : solved (board_of k) ≡ false) where
        step_again : (z : Puzzle) → Table z board.w board.h machines → (t : Run) →
            probe_step z (probing (board_of b) (queue_of q) (notes_of notes) t) ≡ more (probing (board_of k) (queue_of pushed) (notes_of noted) (after t))
        step_again z x t = step_round z x t ∙ rw (d, new_round, none_noted)

        pub cut_less : measured k pushed < measured b q
        cut_less = probe_less playable.puzzle (probing (board_of b) (queue_of q) (notes_of notes) idle) (step_again playable.puzzle playable.table idle)

        pub cut_turn : Running board queue machines k pushed noted (n + i.steps)
        cut_turn = record {
          size = same_trans run.size v.size;
          long = l;
          queued = v.room ∙ long ∙ run.queued;
          noted = w.size;
          few = omega (arith, run.few, cut_less, assumed_eight);
          small = run.small;
          here = λ z x s. (let h = run.here z x s in
              (after h.0, after_steps s h.0 h.1, h.2 ∙ probe_more z (probing (board_of b) (queue_of q) (notes_of notes) h.0) (step_again z x h.0)));
        }
