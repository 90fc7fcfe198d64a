-- The starting queue: the solved cells of each line are counted, and the unsolved cells are pushed, cell by cell.
use mathlib.Core.Path.{◌≡◌, sym, ap, ap₂, ◌∙◌}
use mathlib.Core.Bool.{Bool, true, false}
use mathlib.Core.List.{List, map}
use mathlib.Core.Option.{Option, none, some}
use Prim.Native.Nat.{ℕ, ◌+◌, ◌-◌, ◌*◌, ◌/◌, ◌%◌, ◌≤◌, ◌<◌}
use native.Mathlib.Nat.{mod-lt}
use native.Mathlib.Omega.{arith}
use lib.Ieee.{Float}
use lib.ListN.{length, get_or, replicate, length-map}
use Rattle.rules.specs.Lists.{keep, from}
use Rattle.rules.specs.Sets.{single}
use Rattle.rules.specs.Boards as Rules
use Rattle.rules.specs.Boards.{Cell, at, Puzzle, row_of, column_of, line_cells, around}
use Rattle.rules.specs.Queues.{push}
use Rattle.rules.specs.Floats.{priority_of, solved_of, priority}
use Rattle.rules.specs.Probing.{start_queue}
use Rattle.rules.proofs.Lists.{keep_same, keep_map}
use Rattle.rules.proofs.Boards.{line_low}
use Rattle.rules.proofs.Queues.{filled, filled_none, filled_all, filled_push, filled_pass}
use Rattle.boards.specs.declared.board.Board.{Board}
use Rattle.boards.specs.declared.line.Line.{Line}
use Rattle.boards.specs.Board.{board_of, Sized}
use Rattle.boards.specs.Line.{line_at, places, Reaches}
use Rattle.boards.proofs.Sizes.{few_cells}
use Rattle.boards.proofs.Places.{line_row, line_column, length_places}
use Rattle.boards.proofs.Crossing.{place, line_cells_lem, cell_row, reaches}
use Rattle.queues.specs.declared.Queue.{Queue}
use Rattle.queues.specs.Entries.{queue_of, Holds}
use Rattle.probing.specs.Neighbours.{OfSize}
use Rattle.probing.specs.Start.{SolvedOn, PriorityIs}
use Rattle.probing.proofs.Frames.{at_cell}

-- ## Solved cells of a line

-- cell j of a line is solved
abbrev pub solved_at : Board → Line → ℕ → Bool
solved_at b l j = single (get_or b.cells (place l j) 0)

-- the line's places are in the array
pub reaches_line : (b : Board) (i : ℕ) {l : Line} → Sized b → i < b.h + b.w → l ≡ line_at b.w b.h i → Reaches l 256
reaches_line b i s h e = rw e (reaches b.w b.h i 256 s.narrow s.low h (few_cells b s))

pub solved_line : (b : Board) (i : ℕ) → i < b.h + b.w → (z : Puzzle) → OfSize z b →
    length (keep (solved_at b (line_at b.w b.h i)) (from 0 (line_at b.w b.h i).len)) ≡ solved_of (board_of b) (line_cells z i)
solved_line b i h z o =
    let l = line_at b.w b.h i in
    let e : line_cells z i ≡ places l = line_cells_lem z i ∙ ap₂ (λ w h. places (line_at w h i)) o.wide o.high in
    let raw : Cell → Bool = λ c. single (get_or b.cells c 0) in
    sym (ap length (keep_same (λ c. single (at (board_of b) c)) raw (line_cells z i)
    (λ c m. ap single (at_cell b c (rw (o.wide, o.high) at (line_low z i (rw (o.wide, o.high) h) m)))))
    ∙ ap (λ cs. length (keep raw cs)) e ∙ ap length (keep_map raw (place l) (from 0 l.len)) ∙ length-map (keep (solved_at b l) (from 0 l.len)) (place l))

-- ## All cells

-- what a cell waits with
abbrev starts_with : Puzzle → Rules.Board → Cell → Option Float
starts_with z b c = elim (single (at b c)) [ true ↦ none | false ↦ some (priority z b c) ]

module _ (b : Board) (s : Sized b) (c : Cell) (h : c < b.w * b.h) (solved : List ℕ) (on : SolvedOn b (b.h + b.w) solved) (z : Puzzle) (o : OfSize z b) where
  row_low : row_of z c < z.height
  row_low = cell_row z.width z.height c (rw o.wide s.wide) (rw (o.wide, o.high) h)

  column_low : c % z.width < z.width
  column_low = mod-lt c (rw o.wide s.wide)

  row_long : length (line_cells z (row_of z c)) ≡ z.width
  row_long = ap length (line_cells_lem z (row_of z c) ∙ ap (λ l. places l) (line_row z.width z.height (row_of z c) row_low)) ∙ length_places (record { start = row_of z c * z.width; stride = 1; len = z.width })

  column_long : length (line_cells z (column_of z c)) ≡ z.height
  column_long = ap length (line_cells_lem z (column_of z c) ∙ ap (λ l. places l) (line_column z.width z.height (column_of z c) (omega arith)))
      ∙ length_places (record { start = column_of z c - z.height; stride = z.width; len = z.height })

  priority_is : priority_of (length (around z (board_of b) c)) (get_or solved (c / b.w) 0) b.w (get_or solved (b.h + c % b.w) 0) b.h ≡ priority z (board_of b) c
  unfolding priority
  priority_is =
      let row : get_or solved (c / b.w) 0 ≡ solved_of (board_of b) (line_cells z (row_of z c)) =
      ap (λ w. get_or solved (c / w) 0) (sym o.wide) ∙ on.each z o (row_of z c) (omega (arith, row_low, o.high)) in
      let column : get_or solved (b.h + c % b.w) 0 ≡ solved_of (board_of b) (line_cells z (column_of z c)) =
      ap₂ (λ w h. get_or solved (h + c % w) 0) (sym o.wide) (sym o.high) ∙ on.each z o (column_of z c) (omega (arith, column_low, o.wide, o.high)) in
      λ k. priority_of (length (around z (board_of b) c)) (row k) (sym (row_long ∙ o.wide) k) (column k) (sym (column_long ∙ o.high) k)

-- the unsolved cells before i wait
pub record Starting (b : Board) (q : Queue) (i : ℕ) : Type 0 where
  pub size : q.n ≡ b.w * b.h
  pub queue : (z : Puzzle) → OfSize z b → queue_of q ≡ filled (starts_with z (board_of b)) (b.w * b.h) i

module _ (b : Board) (q : Queue) where
  pub starting_start : Holds (b.w * b.h) (replicate (b.w * b.h) none) q → Starting b q 0
  starting_start u = record { size = u.size; queue = λ z o. u.queue ∙ sym (filled_none (starts_with z (board_of b)) (b.w * b.h)) }

  module _ (i : ℕ) (t : Starting b q i) where
    -- a solved cell is passed
    pub starting_pass : single (at (board_of b) i) ≡ true → Starting b q (i + 1)
    starting_pass e = record {
      size = t.size;
      queue = λ z o. t.queue z o ∙ sym (filled_pass (starts_with z (board_of b)) (b.w * b.h) i (rw (e, starts_with)));
    }

    -- an unsolved cell comes to wait
    pub starting_wait : {p : Float} {r : Queue} (solved : List ℕ) → Sized b → i < b.w * b.h → SolvedOn b (b.h + b.w) solved → single (at (board_of b) i) ≡ false →
        PriorityIs b i (get_or solved (i / b.w) 0) (get_or solved (b.h + i % b.w) 0) p → Holds q.n (push i p (queue_of q)) r → Starting b r (i + 1)
    starting_wait solved s h on e f u = record {
      size = u.size ∙ t.size;
      queue = λ z o. u.queue ∙ ap₂ (push i) (f z o ∙ priority_is b s i h solved on z o) (t.queue z o)
          ∙ sym (filled_push (starts_with z (board_of b)) (b.w * b.h) i (priority z (board_of b) i) (rw (e, starts_with)));
    }

    pub starting_end : b.w * b.h ≤ i → length (board_of b) ≡ b.w * b.h → (z : Puzzle) → OfSize z b → Holds (b.w * b.h) (start_queue z (board_of b)) q
    unfolding start_queue
    starting_end h l z o = record {
      size = t.size;
      queue = t.queue z o ∙ filled_all (starts_with z (board_of b)) (b.w * b.h) i h ∙ ap (λ n. map (starts_with z (board_of b)) (from 0 n)) (sym l);
    }
