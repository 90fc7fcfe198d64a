-- Pushing the unsolved neighbours of the newly solved cells: they are found cell by cell, and pushed together.
use Rattle.std.proofs.Common.{◌≡◌, ℕ, ◌+◌, ◌-◌, ◌*◌, ◌≤◌, ◌<◌, true, false, not, ◌&&◌, cond, List, [], ◌++◌, map, length, get_or, sym, ap, ap₂, ◌∙◌, append_assoc, append-nil, length-append, arith}
use Rattle.std.proofs.lemmas.List.{map-append}
use Rattle.rules.specs.Lists.{keep, from, joined}
use Rattle.rules.specs.Sets.{single}
use Rattle.rules.specs.Boards.{Cell, newly, Puzzle, around}
use Rattle.rules.specs.Floats.{float}
use Rattle.rules.specs.Probing.{push_all, push_around, push_both}
use Rattle.rules.proofs.Tests.{by_test}
use Rattle.rules.proofs.Lists.{from_start, from_end, keep_more}
use Rattle.rules.proofs.Probing.{push_around-joined}
use Rattle.cells.specs.declared.CellNo.{CellNo}
use Rattle.cells.specs.Numbers.{cell_numbers}
use Rattle.boards.specs.declared.board.Board.{Board}
use Rattle.boards.specs.Board.{board_of, SameSize}
use Rattle.boards.proofs.Counting.{is_new}
use Rattle.queues.specs.declared.Queue.{Queue}
use Rattle.queues.specs.Entries.{queue_of, Holds}
use Rattle.probing.specs.Neighbours.{OfSize}
use Rattle.probing.proofs.Frames.{same_cells, at_cell}

-- ## The newly solved cells

module _ (start end : Board) where
  abbrev n : ℕ
  n = end.w * end.h

  -- the unsolved neighbours of the newly solved cells from cell i on
  abbrev news : Puzzle → ℕ → List Cell
  news z i = joined (map (around z (board_of end)) (keep (is_new start end) (from i (n - i))))

  news_more : (z : Puzzle) (i : ℕ) → i < n → news z i ≡ cond (is_new start end i) (around z (board_of end) i) [] ++ news z (i + 1)
  news_more z i l = rw (keep_more (is_new start end) i n l) (by_test (is_new start end i) (λ e. rw e) (λ e. rw e))

  -- the unsolved neighbours of the newly solved cells before i are found, and they are at most four for each
  pub record Finding (found : List CellNo) (i : ℕ) : Type 0 where
    pub few : length found ≤ 4 * i
    pub rest : (z : Puzzle) → OfSize z end → cell_numbers found ++ news z i ≡ news z 0

  -- what the arrays say of a cell
  pub new_here : (i : ℕ) → i < n → SameSize start end → is_new start end i ≡ not (single (get_or start.cells i 0)) && single (get_or end.cells i 0)
  new_here i l s = ap₂ (λ a b. not (single a) && single b) (at_cell start i (rw (← same_cells s) l)) (at_cell end i l)

  module _ (found : List CellNo) (i : ℕ) (f : Finding found i) (l : i < n) where
    pub finding_pass : is_new start end i ≡ false → Finding found (i + 1)
    finding_pass e = record {
      few = omega (arith, f.few);
      rest = λ z o. ap (λ cs. cell_numbers found ++ cs) (sym (news_more z i l ∙ rw e)) ∙ f.rest z o;
    }

    pub finding_more : (next : List CellNo) → is_new start end i ≡ true → length next ≤ 4 → ((z : Puzzle) → OfSize z end → cell_numbers next ≡ around z (board_of end) i) → Finding (found ++ next) (i + 1)
    finding_more next e few a = record {
      few = omega (arith, f.few, length-append found next);
      rest = λ z o.
          ap (λ cs. cs ++ news z (i + 1)) (map-append (λ c. c.0) found next)
          ∙ append_assoc (cell_numbers found) (cell_numbers next) (news z (i + 1))
          ∙ ap (λ cs. cell_numbers found ++ cs) (sym (news_more z i l ∙ rw (e, a z o)))
          ∙ f.rest z o;
    }

  -- all that is found is pushed
  pub finding_end : (found : List CellNo) (i : ℕ) → Finding found i → (queue : Queue) {q : Queue} → n ≤ i → SameSize start end → length (board_of start) ≡ n →
      Holds queue.n (push_all (cell_numbers found) (float 10) (queue_of queue)) q →
      (z : Puzzle) → OfSize z end → Holds queue.n (push_around z (board_of end) (newly (board_of start) (board_of end)) (float 10) (queue_of queue)) q
  unfolding newly
  finding_end found i f queue m s long p z o =
      let all : cell_numbers found ≡ joined (map (around z (board_of end)) (newly (board_of start) (board_of end))) =
      sym (append-nil (cell_numbers found)) ∙ ap (λ cs. cell_numbers found ++ joined (map (around z (board_of end)) (keep (is_new start end) cs))) (sym (from_end i n m)) ∙ f.rest z o
      ∙ ap (λ cs. joined (map (around z (board_of end)) (keep (is_new start end) cs))) (from_start n ∙ ap (from 0) (sym long)) in
      rw (push_around-joined z (board_of end), ← all) p

-- the newly solved cells, and then the cell itself
pub pushed_both : (end : Board) (new : List Cell) (c : Cell) (queue : Queue) {q r : Queue} (z : Puzzle) → Holds queue.n (push_around z (board_of end) new (float 10) (queue_of queue)) q →
    Holds q.n (push_all (around z (board_of end) c) (float 20) (queue_of q)) r → Holds queue.n (push_both z (board_of end) c new (queue_of queue)) r
unfolding push_around
pushed_both end new c queue z u v = record { size = v.size ∙ u.size; queue = v.queue ∙ ap (push_all (around z (board_of end) c) (float 20)) u.queue }
