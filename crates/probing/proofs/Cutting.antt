-- Contradicting colours are removed, one by one, and the cell is propagated.
use Rattle.std.proofs.Common.{◌≡◌, ℕ, ◌+◌, ◌-◌, ◌*◌, ◌≤◌, ◌<◌, true, false, cond, Option, List, get_or, set, subst, refl, sym, ap, ◌∙◌, arith}
use Rattle.std.proofs.Math.Option.{Option as Maybe, none, some}
use Rattle.std.proofs.lemmas.Option.{IfSome_then}
use Rattle.rules.specs.Lists.{keep, from}
use Rattle.rules.specs.Sets.{Colour, has, members, colours, empty, without}
use Rattle.rules.specs.Boards.{Cell, at, remove, remove_all, Puzzle, newly}
use Rattle.rules.specs.Propagation.{propagate}
use Rattle.rules.specs.Probing.{CellQueue, push_both}
use Rattle.rules.proofs.Sets.{none_empty, some_not_empty}
use Rattle.rules.proofs.Narrowing.{remove_all-turn}
use Rattle.lines.specs.declared.machine.Machine.{Machine}
use Rattle.boards.specs.declared.board.Board.{Board}
use Rattle.boards.specs.Board.{board_of, SameSize, with_cell}
use Rattle.queues.specs.declared.Queue.{Queue}
use Rattle.queues.specs.Entries.{queue_of, Holds}
use Rattle.probing.specs.Probing.{propagate_point, cut_colours, PushedTo, Pushes}
use Rattle.probing.proofs.Frames.{same_trans, same_cells, table_same, at_cell}
use Rattle.probing.proofs.Assuming.{set_cell, set_size}

-- ## Removing

remove_cell : (b : Board) (c : Cell) (x : Colour) → c < b.w * b.h → board_of (with_cell b c (without (get_or b.cells c 0) x)) ≡ remove (board_of b) c x
unfolding remove
remove_cell b c x h = set_cell b c (without (get_or b.cells c 0) x) h ∙ ap (λ s. set (board_of b) c (without s x)) (sym (at_cell b c h))

-- removing the colours from x on is all that is left to do
pub record Removing (board : Board) (c : Cell) (bad : ℕ) (b : Board) (x : ℕ) : Type 0 where
  pub size : SameSize board b
  pub rest : remove_all (board_of board) c (colours bad) ≡ remove_all (board_of b) c (keep (has bad) (from x (8 - x)))

module _ (board : Board) (c : Cell) (bad : ℕ) where
  pub removing_start : Removing board c bad board 0
  unfolding members
  removing_start = record { size = record { wide = refl; high = refl }; rest = refl }

  module _ (b : Board) (x : ℕ) (r : Removing board c bad b x) (k : x < 8) where
    pub removing_turn : {a : Board} → c < board.w * board.h → has bad x ≡ true → a ≡ with_cell b c (without (get_or b.cells c 0) x) → Removing board c bad a (x + 1)
    removing_turn h e f = record {
      size = same_trans r.size (set_size b c _ f);
      rest = r.rest ∙ remove_all-turn (board_of b) c (has bad) x 8 k
          ∙ ap (λ l. remove_all l c (keep (has bad) (from (x + 1) (8 - (x + 1)))))
          (ap (λ v. cond v (remove (board_of b) c x) (board_of b)) e ∙ sym (ap board_of f ∙ remove_cell b c x (rw (same_cells r.size) h)));
    }

    pub removing_pass : has bad x ≡ false → Removing board c bad b (x + 1)
    removing_pass e = record {
      size = r.size;
      rest = r.rest ∙ remove_all-turn (board_of b) c (has bad) x 8 k
          ∙ ap (λ v. remove_all (cond v (remove (board_of b) c x) (board_of b)) c (keep (has bad) (from (x + 1) (8 - (x + 1))))) e;
    }

  pub removing_end : (b : Board) (x : ℕ) → Removing board c bad b x → 8 ≤ x → board_of b ≡ remove_all (board_of board) c (colours bad)
  unfolding remove_all
  removing_end b x r h = let e : 8 - x ≡ 0 = omega arith in sym (r.rest ∙ rw e)

-- ## Propagating

module _ (b : Board) (c : Cell) (q : Queue) (z : Puzzle) where
  pub point_fails : propagate z (board_of b) c ≡ none → propagate_point z (board_of b) c (queue_of q) ≡ none
  unfolding propagate_point
  point_fails p = rw (p, propagate_point)

  pub point_pushes : (end : Board) (r : Queue) → propagate z (board_of b) c ≡ some (board_of end) → Holds q.n (push_both z (board_of end) c (newly (board_of b) (board_of end)) (queue_of q)) r →
      propagate_point z (board_of b) c (queue_of q) ≡ some (board_of end, queue_of r)
  unfolding propagate_point
  point_pushes end r p u = rw (p, propagate_point) (ap (λ q. some (board_of end, q)) (sym u.queue))

-- ## Both

-- propagating from a board as large, that gives the same
pub pushes_from : {b a : Board} (q : Queue) {machines : List Machine} {f g : Puzzle → Maybe (List ℕ × CellQueue)} (r : Option (Board × Queue)) → SameSize b a → ((z : Puzzle) → f z ≡ g z) → Pushes a q machines f r → Pushes b q machines g r
pushes_from q r s e p = record {
  size = IfSome_then r p.size (λ a. same_trans s);
  room = p.room;
  to = λ z t. subst (PushedTo r) (e z) (p.to z (table_same s t));
}

module _ (b a : Board) (c : Cell) (xs : List Colour) (e : board_of a ≡ remove_all (board_of b) c xs) (h : c < a.w * a.h) (q : CellQueue) (z : Puzzle) where
  left_at : get_or a.cells c 0 ≡ at (remove_all (board_of b) c xs) c
  left_at = sym (at_cell a c h) ∙ ap (λ l. at l c) e

  -- the last colour is removed
  pub cut_last : get_or a.cells c 0 ≡ 0 → cut_colours z (board_of b) c xs q ≡ none
  unfolding cut_colours
  cut_last f = let k : empty (at (remove_all (board_of b) c xs) c) ≡ true = ap empty (sym left_at ∙ f) ∙ none_empty in rw (k, cut_colours)

  pub cut_goes_on : get_or a.cells c 0 < 256 → (get_or a.cells c 0 ≡ 0 → ⊥) → propagate_point z (board_of a) c q ≡ cut_colours z (board_of b) c xs q
  unfolding cut_colours
  cut_goes_on l f =
      let k : empty (at (remove_all (board_of b) c xs) c) ≡ false = ap empty (sym left_at) ∙ some_not_empty (get_or a.cells c 0) l f in
      rw (k, cut_colours) (ap (λ l. propagate_point z l c q) e)
