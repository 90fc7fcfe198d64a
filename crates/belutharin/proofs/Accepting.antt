-- From the bytes of a caller to the run: an input that passes every test is a given puzzle, and what its run comes to is the rules' answer.
use Rattle.std.proofs.Common.{◌≡◌, sym, subst, ◌∙◌, true, ◌&&◌, List, length, ℕ, suc, ◌+◌, ◌*◌, ◌^◌, ◌≤◌, leb, ltb, arith, pow_mono, leb-true, ltb-true, Ok}
use Rattle.std.proofs.Math.Option as Math
use borrow.Author.Tests.{lt-ltb}
use Rattle.rules.specs.Lists.{every}
use Rattle.rules.specs.Sets.{proper}
use Rattle.rules.specs.Clues.{Clue, clues_of}
use Rattle.rules.specs.Answers.{side, most_colours, colour_count, limits, board, Asked, searched, solve}
use Rattle.rules.specs.Promises.{Accepted}
use Rattle.rules.proofs.Tests.{and_true, true_and}
use Rattle.rules.proofs.Lists.{every_out, every_in}
use Rattle.rules.proofs.Accepting.{accepted_sized, accepted_proper}
use Rattle.lines.specs.declared.machine.Machine.{Machine}
use Rattle.boards.specs.declared.board.Board.{Board}
use Rattle.boards.specs.Board.{board_of}
use Rattle.boards.specs.Table.{Table}
use Rattle.belutharin.specs.Refusals.{accept_numbers, accept_lent}
use Rattle.belutharin.specs.Answers.{asked, answer, Given, Searches}
use Rattle.belutharin.specs.declared.answers.Answer.{Answer}
use Rattle.belutharin.proofs.Refusing.{legal_width, legal_height, legal_colours, legal_limits, accepted, accepted_answer}

-- what holds at some sides holds at equal ones
pub at_sides : {w h v k : ℕ} → v ≡ w → k ≡ h → (P : ℕ → ℕ → Type 0) → P w h → P v k
at_sides {w} {h} {v} {k} wide high P p = subst (λ x. P x k) (sym wide) (subst (P w) (sym high) p)

-- cells that may be given with fewer colours may be given with more
proper_more : (k m : ℕ) (s : ℕ) → k ≤ m → proper k s ≡ true → proper m s ≡ true
unfolding proper
proper_more k m s h e =
    let r = and_true (leb 1 s) (ltb s (2 ^ suc k)) e in
    true_and r.0 (lt-ltb s (2 ^ suc m) (let u = ltb-true s (2 ^ suc k) r.1 in let v : 2 ^ suc k ≤ 2 ^ suc m = pow_mono (omega arith) in omega arith))

module _ (a : Asked) (ok : Ok tt ≡ accept_numbers (side a.w && side a.h) (colour_count a.k) (limits a.most_grids a.most_depth a.budget)) (clues : List Clue) (read : clues_of a.k (a.h + a.w) a.clues ≡ Math.some clues)
    (lent : Ok tt ≡ accept_lent (board a.k (a.w * a.h) a.cells) (leb (a.most_grids * (a.w * a.h)) (length a.list))) where
  all : Accepted a clues
  all = accepted a ok clues read lent

  pub cells_long : length a.cells ≡ a.w * a.h
  cells_long = accepted_sized a clues all

  cells_proper : every (proper most_colours) a.cells ≡ true
  cells_proper = every_in (proper most_colours) a.cells (λ s m. proper_more a.k most_colours s (legal_colours a ok) (every_out (proper a.k) a.cells (accepted_proper a clues all) m))

  list_room : a.most_grids * (a.w * a.h) ≤ length a.list
  list_room = leb-true (a.most_grids * (a.w * a.h)) (length a.list) all.room

  module _ (machines : List Machine) (table : Table (record { width = a.w; height = a.h; clues = clues }) a.w a.h machines)
      (b : Board) (wide : b.w ≡ a.w) (high : b.h ≡ a.h) (cells : board_of b ≡ a.cells) where
    table_at : Table (record { width = b.w; height = b.h; clues = clues }) b.w b.h machines
    table_at = at_sides wide high (λ w h. Table (record { width = w; height = h; clues = clues }) w h machines) table

    pub given : Given b machines a.cells a.list (record { grids = a.most_grids; depth = a.most_depth; budget = a.budget })
    given =
        let u = legal_width a ok in let v = legal_height a ok in let l = legal_limits a ok in
        record {
          sized = record { wide = omega arith; narrow = omega arith; high = omega arith; low = omega arith };
          table = record { puzzle = record { width = b.w; height = b.h; clues = clues }; table = table_at };
          board = cells;
          long = at_sides wide high (λ w h. length a.cells ≡ w * h) cells_long;
          proper = cells_proper;
          grids = l.0;
          depth = l.1;
          budget = l.2;
          room = at_sides wide high (λ w h. a.most_grids * (w * h) ≤ length a.list) list_room;
        }

    pub solved_all : (y : Answer) (out list : List ℕ) → Searches b machines (record { grids = a.most_grids; depth = a.most_depth; budget = a.budget }) a.cells a.list y out list →
        answer (Ok y) out list ≡ solve a
    solved_all y out list s = accepted_answer a ok clues read lent
        (s a.k a.clues clues table_at ∙ (λ j. searched (asked (wide j) (high j) a.k a.most_grids a.most_depth a.budget a.clues a.cells a.list) clues))
