use mathlib.Core.Path.{refl, sym}
use native.Mathlib.Omega.{arith}
use Rattle.std.proofs.lemmas.List.Recursion.{and_from_places, and_fails_at}
use Rattle.rules.specs.Lists.{every}
use Rattle.rules.specs.Sets.{single}
use Rattle.rules.specs.Boards.{solved}
use Rattle.boards.specs.Board.{board_of}
use Rattle.boards.proofs.board.Board.is_solved_full.Goals as goal

pub returns-then-not-is_solved : goal.returns-then-not-is_solved
unfolding solved
returns-then-not-is_solved c =
    sym (and_fails_at (every single) single refl (λ _ _. refl) (board_of c.args.self) c.loop-s.s-index 0 c.loop-s-test.true (sym c.if-not-is_solved.ensures))

pub returns : goal.returns
unfolding solved
returns c = sym (and_from_places (every single) single refl (λ _ _. refl) (board_of c.args.self) 0 (λ k h. c.loop-s.invariant k (let l = c.loop-s-test.false in omega arith)))
