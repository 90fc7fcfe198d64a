-- The place that is found is the first cell that is not solved.
use borrow.Author.Rules.{rules}
use borrow.Author.Tests.{tests}
use mathlib.Core.Path.{◌≡◌}
use mathlib.Core.Bool.{true, false}
use Rattle.std.specs.Prelude.{Some, None}
use Rattle.std.proofs.lemmas.Iterator.{YieldsList-from_slice, IsFirst-from_position}
use Rattle.rules.specs.Sets.{single}
use Rattle.boards.specs.Board.{board_of}
use Rattle.guesses.proofs.Unsolved.{found_unsolved, all_solved}
use Rattle.guesses.proofs.refill.first_unsolved.Goals as goal

pub returns-in-Some : goal.returns-in-Some
returns-in-Some c =
    let f = IsFirst-from_position _ _ (Some c.in-Some.i) (λ s. single s ≡ false) (λ s. single s ≡ true) c.in-Some.ensures.ran (YieldsList-from_slice (board_of c.args.b) (cc))
    (λ x q k. search (rules, tests)) (λ x q k. search (rules, tests)) in
    found_unsolved (board_of c.args.b) c.colours_of.result c.in-Some.i f.0 f.1 f.2 c.colours_of.ensures

pub returns-in-None : goal.returns-in-None
returns-in-None c =
    let f = IsFirst-from_position _ _ None (λ s. single s ≡ false) (λ s. single s ≡ true) c.in-None.ensures.ran (YieldsList-from_slice (board_of c.args.b) (cc))
    (λ x q k. search (rules, tests)) (λ x q k. search (rules, tests)) in
    all_solved (board_of c.args.b) c.none.result f c.none.ensures
