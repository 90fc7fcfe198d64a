-- Each cell is asked, beside its set of colours guessed.
use borrow.Author.Rules.{rules}
use borrow.Author.Tests.{tests}
use mathlib.Core.Path.{◌∙◌}
use Prim.Native.Nat.{ℕ, ◌*◌}
use native.Mathlib.Omega.{arith}
use lib.ListN.{length-take}
use Rattle.std.proofs.lemmas.Iterator.{YieldsList-from_slice, YieldsList-from_zip}
use Rattle.std.proofs.lemmas.Iterator.Search.{any_from_yields_List}
use Rattle.rules.specs.Lists.{every}
use Rattle.rules.specs.Sets.{has, colours}
use Rattle.boards.specs.Board.{board_of}
use Rattle.boards.proofs.Sizes.{few_cells}
use Rattle.guesses.proofs.Closed.{pairs_closed}
use Rattle.guesses.proofs.refill.any_closed.Goals as goal

pub returns : goal.returns
returns c l m =
    any_from_yields_List (λ (p : ℕ × ℕ). every (has p.1) (colours p.0)) c.any.new.self _ c.any.result c.any.ensures.ran
    (YieldsList-from_zip (YieldsList-from_slice (board_of c.args.b) (cc)) (YieldsList-from_slice c.args.made (cc))) (λ x b q k. search (rules, tests))
    ∙ pairs_closed (board_of c.args.b) c.args.made (omega (arith, few_cells c.args.b c.requires, length-take (c.args.b.w * c.args.b.h) c.args.b.cells)) (search rules) l m
