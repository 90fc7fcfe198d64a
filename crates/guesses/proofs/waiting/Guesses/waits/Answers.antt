-- Each place from the head on is asked.
use borrow.Author.Rules.{rules}
use borrow.Author.Tests.{tests}
use mathlib.Core.Path.{refl, ◌∙◌}
use Prim.Native.Nat.{◌-◌}
use Rattle.std.proofs.lemmas.Iterator.{YieldsList-from_range}
use Rattle.std.proofs.lemmas.Iterator.Search.{any_from_yields_List}
use Rattle.rules.specs.Guesses.{guess}
use Rattle.rules.specs.Search.{same_guess}
use Rattle.rules.specs.Answers.{most_waiting}
use Rattle.guesses.specs.Waiting.{guess_at}
use Rattle.guesses.proofs.Arrays.{among_places}
use Rattle.guesses.proofs.waiting.Guesses.waits.Goals as goal

pub returns : goal.returns
returns c =
    any_from_yields_List (λ i. same_guess (guess c.args.c.0 c.args.x.0) (guess_at c.args.self.now i)) _ _ c.any.result c.any.ensures.ran (YieldsList-from_range c.args.self.now.head most_waiting (most_waiting - c.args.self.now.head) (cc) refl) (λ x b q k. search (rules, tests))
    ∙ among_places c.args.self.now (guess c.args.c.0 c.args.x.0)
