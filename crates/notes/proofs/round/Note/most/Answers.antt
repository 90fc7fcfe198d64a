-- The largest is that of the counts that the colours of the set have.
use borrow.Author.Tests.{tests}
use borrow.Author.Rules.{rules}
use mathlib.Core.Path.{refl, ◌∙◌}
use Rattle.std.proofs.lemmas.Iterator.{YieldsList-from_range}
use Rattle.std.proofs.lemmas.Iterator.Consumers.{YieldsList-from_filter_map, max_from_yields_List}
use Rattle.notes.specs.Round.{solves}
use Rattle.notes.proofs.Rating.{largest_counted}
use Rattle.notes.proofs.round.Note.most.Goals as goal

pub returns : goal.returns
returns c =
    c.unwrap_or.ensures ∙ largest_counted c.args.self.now c.max.result
    (max_from_yields_List _ _ c.max.ensures.ran (YieldsList-from_filter_map _ (solves c.args.self.now) (YieldsList-from_range 0 8 8 (cc) refl) c.filter_map.ensures.closure (λ x r q k. search (rules, tests))))
