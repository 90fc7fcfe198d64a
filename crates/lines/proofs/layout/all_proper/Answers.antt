use Rattle.std.proofs.Common.{◌∙◌, rules, tests}
use Rattle.std.proofs.lemmas.Iterator.{YieldsList-from_slice}
use Rattle.std.proofs.lemmas.Iterator.Search.{all_from_yields_List}
use Rattle.rules.specs.Sets.{proper}
use Rattle.lines.proofs.Reading.{every_is}
use Rattle.lines.proofs.layout.all_proper.Goals as goal

pub returns : goal.returns
returns c =
    let a = c.args in
    all_from_yields_List (proper a.k) _ _ _ c.all.ensures.ran (YieldsList-from_slice a.cells.now cc) (λ x b q k. search (rules, tests)) ∙ every_is (proper a.k) a.cells.now
