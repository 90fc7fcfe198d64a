-- With fewer bytes the layout is broken; the pairs that are there are tested one by one.
use Rattle.std.proofs.Common.{ap, ◌∙◌, ◌≡◌, ◌+◌, ◌*◌, ◌/◌, length, rules, arith, tests}
use Rattle.std.specs.Bool.{then_some}
use Rattle.std.specs.List.{list_all}
use Rattle.std.specs.Simd.{first_chunks}
use Rattle.std.proofs.lemmas.Iterator.{YieldsList-from_slice}
use Rattle.std.proofs.lemmas.Iterator.Search.{all_from_yields_List}
use Rattle.lines.proofs.Reading.{pair_allowed, pairs_missing, pairs_there}
use Rattle.lines.proofs.layout.read_pairs.Goals as goal

pub returns-in_err-get : goal.returns-in_err-get
returns-in_err-get c =
    let a = c.args in
    let h = c.in_err-get.ensures.lookup.0 in
    c.from_residual.ensures ∙ pairs_missing a.k a.n a.at a.bytes.now c.requires.0 (grind arith)

pub returns : goal.returns
returns c =
    let a = c.args in
    let h = c.in_ok-get.ensures.lookup.0 in
    let t = all_from_yields_List (pair_allowed a.k) _ _ c.all.result c.all.ensures.ran (YieldsList-from_slice c.as_chunks.result.0.now cc) (λ x b q k. search (rules, tests)) in
    let w : length c.in_ok-get.field-0.now / 2 ≡ a.n = omega arith in
    c.then_some.ensures
    ∙ ap (λ b. then_some b (a.at + 2 * a.n)) (t ∙ ap (list_all (pair_allowed a.k)) (c.as_chunks.ensures.front ∙ ap (λ i. first_chunks 2 i c.in_ok-get.field-0.now) w))
    ∙ pairs_there a.k a.n a.at a.bytes.now c.in_ok-get.field-0.now (omega arith) h.2
