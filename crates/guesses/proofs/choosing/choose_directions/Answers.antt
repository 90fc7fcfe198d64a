use mathlib.Core.Path.{ap, subst, ◌∙◌}
use mathlib.Core.List.{[], map}
use Rattle.std.proofs.lemmas.Iterator.Adapters.{YieldsList-from_rev_slice}
use Rattle.std.proofs.lemmas.Iterator.Consumers.{YieldsList-end}
use Rattle.cells.specs.declared.CellNo.{CellNo}
use Rattle.rules.specs.Lists.{joined}
use Rattle.rules.specs.Guesses.{choose}
use Rattle.notes.specs.Round.{notes_of}
use Rattle.guesses.specs.Waiting.{IfRoom}
use Rattle.guesses.proofs.Placing.{placing_end, placed_all}
use Rattle.guesses.proofs.choosing.choose_directions.Invariants.{of_cell}
use Rattle.guesses.proofs.choosing.choose_directions.Goals as goal

pub returns : goal.returns
unfolding choose
returns c =
    let f = of_cell (notes_of c.args.notes) in
    let all = YieldsList-end (YieldsList-from_rev_slice c.ranked-order.result.items (cc)) c.loop-c.yielded _ c.loop-c.yielded_by _ _ c.in-None.is c.next.ensures.steps in
    subst (λ gs. IfRoom gs c.loop-c.g) (placed_all f (λ k. k.0) c.ranked-order.result.items ∙ ap (λ cs. joined (map f cs)) c.ranked-order.ensures)
    (placing_end (λ (k : CellNo). f k.0) [] c.loop-c.g _ c.ranked-order.result.items all.0 c.loop-c.invariant.2)
