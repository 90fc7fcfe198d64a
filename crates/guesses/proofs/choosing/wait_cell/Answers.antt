use mathlib.Core.Path.{ap, subst, ◌∙◌}
use mathlib.Core.List.{◌++◌, map}
use Rattle.std.proofs.lemmas.Iterator.Adapters.{YieldsList-from_rev_slice}
use Rattle.std.proofs.lemmas.Iterator.Consumers.{YieldsList-end}
use Rattle.rules.specs.Guesses.{guess}
use Rattle.guesses.specs.Waiting.{guesses_of, IfRoom}
use Rattle.guesses.proofs.Placing.{placing_end, placed_each}
use Rattle.guesses.proofs.choosing.wait_cell.Invariants.{one}
use Rattle.guesses.proofs.choosing.wait_cell.Goals as goal

pub returns : goal.returns
returns c =
    let all = YieldsList-end (YieldsList-from_rev_slice c.colour_order-order.result.items (cc)) c.loop-x.yielded _ c.loop-x.yielded_by _ _ c.in-None.is c.next.ensures.steps in
    subst (λ gs. IfRoom (gs ++ guesses_of c.args.g.now) c.loop-x.g) (placed_each (guess c.args.c.0) (λ x. x.0) c.colour_order-order.result.items ∙ ap (map (guess c.args.c.0)) c.colour_order-order.ensures.colours)
    (placing_end (one c.args.c.0) (guesses_of c.args.g.now) c.loop-x.g _ c.colour_order-order.result.items all.0 c.loop-x.invariant.2)
