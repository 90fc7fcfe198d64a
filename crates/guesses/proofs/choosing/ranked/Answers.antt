use mathlib.Core.Path.{ap, ◌∙◌}
use Rattle.rules.specs.Floats.{higher}
use Rattle.rules.specs.Queues.{in_order}
use Rattle.rules.specs.Guesses.{cell_order}
use Rattle.guesses.proofs.choosing.ranked.Goals as goal

pub returns : goal.returns
unfolding cell_order
returns c = c.in_order.ensures ∙ ap (in_order higher) c.cell_order.ensures.queue
