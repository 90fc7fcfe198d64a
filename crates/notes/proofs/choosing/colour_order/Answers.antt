use Rattle.notes.proofs.Ordering.{order_noted, order_none}
use Rattle.notes.proofs.choosing.colour_order.Goals as goal

pub returns-in-Some : goal.returns-in-Some
returns-in-Some c = order_noted _ _ _ _ c.in-Some.ensures c.order_of.ensures

pub returns-in-None : goal.returns-in-None
returns-in-None c = order_none _ _ _ c.in-None.ensures c.new.ensures
