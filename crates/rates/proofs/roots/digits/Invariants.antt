-- The invariant: the top digits so far are the root's square and the rest, which is at most twice the root, and the digits below are what is left. Each turn keeps it, by `turned_one` or
-- `turned_zero`, and after 58 turns nothing is left.
use Rattle.rates.proofs.Turns.{Turned}
use Rattle.rates.proofs.roots.digits.Given as goal

abbrev pub invariant-loop-turn : goal.invariant-loop-turn
invariant-loop-turn l = Turned l.units l.left l.root l.rest l._turn
