-- The search, its passes, its turns and its guesses call each other; how much deeper the search may go falls from each to the next, and with it the measures.
-- The search rests after each pass on the way to its end (`Resting`), and a pass goes on from the rules' node that the code's stands for (`Passing`).
use Rattle.std.proofs.Common.{◌+◌, ◌*◌}
use Rattle.backtracking.proofs.Passing.{Passing, node_size}
use Rattle.backtracking.proofs.Seeking.{Resting, rest_size}
use Rattle.backtracking.proofs.nodes.+search_search_mutable_try_direction_turn.Given as goal

abbrev pub decreases-search : goal.decreases-search
decreases-search l = 4 * l.left + 3

abbrev pub decreases-search_mutable : goal.decreases-search_mutable
decreases-search_mutable l = 4 * l.left + 2

abbrev pub decreases-try_direction : goal.decreases-try_direction
decreases-try_direction l = 4 * l.left + 4

abbrev pub decreases-turn : goal.decreases-turn
decreases-turn l = 4 * l.left + 1

abbrev pub invariant-search-loop-end : goal.invariant-search-loop-end
invariant-search-loop-end l = Resting l.fn.board l.fn.waiting l.task.machines.now l.fn.list l.task.limits l.left l.fn.stats l.node l.list

abbrev pub decreases-search-loop-end : goal.decreases-search-loop-end
decreases-search-loop-end l = rest_size l.node

abbrev pub invariant-search_mutable-loop-node : goal.invariant-search_mutable-loop-node
invariant-search_mutable-loop-node l = Passing l.fn.node l.task.machines.now l.fn.list l.task.limits l.left l.node l.list

abbrev pub decreases-search_mutable-loop-node : goal.decreases-search_mutable-loop-node
decreases-search_mutable-loop-node l = node_size l.node
