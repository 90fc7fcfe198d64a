-- The invariant: the leader of all numbers is the leader of those from c on and of the one found so far.
use Rattle.std.proofs.Common.{◌≡◌}
use Rattle.std.proofs.Math.Option.{none}
use Rattle.rules.specs.Lists.{from}
use Rattle.rules.specs.Options.{opt_of}
use Rattle.rules.specs.Queues.{Queue, leader}
use Rattle.queues.specs.Leading.{WaitsAs}
use Rattle.queues.proofs.Leading.{leader_from}
use Rattle.queues.proofs.ranks.leader.Given as goal

abbrev pub invariant-loop-c : goal.invariant-loop-c
invariant-loop-c g l = (q : Queue _) → WaitsAs (goal.F-post g l.rank) l.n q → leader_from g.R.Rank.higher q l.n l.c (opt_of l.best) ≡ leader g.R.Rank.higher q (from 0 l.n) none
