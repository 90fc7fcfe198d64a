-- The first block's cells, the blanks that must stand after it, and what the rest needs.
use Rattle.std.proofs.Common.{ℕ, ap, length, arith}
use lib.ListN.{length-replicate}
use Rattle.lines.proofs.Building.{need_some}
use Rattle.lines.proofs.machine.+need.Goals as goal

pub returns-in-len2-up-clause-fewest : goal.returns-in-len2-up-clause-fewest
returns-in-len2-up-clause-fewest t c = let b = c.blanks_between in omega (arith, need_some c.args.pairs.now c.in-len2-up.len_at_least, ap length b.ensures, length-replicate {A = ℕ} b.result 0)
