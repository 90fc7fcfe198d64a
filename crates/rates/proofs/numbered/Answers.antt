-- A refusal comes with 0.0.
use borrow.Author.Rules.{rules}
use lib.Ieee.{of_int, of_bits}
use Rattle.rates.proofs.numbered.Goals as goal

pub returns-in-Err : goal.returns-in-Err
unfolding of_int of_bits
returns-in-Err c = search rules
