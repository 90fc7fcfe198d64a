-- The number and the rate are those that `numbered` gives of the answer.
use Rattle.belutharin_c.proofs.belutharin_rate.Goals as goal

pub returns : goal.returns
returns c = rw (c.numbered-number.ensures.number, c.numbered-number.ensures.rate) c.rate.ensures
