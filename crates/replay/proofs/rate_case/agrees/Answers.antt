-- A rate that is answered is plain, so that it is no NaN and has bits.
use Rattle.rules.proofs.Plain.{not_nan}
use Rattle.rates.proofs.Answers.{answered_plain}
use Rattle.replay.proofs.rate_case.agrees.Goals as goal

pub float_to_bits-result : goal.float_to_bits-result
float_to_bits-result c = rw c.numbered-found.ensures.rate (not_nan (answered_plain c.rate.ensures))
