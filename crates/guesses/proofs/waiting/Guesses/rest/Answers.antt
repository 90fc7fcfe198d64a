-- The place after the next guess is where the others begin.
use Rattle.guesses.proofs.Arrays.{rest}
use Rattle.guesses.proofs.waiting.Guesses.rest.Goals as goal

pub returns : goal.returns
returns c = rest c.args.self c.requires
