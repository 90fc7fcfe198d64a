-- In an array of zeros no cell waits.
use Rattle.queues.proofs.Entries.{empty_holds}
use Rattle.queues.proofs.Queue.empty.Goals as goal

pub returns : goal.returns
returns c = empty_holds c.args.n _
