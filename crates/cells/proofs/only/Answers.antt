-- One bit shifted by less than eight places is a power of two below 256.
use Rattle.cells.proofs.Bytes.{shifted_only}
use Rattle.cells.proofs.only.Goals as goal

pub returns : goal.returns
returns c = shifted_only c.args.x.0 c.requires
