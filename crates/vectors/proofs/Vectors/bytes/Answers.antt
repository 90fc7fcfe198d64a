-- One number more is read, and put where there is room.
use Rattle.std.proofs.Common.{add-one, arith}
use Rattle.std.proofs.lemmas.Grind.{common_steps}
use Rattle.std.proofs.lemmas.List.{set_past}
use Rattle.vectors.proofs.Putting.{numbers_text, numbers_put}
use Rattle.vectors.proofs.Vectors.bytes.Goals as goal

pub loop-i-preserved : goal.loop-i-preserved
loop-i-preserved c =
    let text = numbers_text c.loop-i.i c.number-count.new.self in
    let bytes = numbers_put c.loop-i.i c.number-count.new.self c.args.out.now in
    rw add-one (grind (arith, common_steps, text, bytes, set_past))
