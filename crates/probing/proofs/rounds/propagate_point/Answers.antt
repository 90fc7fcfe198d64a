-- Propagating and pushing go as the rules do.
use Rattle.probing.proofs.Frames.{size_of, of_size, table_size}
use Rattle.probing.proofs.Cutting.{point_fails, point_pushes}
use Rattle.probing.proofs.rounds.propagate_point.Goals as goal

pub returns-in_err-end : goal.returns-in_err-end
returns-in_err-end c =
    let a = c.args in
    rw c.from_residual.ensures (record { size = tt; room = tt; to = λ z t. point_fails a.board a.c.0 a.queue z (c.in_err-end.ensures.to z t) })

pub returns : goal.returns
returns c =
    let a = c.args in
    let end = c.in_ok-end.end in
    let u = c.push_both.ensures (size_of end) (of_size end) in
    record {
      size = c.in_ok-end.ensures.size;
      room = u.size;
      to = λ z t. point_pushes a.board a.c.0 a.queue z end c.push_both.result (c.in_ok-end.ensures.to z t) (c.push_both.ensures z (table_size c.in_ok-end.ensures.size t));
    }
