-- A refusal gives its number with the cells as they were. The cells of a line that is not refused are reduced by its clue's machine, which does what the rules say (`machine_reduces`).
use Rattle.std.proofs.lemmas.Result.{err_from_is_err_and}
use Rattle.lines.specs.declared.single.Reduction.TheVariants.{Reduced, Contradiction}
use Rattle.lines.proofs.Answering.{few_cells, some_bytes, pairs_accepted, came, promised}
use Rattle.lines.proofs.single.reduce_line.Goals as goal

pub returns-in_err-accept-clause-promised : goal.returns-in_err-accept-clause-promised
returns-in_err-accept-clause-promised c =
    let p = err_from_is_err_and c.from_residual.result c.from_residual.ensures.1 in
    rw (p.1, p.2) (promised _ _ _ c.in_err-accept.ensures)

pub slice_bounds-machine_of-start : goal.slice_bounds-machine_of-start
slice_bounds-machine_of-start c = some_bytes _ _ _ c.in_ok-accept.ensures

pub slice_bounds-machine_of-count : goal.slice_bounds-machine_of-count
slice_bounds-machine_of-count c = some_bytes _ _ _ c.in_ok-accept.ensures

pub machine_of-requires : goal.machine_of-requires
machine_of-requires c = pairs_accepted _ _ _ c.in_ok-accept.ensures

pub reduce_by-requires : goal.reduce_by-requires
reduce_by-requires c = few_cells _ _ _ c.in_ok-accept.ensures

pub returns-then-reduce_by : goal.returns-then-reduce_by
returns-then-reduce_by c =
    let e = came _ _ _ c.in_ok-accept.ensures _ Reduced _ c.machine_of.ensures c.if-reduce_by.ensures in
    record { answered = e; promised = promised _ _ _ e }

pub returns-else-reduce_by : goal.returns-else-reduce_by
returns-else-reduce_by c =
    let e = came _ _ _ c.in_ok-accept.ensures _ Contradiction _ c.machine_of.ensures c.if-reduce_by.ensures in
    record { answered = e; promised = promised _ _ _ e }
