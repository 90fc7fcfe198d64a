-- What the code has of the line is ready for its machine, and each exit is a law of that.
use mathlib.Core.Path.{sym}
use native.Mathlib.Omega.{arith}
use lib.Seq.{length-take-le}
use Rattle.std.proofs.Common.{rules}
use Rattle.boards.proofs.Reducing.{Ready, line_reaches, ready_fails, ready_narrows}
use Rattle.boards.proofs.board.Board.reduce_on.Goals as goal
use Rattle.boards.proofs.board.Board.reduce_on.Goals.{After-gather-old, After-reduce_by}

pub gather-old-requires : goal.gather-old-requires
gather-old-requires c = line_reaches c.requires (search rules) c.line_of-line.ensures

pub slice_bounds-sets-end : goal.slice_bounds-sets-end
slice_bounds-sets-end c = let few = (line_reaches c.requires (search rules) c.line_of-line.ensures).few in omega arith

pub slice_bounds-reduce_by-end : goal.slice_bounds-reduce_by-end
slice_bounds-reduce_by-end c =
    let few = (line_reaches c.requires (search rules) c.line_of-line.ensures).few in
    sym (length-take-le c.line_of-line.result.len c.gather-old.result (omega arith))

pub scatter-requires : goal.scatter-requires
scatter-requires c = line_reaches c.requires (search rules) c.line_of-line.ensures

pub differing-requires : goal.differing-requires
differing-requires c = (line_reaches c.requires (search rules) c.line_of-line.ensures).few

ready : (c : After-gather-old) → Ready c.args.self.now c.args.machines.now c.args.i c.line_of-line.result c.gather-old.result
ready c = record {
  sized = c.requires.0;
  on = c.requires.1;
  all = c.told-machines;
  line = c.line_of-line.ensures;
  gathered = c.gather-old.ensures;
  bytes = λ j. search rules;
}

pub returns-then-not-reduce_by : goal.returns-then-not-reduce_by
returns-then-not-reduce_by c = ready_fails (ready (goal.at.returns-then-not-reduce_by c).After-gather-old) _ c.if-not-reduce_by.ensures.0

pub returns : goal.returns
returns c =
    ready_narrows (ready (goal.at.returns c).After-gather-old) _ c.reduce_by.new.line c.if-not-reduce_by.ensures c.scatter.auto.cells c.scatter.ensures c.differing.ensures
