-- What the code has of the line is ready for its machine, which finds a line exactly if one is arranged.
use mathlib.Core.Path.{sym}
use native.Mathlib.Omega.{arith}
use lib.Seq.{length-take-le}
use Rattle.std.proofs.Common.{rules}
use Rattle.boards.proofs.Reducing.{Ready, line_reaches, ready_fits}
use Rattle.boards.proofs.board.Board.line_fits.Goals as goal
use Rattle.boards.proofs.board.Board.line_fits.Goals.{After-gather-sets}

pub gather-sets-requires : goal.gather-sets-requires
gather-sets-requires c = line_reaches c.requires (search rules) c.line_of-line.ensures

pub slice_bounds-sets-end : goal.slice_bounds-sets-end
slice_bounds-sets-end c = let few = (line_reaches c.requires (search rules) c.line_of-line.ensures).few in omega arith

pub slice_bounds-reduce_by-end : goal.slice_bounds-reduce_by-end
slice_bounds-reduce_by-end c =
    let few = (line_reaches c.requires (search rules) c.line_of-line.ensures).few in
    sym (length-take-le c.line_of-line.result.len c.gather-sets.result (omega arith))

ready : (c : After-gather-sets) → Ready c.args.self.now c.args.machines.now c.args.i c.line_of-line.result c.gather-sets.result
ready c = record {
  sized = c.requires.0;
  on = c.requires.1;
  all = c.told-machines;
  line = c.line_of-line.ensures;
  gathered = c.gather-sets.ensures;
  bytes = λ j. search rules;
}

pub returns : goal.returns
returns c = ready_fits (ready (goal.at.returns c).After-gather-sets) _ c.reduce_by.result c.reduce_by.new.line c.reduce_by.ensures
