-- Of the four sides all are passed, and the array has the board's sets.
use Rattle.std.proofs.Common.{◌≡◌, length, ap, sym, ◌∙◌, arith, rules}
use Rattle.probing.proofs.Sides.{unsolved_of, found_all, around_cells}
use Rattle.probing.proofs.neighbours.around.Goals as goal

pub returns : goal.returns
returns c z o =
    let b = c.args.b.now in
    let l : length c.beside-n-items.result ≡ 4 = search rules in
    found_all b.cells c.beside-n-items.result c.loop-n.found.items c.loop-n.n-index c.loop-n.invariant.0 (omega arith) ∙ ap (unsolved_of b.cells) (c.beside-n-items.ensures z o) ∙ sym (around_cells b c.args.c.0 z o c.requires.0 c.requires.1)
