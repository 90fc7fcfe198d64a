-- From block j on what must stand before the rest is pushed, then the block.
use Rattle.std.proofs.Common.{ap, ap₂, sym, ◌∙◌, ◌-◌, ◌*◌, ◌/◌, length, drop, length-drop, replicate, arith}
use Rattle.lines.specs.Machines.{machine, pushed_all}
use Rattle.lines.proofs.Building.{clue_none, blanks_room, block_room, block_done, tail, tail_some, tail_whole, tail_down, tail_fits}
use Rattle.lines.proofs.machine.build.Goals as goal

pub loop-j-init : goal.loop-j-init
loop-j-init c =
    let p = c.args.pairs.now in
    (omega arith, c.empty-m.ensures ∙ ap machine (sym (clue_none (drop (2 * (length p / 2)) p) (omega (arith, length-drop (2 * (length p / 2)) p)))))

pub push_all-m-requires : goal.push_all-m-requires
push_all-m-requires c =
    let p = c.args.pairs.now in
    let l = c.loop-j in
    let b = c.blanks_between in
    let fits = tail_fits p c.requires (l.j - 1) (omega arith) in
    let r = blanks_room (tail p (l.j - 1)) (tail_some p (l.j - 1) (omega arith)) b.result b.ensures l.m (l.invariant.1 ∙ ap machine (tail_down p l.j (omega arith))) fits.0 fits.1 in
    (omega arith, r.0, r.1)

pub push_all-m-requires-in-loop-j : goal.push_all-m-requires-in-loop-j
push_all-m-requires-in-loop-j c =
    let p = c.args.pairs.now in
    let l = c.loop-j in
    let b = c.blanks_between in
    let fits = tail_fits p c.requires (l.j - 1) (omega arith) in
    rw (c.from.ensures, c.from-in-loop-j.ensures)
    (block_room (tail p (l.j - 1)) (tail_some p (l.j - 1) (omega arith)) b.result b.ensures l.m (l.invariant.1 ∙ ap machine (tail_down p l.j (omega arith))) fits.0 fits.1 c.push_all-m.result c.push_all-m.ensures)

pub loop-j-preserved : goal.loop-j-preserved
loop-j-preserved c =
    let p = c.args.pairs.now in
    let l = c.loop-j in
    let b = c.blanks_between in
    let q = c.push_all-m in
    let fits = tail_fits p c.requires (l.j - 1) (omega arith) in
    let s = ap₂ (λ n colour. pushed_all (replicate n colour) q.result) c.from-in-loop-j.ensures c.from.ensures in
    (omega arith, block_done (tail p (l.j - 1)) (tail_some p (l.j - 1) (omega arith)) b.result b.ensures l.m (l.invariant.1 ∙ ap machine (tail_down p l.j (omega arith))) fits.0 fits.1 q.result q.ensures _ (c.push_all-m-in-loop-j.ensures ∙ s) ∙ ap machine (tail_whole p (l.j - 1)))
