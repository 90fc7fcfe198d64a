use mathlib.Core.Path.{◌≡◌, sym, subst, ◌∙◌}
use Prim.Native.Nat.{◌+◌, ◌*◌}
use native.Mathlib.Omega.{arith}
use lib.ListN.{length, take}
use lib.Seq.{length-take-le}
use Rattle.std.proofs.Common.{rules}
use Rattle.std.proofs.lemmas.List.{length_push}
use Rattle.std.proofs.lemmas.Slice.Zip.{zip_turn, zip_end}
use Rattle.boards.specs.Board.{board_of}
use Rattle.boards.proofs.Sizes.{few_cells, board_length}
use Rattle.boards.proofs.Counting.{Counted, counted_turn, counted_end, new_at}
use Rattle.boards.proofs.board.newly_solved.Goals as goal

pub loop-a-preserved : goal.loop-a-preserved
loop-a-preserved c =
    let a = c.args in
    let l = c.loop-a in
    let t = zip_turn (board_of a.start) (take (a.start.w * a.start.h) a.end.cells) l.yielded c.into_iter-a-iterator.result _ c.next.new.self _ (cc) (cc) l.yielded_by _ c.in-Some.is c.next.ensures.steps in
    let n = board_length a.start c.requires.0 (search rules) in
    subst (Counted a.start a.end (a.start.w * a.start.h) (l.count + c.from-count.result)) (sym (length_push l.yielded _))
    (counted_turn a.start a.end _ l.count (length l.yielded) _ _ l.invariant (omega arith) c.from-count.ensures
    (c.is_new.ensures ∙ new_at a.start a.end _ _ _ c.requires.1 (t.2 0) (t.3 0)))

pub returns : goal.returns
returns c =
    let a = c.args in
    let l = c.loop-a in
    let t = zip_end (board_of a.start) (take (a.start.w * a.start.h) a.end.cells) l.yielded c.into_iter-a-iterator.result _ c.next.new.self _ (cc) (cc) l.yielded_by c.in-None.is c.next.ensures.steps in
    let n = board_length a.start c.requires.0 (search rules) in
    let m : length (take (a.start.w * a.start.h) a.end.cells) ≡ a.start.w * a.start.h = length-take-le _ a.end.cells (let e : length a.end.cells ≡ 256 = search rules in let f = few_cells a.start c.requires.0 in omega arith) in
    counted_end a.start a.end l.count (length l.yielded) l.invariant (omega arith) n
