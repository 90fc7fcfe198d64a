-- A colour waits with what the test gives of it, and the one found is popped.
use borrow.Author.Rules.{rules}
use native.Mathlib.Omega.{arith}
use Rattle.notes.proofs.Ordering.{solving, solving_at, none_left, found_low, colour_found}
use Rattle.notes.proofs.choosing.most_solving.Goals as goal

pub returns-in_err-x : goal.returns-in_err-x
returns-in_err-x c =
    let a = c.args in
    rw c.from_residual.ensures (none_left a.s a.counts.now (c.in_err-x.ensures (solving a.s a.counts.now) (λ k r h e. solving_at a.s a.counts.now k r h (search rules))))

pub overflow_cast-result : goal.overflow_cast-result
overflow_cast-result c =
    let a = c.args in
    omega (arith, found_low a.s a.counts.now _ _ (c.in_ok-x.ensures (solving a.s a.counts.now) (λ k r h e. solving_at a.s a.counts.now k r h (search rules))))

pub returns : goal.returns
returns c = let a = c.args in colour_found a.s a.counts.now _ _ (c.in_ok-x.ensures (solving a.s a.counts.now) (λ k r h e. solving_at a.s a.counts.now k r h (search rules)))
