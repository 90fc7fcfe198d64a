use mathlib.Core.Path.{sym, ◌∙◌}
use Rattle.rules.proofs.Lists.{any_now, any_more, any_end, from_start}
use Rattle.runs.specs.Stored.{found}
use Rattle.runs.proofs.Grids.{same_grid}
use Rattle.runs.proofs.stored.already_found.Goals as goal

pub loop-g-init : goal.loop-g-init
unfolding found
loop-g-init c = rw from_start

pub returns-then-eq : goal.returns-then-eq
returns-then-eq c = sym (c.loop-g.invariant ∙ any_now _ _ _ c.loop-g-test.true (sym (same_grid _ _ c.loop-g.g _) ∙ sym c.eq.ensures ∙ c.if-eq.true))

pub loop-g-preserved : goal.loop-g-preserved
loop-g-preserved c = c.loop-g.invariant ∙ any_more _ _ _ c.loop-g-test.true (sym (same_grid _ _ c.loop-g.g _) ∙ sym c.eq.ensures ∙ c.if-eq.false)

pub returns : goal.returns
returns c = sym (c.loop-g.invariant ∙ any_end _ _ _ c.loop-g-test.false)
