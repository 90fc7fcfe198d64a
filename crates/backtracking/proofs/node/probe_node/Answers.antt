-- By whether the probing comes to a contradiction, and whether it solves the board.
use mathlib.Core.Path.{sym, ◌∙◌}
use Rattle.backtracking.proofs.Owning.{own_dead, own_stored, own_on}
use Rattle.backtracking.proofs.node.probe_node.Goals as goal

pub returns-in_default : goal.returns-in_default
returns-in_default c = own_dead _ _ _ _ _ _ _ c.requires.0.few c.stepped-stats.ensures c.run_unsolved-probed.ensures c.in_default.is

pub returns-then-not-is_solved_full : goal.returns-then-not-is_solved_full
returns-then-not-is_solved_full c =
    own_on _ _ _ _ _ _ _ c.requires.0.few c.stepped-stats.ensures c.run_unsolved-probed.ensures c.in-Some.is (sym c.is_solved_full.ensures ∙ c.if-not-is_solved_full.true)

pub returns : goal.returns
returns c =
    own_stored _ _ _ _ _ _ _ c.requires.0.few c.stepped-stats.ensures c.run_unsolved-probed.ensures c.in-Some.is c.check_and_store-kept.result _ _ _ c.is_none.ensures c.unwrap_or.ensures
    (sym c.is_solved_full.ensures ∙ c.if-not-is_solved_full.false) c.check_and_store-kept.ensures
