-- By whether the probing comes to a contradiction, and whether its board is kept.
use Rattle.backtracking.proofs.Guessing.{probes_dead, probes_failed, probes_on}
use Rattle.backtracking.proofs.guess.probe_guess.Goals as goal

pub returns-in_default : goal.returns-in_default
returns-in_default c = probes_dead _ _ _ _ _ _ _ _ c.requires.0.few c.stepped-stats.ensures c.run-probed.ensures c.in_default.is

pub returns-in_default-keep : goal.returns-in_default-keep
returns-in_default-keep c = probes_failed _ _ _ _ _ _ _ _ c.requires.0.few c.stepped-stats.ensures c.run-probed.ensures c.in-Some.is c.in_default-keep.ensures

pub returns : goal.returns
returns c = probes_on _ _ _ _ _ _ _ _ c.requires.0.few c.stepped-stats.ensures c.run-probed.ensures c.in-Some.is c.in-Some-keep.ensures
