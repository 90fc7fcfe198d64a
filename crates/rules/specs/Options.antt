-- What a function has found or not, as the rules have it.
use Rattle.std.specs.Prelude.{Option, None, Some}
use Rattle.std.proofs.Math.Option as Math

abbrev pub opt_of : {A : Type 0} → Option A → Math.Option A
opt_of None = Math.none
opt_of (Some a) = Math.some a
