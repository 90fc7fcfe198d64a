-- Which number goes first.
use Rattle.std.specs.Prelude.{◌≡◌, ℕ, ◌<◌, get_or, Option}
use Rattle.std.proofs.Math.Option.{none}
use Rattle.rules.specs.Options.{opt_of}
use Rattle.rules.specs.Queues.{Queue}

-- each number below n that is given a rank waits with it in q
abbrev pub WaitsAs : {A : Type 0} → (ℕ → Option A → Type 0) → ℕ → Queue A → Type 0
WaitsAs {A} gives n q = (c : ℕ) (r : Option A) → c < n → gives c r → get_or q c none ≡ opt_of r
