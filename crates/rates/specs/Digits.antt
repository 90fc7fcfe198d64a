-- A root worked out digit by digit, in whole numbers.
use Rattle.std.specs.Prelude.{◌≡◌, ℕ, ◌-◌, ◌*◌, ◌^◌, ◌<◌}
use Rattle.rules.specs.Floats.{whole_root}

-- root is the whole root of units · 2 ^ 54, and rest is what its square leaves
pub record Digits (units root rest : ℕ) : Type 0 where
  pub is_root : root ≡ whole_root 58 (units * 2 ^ 54)
  pub is_rest : rest ≡ units * 2 ^ 54 - root * root
  pub few : root < 2 ^ 58
