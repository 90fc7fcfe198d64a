-- Facts of bytes and of colours below eight, each by a test that is computed over all of them.
use mathlib.Core.Path.{◌≡◌, refl, ap}
use mathlib.Core.Bool.{Bool, true}
use Prim.Native.Nat.{ℕ, ◌-◌, ◌*◌, ◌%◌, ◌^◌, ◌<◌}
use native.Mathlib.Omega.{arith}
use lib.Bits.{bit_and, bit_or}
use lib.Count.{ones_in, ones}
use lib.Dec.{eqb}
use lib.ListN.{length}
use lib.Pow.{pow-lt}
use borrow.Author.Tests.{eqb-true}
use Rattle.rules.specs.Lists.{every, from}
use Rattle.rules.specs.Sets.{bit, has, members, set_of, colours, single, only, without}
use Rattle.rules.proofs.Lists.{every_out, below}
use Rattle.cells.specs.Sets.{including}

-- a test that every byte passes
byte : (p : ℕ → Bool) → every p (from 0 256) ≡ true → (s : ℕ) → s < 256 → p s ≡ true
byte p e s h = every_out p (from 0 256) e (below 256 s h)

-- a test that every byte passes with every colour
byte_colour : (p : ℕ → ℕ → Bool) → every (λ s. every (p s) (from 0 8)) (from 0 256) ≡ true → (s x : ℕ) → s < 256 → x < 8 → p s x ≡ true
byte_colour p e s x h k = every_out (p s) (from 0 8) (byte (λ s. every (p s) (from 0 8)) e s h) (below 8 x k)

-- the bits that are counted are the colours
ones_colours : (s : ℕ) → s < 256 → ones s ≡ length (colours s)
unfolding ones ones_in members has bit
ones_colours s h = eqb-true (ones s) (length (colours s)) (byte (λ s. eqb (ones s) (length (colours s))) refl s h)

pub ones_single : (s : ℕ) → s < 256 → eqb (ones s) 1 ≡ single s
unfolding single
ones_single s h = ap (λ n. eqb n 1) (ones_colours s h)

pub shifted_only : (x : ℕ) → x < 8 → 1 * 2 ^ x % 256 ≡ only x
shifted_only x h = omega (arith, pow-lt h)

pub and_without : (s x : ℕ) → s < 256 → x < 8 → bit_and s (255 - only x) ≡ without s x
unfolding without set_of has bit
and_without s x h k = eqb-true (bit_and s (255 - only x)) (without s x) (byte_colour (λ s x. eqb (bit_and s (255 - only x)) (without s x)) refl s x h k)

pub or_including : (s x : ℕ) → s < 256 → x < 8 → bit_or s (only x) ≡ including s x
unfolding including set_of has bit
or_including s x h k = eqb-true (bit_or s (only x)) (including s x) (byte_colour (λ s x. eqb (bit_or s (only x)) (including s x)) refl s x h k)
