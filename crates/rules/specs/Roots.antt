-- The root in a rate, by what it means: the f64 nearest the exact square root of the quotient. No root is taken here; squares of whole numbers are compared.
-- A finite f64 x is the fraction num x / den x, with or without a minus sign. `proofs/Roots.antt` shows that `root` of `Floats.antt` gives each quotient's nearest f64, and that no number has two.
use Rattle.std.specs.Prelude.{◌≡◌, ◌⊎◌, Bool, true, false, ℕ, ◌+◌, ◌-◌, ◌*◌, ◌<◌, T, ℤ, Float}
use Rattle.std.specs.Float.{nan, inf, fin, binary64}
use Rattle.std.specs.Float.Ieee.{add, fits, ne}
use Rattle.std.specs.Float.Ieee.Positive.{num, den}
use Rattle.rules.specs.Floats.{float, quotient}

-- a plain f64: finite, with no minus sign. `fits` says that the format holds the number, and that it is written in the one way.
pub data Plain : Float → Type 0 where
  plain : {m : ℕ} {e : ℤ} → T (fits binary64 (fin false m e)) → Plain (fin false m e)

-- s / d is less than twice the root of q: its square is less than 4·q, with the denominators multiplied out
abbrev pub BelowTwice : (q : Float) (s d : ℕ) → Type 0
BelowTwice q s d = s * s * den q < 4 * num q * (d * d)

-- s / d is more than twice the root of q
abbrev pub AboveTwice : (q : Float) (s d : ℕ) → Type 0
AboveTwice q s d = 4 * num q * (d * d) < s * s * den q

-- a / d is nearer to the root of q than c / d is, or than -c / d where `minus` is true: half way between the two, where their sum is halved, lies below the root if a / d is the larger, and above
-- it if it is the smaller. A sum below zero lies below the root, as no root is below zero.
abbrev pub Nearer : (q : Float) (d a : ℕ) (minus : Bool) (c : ℕ) → Type 0
Nearer q d a false c = ((c < a) × BelowTwice q (a + c) d) ⊎ ((a < c) × AboveTwice q (a + c) d)
Nearer q d a true c = (a < c) ⊎ BelowTwice q (a - c) d

-- x is farther from the root of q than r is, where r is plain. A NaN is no number, and an infinity is farther than every number.
abbrev pub Farther : (q r x : Float) → Type 0
Farther q r nan = Unit {0}
Farther q r (inf s) = Unit {0}
Farther q r (fin s m e) = let x = fin s m e in Nearer q (den r * den x) (num r * den x) s (num x * den r)

-- r is the f64 nearest the root of q: plain, and every f64 that does not equal it is farther
pub record Nearest (q r : Float) : Type 0 where
  pub rooted : Plain q
  pub number : Plain r
  pub others : (x : Float) → T (fits binary64 x) → T (ne x r) → Farther q r x

-- r is sqrt(max/(min+1)) + min: one rounded division, the square root rounded to nearest, one rounded addition
pub record IsRate (max min : ℕ) (r : Float) : Type 0 where
  pub root : Float
  pub nearest : Nearest (quotient max min) root
  pub sum : r ≡ add binary64 root (float min)
