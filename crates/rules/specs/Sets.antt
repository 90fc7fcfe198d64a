-- Sets of small numbers as numbers: c is in s when bit c of s is 1. A cell is such a set of colours, one byte: bit 0 is blank, bit c is colour c.
-- Nothing here asks how many colours a puzzle has. A byte has room for blank and seven.
use Rattle.std.specs.Prelude.{◌≡◌, Bool, not, ◌&&◌, List, map, ℕ, suc, ◌/◌, ◌%◌, ◌^◌, length, eqb, leb, ltb}
use Rattle.rules.specs.Lists.{keep, any, sum, from}

-- a colour: 0 is blank
abbrev pub Colour : Type 0
Colour = ℕ

-- bit c of s: 0 or 1
unfoldable pub bit : ℕ → ℕ → ℕ
bit s c = s / 2 ^ c % 2

-- c is in the set s
abbrev pub ◌∋◌ : ℕ → ℕ → Type 0
s ∋ c = bit s c ≡ 1

infix 40 ◌∋◌
-- the same as a test
unfoldable pub has : ℕ → ℕ → Bool
has s c = eqb (bit s c) 1

-- the members below n, ascending
unfoldable pub members : ℕ → ℕ → List ℕ
members n s = keep (has s) (from 0 n)

-- the set of the numbers below n that pass a test: the sum of their powers of two
unfoldable pub set_of : ℕ → (ℕ → Bool) → ℕ
set_of n p = sum (map (λ c. 2 ^ c) (keep p (from 0 n)))

-- ## Sets of colours

-- the colours that a byte can hold
abbrev pub palette : List Colour
palette = from 0 8

-- the colours of a cell, ascending
abbrev pub colours : ℕ → List Colour
colours s = members 8 s

-- a cell is solved when one bit is set
unfoldable pub single : ℕ → Bool
single s = eqb (length (colours s)) 1

-- a cell with no colour left
unfoldable pub empty : ℕ → Bool
empty s = eqb (length (colours s)) 0

-- the set of one colour
abbrev pub only : Colour → ℕ
only c = 2 ^ c

-- a set without a colour
unfoldable pub without : ℕ → Colour → ℕ
without s c = set_of 8 (λ y. has s y && not (eqb y c))

-- the first set has a colour that the second has not
unfoldable pub lost : ℕ → ℕ → Bool
lost s t = any (λ c. has s c && not (has t c)) palette

-- a cell that may be given in a puzzle of k colours: some bit is set, and none above k
unfoldable pub proper : ℕ → ℕ → Bool
proper k s = leb 1 s && ltb s (2 ^ suc k)
