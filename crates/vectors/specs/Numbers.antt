-- The numbers of a text: decimal digits, parted by any other bytes.
use Rattle.std.specs.Prelude.{ℕ, zero, suc, ◌+◌, ◌-◌, ◌*◌, ◌%◌, ◌^◌, ◌&&◌, nat_lt, cond, List, [], ◌∷◌, Option, None, Some}

-- what a byte counts as a digit
abbrev pub digit : ℕ → Option ℕ
digit b = cond (nat_lt 47 b && nat_lt b 58) (Some (b - 48)) None

-- A number of which n has been read, and the text after it. It ends with the first byte that is no digit, and goes round at 2 ^ 64.
abbrev pub number_from : ℕ → List ℕ → ℕ × List ℕ
number_from n [] = (n, [])
number_from n (b ∷ text) = elim (digit b) [ None ↦ (n, text) | Some d ↦ number_from ((n * 10 + d) % 2 ^ 64) text ]

-- The next number of a text, and the text after it. It begins with the first digit; at the end there is 0.
abbrev pub number : List ℕ → ℕ × List ℕ
number [] = (0, [])
number (b ∷ text) = elim (digit b) [ None ↦ number text | Some d ↦ number_from d text ]

-- the next n numbers of a text, and the text after them
abbrev pub numbers : ℕ → List ℕ → List ℕ × List ℕ
numbers zero text = ([], text)
numbers (suc n) text = ((number text).0 ∷ (numbers n (number text).1).0, (numbers n (number text).1).1)

-- a list of bytes over whose first places numbers are put, each as a byte, as far as there is room
abbrev pub put : List ℕ → List ℕ → List ℕ
put [] bytes = bytes
put (n ∷ ns) [] = []
put (n ∷ ns) (b ∷ bytes) = (n % 256) ∷ put ns bytes
