-- A clue as a machine, by which a line is reduced fast. A state is a place in the clue: how many of its cells, the blanks that must stand between blocks among them, are laid.
-- From state j colour c goes on to state j + 1 if j is in the mask of c, and a blank may stay at j if j is in `gap`. A line is accepted if it leads from state 0 to a state of `last`.
-- A mask is a set of states as a number, as a cell is a set of colours. That a clue's machine reduces a line as the rules say: `proofs/Reducing.antt`.
use Rattle.std.specs.Prelude.{◌≡◌, Bool, true, false, List, [], ◌∷◌, map, ℕ, zero, suc, ◌+◌, ◌*◌, ◌/◌, ◌%◌, ◌^◌, ◌<◌, eqb, leb, length, get_or, set, drop, replicate}
use Rattle.std.proofs.Math.Option.{Option, none, some}
use Rattle.std.specs.Int.Bits.{bit_and, bit_or}
use Rattle.rules.specs.Sets.{Colour}
use Rattle.rules.specs.Clues.{Block, Clue, regular}
use Rattle.rules.specs.Lines.{cells_of, between}
use Rattle.lines.specs.declared.machine.Machine.{Machine}

-- ## Reducing by a machine

-- p if the digit is 1, and 0 if it is 0
abbrev pub pick : ℕ → ℕ → ℕ
pick zero p = 0
pick (suc d) p = p

-- 0 for 0, and 1 for any other number
abbrev pub sign : ℕ → ℕ
sign zero = 0
sign (suc n) = 1

-- the states that a colour of the set s goes on from, by the masks of the colours
unfoldable pub goes : List ℕ → ℕ → ℕ
goes [] s = 0
goes (p ∷ masks) s = bit_or (pick (s % 2) p) (goes masks (s / 2))

-- the states in which a blank of the set s may stay
abbrev pub stays : Machine → ℕ → ℕ
stays m s = pick (s % 2) m.gap

-- the states from which a cell with the set s leads to those of `to`
unfoldable pub before : Machine → ℕ → ℕ → ℕ
before m s to = bit_or (bit_and (stays m s) to) (bit_and (goes m.by s) (to / 2))

-- the states to which it leads from those of `from`
unfoldable pub after : Machine → ℕ → ℕ → ℕ
after m s from = bit_or (bit_and (stays m s) from) (bit_and (goes m.by s) from * 2)

-- the set of the colours that go on from one of these states
unfoldable pub able : List ℕ → ℕ → ℕ
able [] states = 0
able (p ∷ masks) states = sign (bit_and p states) + 2 * able masks states

-- those of the set s
unfoldable pub moves : List ℕ → ℕ → ℕ → ℕ
moves masks s states = bit_and (able masks states) s

-- the set of the colours of s that lead from a state of `from` to one of `to`, a blank that stays among them
unfoldable pub keeps : Machine → ℕ → ℕ → ℕ → ℕ
keeps m s from to = bit_or (moves m.by s (bit_and from (to / 2))) (sign (bit_and (bit_and (stays m s) from) to))

-- the states from which the sets lead to the end
unfoldable pub ends : Machine → List ℕ → ℕ
ends m [] = m.last
ends m (s ∷ sets) = before m s (ends m sets)

-- what the cells keep, where their line comes from one of these states
unfoldable pub kept : Machine → ℕ → List ℕ → List ℕ
kept m from [] = []
kept m from (s ∷ sets) = keeps m s from (ends m sets) ∷ kept m (after m s from) sets

-- the reduced line; or none, where the sets lead from state 0 to no end
unfoldable pub reduce_by : Machine → List ℕ → Option (List ℕ)
reduce_by m sets = elim (eqb (ends m sets % 2) 1) [ true ↦ some (kept m 1 sets) | false ↦ none ]

-- what became of a line: true, and it is the reduced line; or false, a contradiction, and it is as it was
abbrev pub Became : Option (List ℕ) → List ℕ → Bool → List ℕ → Type 0
Became reduced sets true out = reduced ≡ some out
Became reduced sets false out = (reduced ≡ none) × (out ≡ sets)

-- ## The machine of a clue

-- each mask one state up
abbrev pub raised : List ℕ → List ℕ
raised masks = map (λ p. p * 2) masks

-- the machine that wants the colour c first: its state j + 1 is m's state j
unfoldable pub pushed : Colour → Machine → Machine
pushed c m = record { by = set (raised m.by) c (get_or m.by c 0 * 2 + 1); gap = m.gap * 2; last = m.last * 2 }

unfoldable pub pushed_all : List Colour → Machine → Machine
pushed_all [] m = m
pushed_all (c ∷ cs) m = pushed c (pushed_all cs m)

-- the machine that lets blanks come first
unfoldable pub opened : Machine → Machine
opened m = record { by = m.by; gap = bit_or m.gap 1; last = m.last }

-- a clue's blocks, each with what must stand after it, and before each and at the end as many blanks as there may be
unfoldable pub machine : Clue → Machine
machine [] = record { by = replicate 8 0; gap = 1; last = 1 }
machine (b ∷ clue) = opened (pushed_all (cells_of b) (pushed_all (between b clue) (machine clue)))

-- the machine that accepts no line
abbrev pub closed : Machine
closed = record { by = replicate 8 0; gap = 0; last = 0 }

-- the fewest cells that a clue needs
unfoldable pub need : Clue → ℕ
need [] = 0
need (b ∷ clue) = b.cells + (length (between b clue) + need clue)

-- a clue too long for any line admits nothing
unfoldable pub machine_of : Clue → Machine
machine_of clue = elim (leb (need clue) 16) [ true ↦ machine clue | false ↦ closed ]

-- every colour of the clue has a mask
abbrev pub Coloured : Clue → Type 0
Coloured [] = Unit {0}
Coloured (b ∷ clue) = (b.colour < 8) × Coloured clue

-- the masks have no state from n on; a blank may stay at state n, and a line may end there
pub record Room (n : ℕ) (m : Machine) : Type 0 where
  pub masks : (c : ℕ) → get_or m.by c 0 < 2 ^ n
  pub gaps : m.gap < 2 ^ suc n
  pub lasts : m.last < 2 ^ suc n

-- ## A clue's pairs

-- the clue that pairs of colour and length mean
unfoldable pub clue_in : List ℕ → Clue
clue_in [] = []
clue_in (c ∷ []) = []
clue_in (c ∷ n ∷ bytes) = record { colour = c; cells = n } ∷ clue_in bytes

-- its first block
abbrev pub first_in : List ℕ → Block
first_in bytes = record { colour = get_or bytes 0 0; cells = get_or bytes 1 0 }

-- the blocks after it
abbrev pub rest_in : List ℕ → Clue
rest_in bytes = clue_in (drop 2 bytes)

-- pairs of a clue that the layout allows, with as many colours as a byte has room for
abbrev pub Legal : List ℕ → Type 0
Legal bytes = regular 7 (clue_in bytes) ≡ true
