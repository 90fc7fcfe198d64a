-- Lines, what it is to meet a clue, and reducing. A line is a list of colours, or of the sets that its cells' colours are taken from.
-- First the meaning, as relations, then what is seen in a finished line, then `fits` and `reduce`, which compute. That all three say the same is proved in `proofs/Stretches.antt` and `proofs/Lines.antt`.
use Rattle.std.specs.Prelude.{◌≡◌, Bool, true, false, ◌&&◌, List, [], ◌∷◌, ◌++◌, map, ◌↔◌, ℕ, suc, ◌<◌, eqb, ltb, length, get_or, set, replicate}
use Rattle.std.proofs.Math.Option.{Option, none, some}
use Rattle.rules.specs.Lists.{keep, from}
use Rattle.rules.specs.Sets.{Colour, ◌∋◌, has, set_of, only}
use Rattle.rules.specs.Clues.{Block, Clue, regular}

-- the cells of a block
abbrev pub cells_of : Block → List Colour
cells_of b = replicate b.cells b.colour

-- THE ONE PLACE where a blank is asked between two blocks: what must stand between a block and the rest of the clue.
-- It is a blank where the next block has the same colour, and nothing where that has another colour or there is none.
abbrev pub between : Block → Clue → List Colour
between b [] = []
between b (next ∷ clue) = elim (eqb b.colour next.colour) [ true ↦ 0 ∷ [] | false ↦ [] ]

-- ## The meaning

-- A line meets a clue when it is the clue's blocks in order, each of its colour and length, all else blank, with what must stand between them.
-- It is built from its end: the empty line meets the empty clue; a blank may come before a line that meets its clue, and so may a block, with what must stand between.
pub data Meets : Clue → List Colour → Type 0 where
  nothing : Meets [] []
  blank : {clue : Clue} {line : List Colour} → Meets clue line → Meets clue (0 ∷ line)
  block : {b : Block} {clue : Clue} {line : List Colour} → Meets clue line → Meets (b ∷ clue) (cells_of b ++ (between b clue ++ line))

-- ## What is seen in a finished line

-- a cell more in front of a line's stretches: it makes the first of them longer where that has its colour, and otherwise is a stretch of its own
abbrev pub in_front : Colour → List Block → List Block
in_front c [] = record { colour = c; cells = 1 } ∷ []
in_front c (s ∷ more) = elim (eqb c s.colour) [ true ↦ record { colour = c; cells = suc s.cells } ∷ more | false ↦ record { colour = c; cells = 1 } ∷ s ∷ more ]

-- the stretches of equal colours that a line falls into, in order, each as long as it can be; blank ones are among them
unfoldable pub stretches : List Colour → List Block
stretches [] = []
stretches (c ∷ line) = in_front c (stretches line)

-- a stretch of a colour other than blank
abbrev pub not_blank : Block → Bool
not_blank s = ltb 0 s.colour

-- the blocks that are seen in a line: its stretches, without the blank ones
abbrev pub blocks_of : List Colour → Clue
blocks_of line = keep not_blank (stretches line)

-- A line shows a clue when its stretches, without the blank ones, are the clue's blocks in order. So would a puzzle editor say that the line meets the clue.
abbrev pub Shows : Clue → List Colour → Type 0
Shows clue line = blocks_of line ≡ clue

-- `Meets` and `Shows` agree: of the clues that the layout allows with k colours, a line meets exactly those that it shows. `meets_exactly` of `proofs/Stretches.antt` proves it for every k.
abbrev pub MeetsExactly : ℕ → Type 0
MeetsExactly k = (clue : Clue) (line : List Colour) → regular k clue ≡ true → Meets clue line ↔ Shows clue line

-- ## Lines taken from sets

-- the line takes each cell's colour from its set
pub data From : List ℕ → List Colour → Type 0 where
  end : From [] []
  cell : {s : ℕ} {c : Colour} {sets : List ℕ} {line : List Colour} → s ∋ c → From sets line → From (s ∷ sets) (c ∷ line)

-- some line that meets the clue and takes each cell's colour from its set
pub record Arranged (clue : Clue) (sets : List ℕ) : Type 0 where
  pub line : List Colour
  pub meets : Meets clue line
  pub taken : From sets line

-- one of these has colour c at cell i
pub record Possible (clue : Clue) (sets : List ℕ) (i : ℕ) (c : Colour) : Type 0 where
  pub line : List Colour
  pub meets : Meets clue line
  pub taken : From sets line
  pub there : get_or line i 0 ≡ c

-- reducing keeps in each cell exactly the colours that are possible there
pub record Reduced (clue : Clue) (sets out : List ℕ) : Type 0 where
  pub same : length out ≡ length sets
  pub exact : (i : ℕ) (c : Colour) → i < length sets → (get_or out i 0 ∋ c) ↔ Possible clue sets i c

-- what reducing a line comes to: the reduced line; or none, a contradiction, where no line is arranged
abbrev pub Reduces : Clue → List ℕ → Option (List ℕ) → Type 0
Reduces clue sets none = Arranged clue sets → ⊥
Reduces clue sets (some out) = Arranged clue sets × Reduced clue sets out

-- ## The meaning, computed

-- the sets have these colours, one after the other, and those left pass
abbrev pub begins : List Colour → (List ℕ → Bool) → List ℕ → Bool
begins [] rest sets = rest sets
begins (c ∷ cs) rest [] = false
begins (c ∷ cs) rest (s ∷ sets) = elim (has s c) [ true ↦ begins cs rest sets | false ↦ false ]

-- after some blanks, or none, the sets pass
abbrev pub later : (List ℕ → Bool) → List ℕ → Bool
later rest [] = rest []
later rest (s ∷ sets) = elim (rest (s ∷ sets)) [ true ↦ true | false ↦ elim (has s 0) [ true ↦ later rest sets | false ↦ false ] ]

abbrev pub is_end : List ℕ → Bool
is_end [] = true
is_end (s ∷ sets) = false

-- some line is arranged
unfoldable pub fits : Clue → List ℕ → Bool
fits [] sets = later is_end sets
fits (b ∷ clue) sets = later (begins (cells_of b ++ between b clue) (fits clue)) sets

-- the colours that cell i keeps: those of its set with which alone there some line is still arranged
abbrev pub kept_at : Clue → List ℕ → ℕ → ℕ
kept_at clue sets i = set_of 8 (λ c. has (get_or sets i 0) c && fits clue (set sets i (only c)))

-- the reduced line, or a contradiction
unfoldable pub reduce : Clue → List ℕ → Option (List ℕ)
reduce clue sets = elim (fits clue sets) [ true ↦ some (map (kept_at clue sets) (from 0 (length sets))) | false ↦ none ]
