-- The queue and probing, worked.
use Rattle.std.specs.Prelude.{◌≡◌, refl, [], ◌∷◌, ℕ, Float}
use Rattle.std.proofs.Math.Option.{none, some}
use Rattle.rules.specs.Clues.{Clue}
use Rattle.rules.specs.Boards.{Board, Puzzle}
use Rattle.rules.specs.Queues.{Queue, push, pop}
use Rattle.rules.specs.Floats.{float, higher}
use Rattle.rules.specs.Probing.{Notes, Probed, contradiction, probed, start_queue, probe, steps}
use Rattle.rules.specs.Search.{fresh}
use Rattle.rules.specs.Examples.Computed.{computed}

-- ## The queue

abbrev queue : Queue Float
queue = some (float 2) ∷ some (float 3) ∷ none ∷ some (float 3) ∷ []

-- a tie between cells 1 and 3: the lower goes first
tie : pop higher queue ≡ some (1, some (float 2) ∷ none ∷ none ∷ some (float 3) ∷ [])
unfolding computed
tie = refl

-- a push replaces, upwards and downwards
replaced : pop higher (push 0 (float 10) queue) ≡ some (0, none ∷ some (float 3) ∷ none ∷ some (float 3) ∷ [])
unfolding computed
replaced = refl

lowered : pop higher (push 1 (float 1) queue) ≡ some (3, some (float 2) ∷ some (float 1) ∷ none ∷ none ∷ [])
unfolding computed
lowered = refl

-- nothing waits
none_waits : pop {A = Float} higher (none ∷ none ∷ []) ≡ none
unfolding computed
none_waits = refl

-- ## A cut round, whose notes are dropped
-- 3 wide, 2 high: a block of 1 in each row and in the first two columns, none in the third. The corners go first, by 2.0 each. Cell 0 is noted; then colour 1 contradicts in
-- cell 2, whose column has no block. It is removed, cell 5 is newly solved, and cell 0's note is dropped. The new round goes on with cell 1 by 20.0, cell 4 by 10.0, then
-- cells 3 and 5, which still wait with 2.0; cell 0 waits no more.

abbrev one : Clue
one = record { colour = 1; cells = 1 } ∷ []

abbrev puzzle : Puzzle
puzzle = record { width = 3; height = 2; clues = one ∷ one ∷ one ∷ one ∷ [] ∷ [] }

abbrev opened : Board
opened = 3 ∷ 3 ∷ 3 ∷ 3 ∷ 3 ∷ 3 ∷ []

-- the board, the notes and the number of steps
data Shown : Type 0 where
  shown : Board → Notes → ℕ → Shown
  nothing : Shown

abbrev show : Probed → Shown
show (contradiction s) = nothing
show (probed b ns s) = shown b ns (steps s)

cut_round : show (probe puzzle opened (start_queue puzzle opened) fresh) ≡
    shown (3 ∷ 3 ∷ 1 ∷ 3 ∷ 3 ∷ 1 ∷ [])
    (none
    ∷ some ((0, 3) ∷ (1, 3) ∷ [])
    ∷ none
    ∷ some ((0, 3) ∷ (1, 3) ∷ [])
    ∷ some ((0, 3) ∷ (1, 3) ∷ [])
    ∷ some ((0, 0) ∷ [])
    ∷ [])
    11
unfolding computed
cut_round = refl

-- a cell whose row has a block and whose column has none loses its last colour: a contradiction
contradicts : show (probe (record { width = 1; height = 1; clues = one ∷ [] ∷ [] }) (3 ∷ []) (start_queue puzzle (3 ∷ [])) fresh) ≡ nothing
unfolding computed
contradicts = refl
