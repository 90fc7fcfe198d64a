-- What the arrays of the waiting guesses stand for: the rules' list of guesses.
use Rattle.std.specs.Prelude.{◌≡◌, Bool, true, false, not, ◌&&◌, ◌||◌, List, ◌∷◌, map, ℕ, ◌-◌, ◌≤◌, eqb, length, get_or}
use Rattle.rules.specs.Lists.{from}
use Rattle.rules.specs.Sets.{Colour, has}
use Rattle.rules.specs.Boards.{Cell}
use Rattle.rules.specs.Guesses as Rules
use Rattle.rules.specs.Search.{among}
use Rattle.rules.specs.Answers.{most_waiting}
use Rattle.guesses.specs.declared.waiting.Guess.{Guess}
use Rattle.guesses.specs.declared.waiting.Guesses.{Guesses}

abbrev pub guess_of : Guess → Rules.Guess
guess_of g = Rules.guess g.cell.0 g.colour.0

-- the guess at a place
abbrev pub guess_at : Guesses → ℕ → Rules.Guess
guess_at g i = Rules.guess (get_or g.cells i 0) (get_or g.colours i 0)

-- the same, as the code holds it
abbrev pub at_place : Guesses → ℕ → Guess
at_place g i = record { cell = record { 0 = get_or g.cells i 0 }; colour = record { 0 = get_or g.colours i 0 } }

-- the next guess
abbrev pub next : Guesses → Rules.Guess
next g = guess_at g g.head

-- those from the head on
unfoldable pub guesses_of : Guesses → List Rules.Guess
guesses_of g = map (guess_at g) (from g.head (most_waiting - g.head))

-- the guesses gs wait in g
pub record Waiting (gs : List Rules.Guess) (g : Guesses) : Type 0 where
  pub within : g.head ≤ most_waiting
  pub guesses : guesses_of g ≡ gs

-- and so they do if there is room for them
pub record IfRoom (gs : List Rules.Guess) (g : Guesses) : Type 0 where
  pub within : g.head ≤ most_waiting
  pub guesses : length gs ≤ most_waiting → guesses_of g ≡ gs

-- r is g without the next guess
pub record Rest (g r : Guesses) : Type 0 where
  pub within : r.head ≤ most_waiting
  pub guesses : guesses_of g ≡ next g ∷ guesses_of r

-- whether a colour y of a set comes to wait at a cell: unless it is the colour x or waits already
abbrev pub is_other : Cell → Colour → ℕ → Colour → List Rules.Guess → Bool
is_other c x s y gs = has s y && not (eqb y x || among (Rules.guess c y) gs)

-- and what waits then
abbrev pub with_other : Cell → Colour → ℕ → Colour → List Rules.Guess → List Rules.Guess
with_other c x s y gs = elim (is_other c x s y gs) [ true ↦ Rules.guess c y ∷ gs | false ↦ gs ]
