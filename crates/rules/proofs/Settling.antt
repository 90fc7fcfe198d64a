-- What a guess, a node and the search promise. Dead: no grid fits the board. Not dead, with no limit met: every grid that fits is stored, and there is one.
-- Stored grids fit the board and are stored once.
use mathlib.Core.Path.{◌≡◌}
use mathlib.Core.Bool.{true, false}
use mathlib.Core.List.{List}
use Prim.Native.Nat.{ℕ}
use Rattle.rules.specs.Sets.{Colour, has}
use Rattle.rules.specs.Boards.{Board, Cell, at, put, solved, Puzzle}
use Rattle.rules.specs.Probing.{Run}
use Rattle.rules.specs.Guesses.{Guess}
use Rattle.rules.specs.Search.{End, dead, not_dead, Left, left, Tried, tried}
use Rattle.rules.specs.Promises.{Fits, ◌⊑◌}
use Rattle.rules.proofs.Lists.{In}
use Rattle.rules.proofs.Fitting.{Playable}
use Rattle.rules.proofs.Keeping.{NoneFits, Keeps}
use Rattle.rules.proofs.Runs.{Grown}

module _ (z : Puzzle) where
  -- what it means for a board how a guess or a node ended
  abbrev pub Means : End → Board → Run → Type 0
  Means dead b t = NoneFits z b
  Means not_dead b t = t.limit ≡ 0 → ((g : Board) → Fits z b g → In g t.stored) × ((g : Board) × Fits z b g)

  -- A guess or a node on board b, begun with run s, has ended with run t.
  pub record Settled (b : Board) (s : Run) (e : End) (t : Run) : Type 0 where
    pub means : Means e b t
    pub grown : Grown z b s t

  abbrev pub TriedSettled : Board → Run → Tried → Type 0
  TriedSettled b s (tried e t) = Settled b s e t

  -- a node leaves a narrowing that keeps every fitting grid
  pub record LeftBehind (b : Board) (s : Run) (e : End) (a : Board) (t : Run) : Type 0 where
    pub settled : Settled b s e t
    pub sub : a ⊑ b
    pub keeps : Keeps z b a

  abbrev pub LeftSettled : Board → Run → Left → Type 0
  LeftSettled b s (left e a t) = LeftBehind b s e a t

  module _ (k : ℕ) where
    -- a guess that keeps its promise, and a search that does
    abbrev pub GuessPromise : (Board → Cell → Colour → Run → Tried) → Type 0
    GuessPromise try = (b : Board) (c : Cell) (x : Colour) (s : Run) → Playable z k b → has (at b c) x ≡ true → TriedSettled (put b c x) s (try b c x s)

    abbrev pub SearchPromise : (Board → List Guess → Run → Left) → Type 0
    SearchPromise deep = (b : Board) (gs : List Guess) (s : Run) → Playable z k b → solved b ≡ false → LeftSettled b s (deep b gs s)
