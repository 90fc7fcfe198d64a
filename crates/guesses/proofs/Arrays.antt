-- How the arrays of the waiting guesses follow the rules' list: taking the next guess, and putting one before the others.
use mathlib.Core.Path.{◌≡◌, refl, sym, ap, ap₂, ◌∙◌}
use mathlib.Core.Bool.{Bool, ◌||◌}
use mathlib.Core.List.{List, [], ◌∷◌, map}
use Prim.Native.Nat.{ℕ, zero, suc, ◌+◌, ◌-◌, ◌≤◌, ◌<◌}
use native.Mathlib.Numerals.{add-one}
use native.Mathlib.Omega.{arith}
use lib.ListN.{length, length-set, set}
use lib.Seq.{get_or-set_same, get_or-set_other}
use borrow.Author.Rules.{rules}
use mir.Val.{Val}
use denote.Laws.{Is}
use denote.Struct.Declared.{row}
use Rattle.std.specs.List.{list_any, range_with_len}
use Rattle.rules.specs.Lists.{any, from}
use Rattle.rules.specs.Guesses as Rules
use Rattle.rules.specs.Search.{same_guess, among}
use Rattle.rules.specs.Answers.{most_waiting}
use Rattle.rules.proofs.Lists.{from_low, from_more, from_end, map_same, any_map}
use Rattle.rules.proofs.Given.{length_given}
use Rattle.guesses.specs.declared.waiting.Guesses.{Guesses}
use Rattle.guesses.specs.Waiting.{guess_at, guesses_of, Waiting, IfRoom, Rest}
use Rattle.guesses.specs.contracts.waiting.Guesses as guesses

-- guesses that a function is passed, or is returned, have 1,024 places
pub record Long (g : Guesses) : Type 0 where
  pub cells : length g.cells ≡ most_waiting
  pub colours : length g.colours ≡ most_waiting

pub long : (g : Guesses) (vs : List Val) → Is (row guesses.the_type) g vs → Long g
long g vs p = record { cells = search rules; colours = search rules }

pub guesses_length : (g : Guesses) → length (guesses_of g) ≡ most_waiting - g.head
unfolding guesses_of
guesses_length g = length_given (guess_at g) g.head (most_waiting - g.head)

pub guesses_none : (g : Guesses) → most_waiting ≤ g.head → guesses_of g ≡ []
unfolding guesses_of
guesses_none g h = ap (map (guess_at g)) (from_end g.head most_waiting h)

pub none_waiting : (cells colours : List ℕ) → Waiting [] (record { head = most_waiting; cells = cells; colours = colours })
none_waiting cells colours = record { within = omega arith; guesses = guesses_none (record { head = most_waiting; cells = cells; colours = colours }) (omega arith) }

-- ## Taking the next guess

abbrev after : Guesses → Guesses
after g = record { head = g.head + 1; cells = g.cells; colours = g.colours }

pub rest : (g : Guesses) → g.head < most_waiting → Rest g (after g)
unfolding guesses_of
rest g h = record { within = omega arith; guesses = ap (map (guess_at g)) (from_more g.head most_waiting h) }

-- ## Putting a guess before the others

abbrev pub pushed : Guesses → ℕ → ℕ → Guesses
pushed g c x = let i = g.head - 1 in record { head = i; cells = set g.cells i c; colours = set g.colours i x }

pub pushed_long : (g : Guesses) (c x : ℕ) → Long g → Long (pushed g c x)
pushed_long g c x l = let i = g.head - 1 in record { cells = length-set g.cells i c ∙ l.cells; colours = length-set g.colours i x ∙ l.colours }

pushed_waits : (g : Guesses) (c x : ℕ) → Long g → 0 < g.head → g.head ≤ most_waiting → guesses_of (pushed g c x) ≡ Rules.guess c x ∷ guesses_of g
unfolding guesses_of
pushed_waits g c x l h k =
    let i = g.head - 1 in
    let z : i + 1 ≡ g.head = omega arith in
    ap (map (guess_at (pushed g c x))) (from_more i most_waiting (omega arith) ∙ ap (λ j. i ∷ from j (most_waiting - j)) z) ∙
    ap₂ ◌∷◌ here (map_same (guess_at (pushed g c x)) (guess_at g) (from g.head (most_waiting - g.head)) (λ j m. there j (from_low g.head (most_waiting - g.head) m).0))
  where
    here : guess_at (pushed g c x) (g.head - 1) ≡ Rules.guess c x
    here = ap₂ Rules.guess (get_or-set_same g.cells (g.head - 1) c 0 (omega (arith, l.cells))) (get_or-set_same g.colours (g.head - 1) x 0 (omega (arith, l.colours)))

    there : (j : ℕ) → g.head ≤ j → guess_at (pushed g c x) j ≡ guess_at g j
    there j m = ap₂ Rules.guess (get_or-set_other g.cells (g.head - 1) j c 0 (λ e. omega arith)) (get_or-set_other g.colours (g.head - 1) j x 0 (λ e. omega arith))

pub pushed_room : (g : Guesses) (c x : ℕ) → Long g → 0 < g.head → g.head ≤ most_waiting → IfRoom (Rules.guess c x ∷ guesses_of g) (pushed g c x)
pushed_room g c x l h k = record { within = omega arith; guesses = λ _. pushed_waits g c x l h k }

-- with no place before the others there is no room
pub no_room : (g : Guesses) (c x : ℕ) → g.head ≤ 0 → IfRoom (Rules.guess c x ∷ guesses_of g) g
no_room g c x h = record { within = omega arith; guesses = λ m. absurd (omega (arith, guesses_length g)) }

-- ## Looking for a guess

-- a guess waits where it stands at a place from the head on
pub among_places : (g : Guesses) (a : Rules.Guess) → list_any (λ i. same_guess a (guess_at g i)) (range_with_len g.head (most_waiting - g.head)) ≡ among a (guesses_of g)
unfolding among guesses_of
among_places g a = any_range (λ i. same_guess a (guess_at g i)) g.head (most_waiting - g.head) ∙ sym (any_map (same_guess a) (guess_at g) (from g.head (most_waiting - g.head)))
  where
    any_range : (p : ℕ → Bool) (i n : ℕ) → list_any p (range_with_len i n) ≡ any p (from i n)
    any_range p i zero = refl
    any_range p i (suc n) = ap (λ v. p i || v) (rw add-one (any_range p (suc i) n))
