-- Guesses that come to wait before others, for one element of a list after the other, from the last to the first.
use mathlib.Core.Path.{◌≡◌, refl, sym, ap, subst, ◌∙◌}
use mathlib.Core.List.{List, [], ◌∷◌, ◌++◌, map, map-map, append-nil, reverse, reverse-reverse}
use Prim.Native.Nat.{ℕ}
use Rattle.rules.specs.Lists.{joined}
use Rattle.rules.specs.Guesses.{Guess}
use Rattle.guesses.specs.declared.waiting.Guesses.{Guesses}
use Rattle.guesses.specs.Waiting.{IfRoom}

-- the guesses that f gives of each element come before gs
module _ {A : Type 0} (f : A → List Guess) (gs : List Guess) where
  abbrev pub placed : List A → List Guess
  placed l = joined (map f l) ++ gs

  pub placing_end : (g : Guesses) (xs l : List A) → xs ≡ reverse l → IfRoom (placed (reverse xs)) g → IfRoom (placed l) g
  placing_end g xs l e = subst (λ k. IfRoom (placed k) g) (ap reverse e ∙ reverse-reverse l)

-- the guesses of each number
pub placed_all : {A : Type 0} (f : ℕ → List Guess) (number : A → ℕ) (xs : List A) → placed (λ x. f (number x)) [] xs ≡ joined (map f (map number xs))
placed_all f number xs = append-nil (joined (map (λ x. f (number x)) xs)) ∙ ap joined (sym (map-map f number xs))

-- one guess of each
pub placed_each : {A : Type 0} (a : ℕ → Guess) (number : A → ℕ) (xs : List A) → joined (map (λ x. a (number x) ∷ []) xs) ≡ map a (map number xs)
placed_each a number [] = refl
placed_each a number (x ∷ xs) = ap (λ gs. a (number x) ∷ gs) (placed_each a number xs)
