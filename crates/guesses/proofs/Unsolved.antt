-- The colours of the first unsolved cell, as guesses.
use mathlib.Core.Path.{◌≡◌, refl, ap, subst, ◌∙◌}
use mathlib.Core.Bool.{Bool, true, false, not, cond}
use mathlib.Core.List.{List, [], ◌∷◌, map}
use mathlib.Core.Option.{none}
use Prim.Native.Nat.{ℕ, zero, suc, ◌+◌, ◌-◌, ◌≤◌, ◌<◌}
use native.Mathlib.Omega.{arith}
use lib.ListN.{length, length-map}
use Rattle.std.specs.List.{HoldsAt, AllWithin}
use Rattle.rules.specs.Lists.{keep, first, from}
use Rattle.rules.specs.Sets.{has, members, colours, single}
use Rattle.rules.specs.Boards.{Cell, at}
use Rattle.rules.specs.Guesses.{Guess, guess}
use Rattle.rules.specs.Search.{first_unsolved}
use Rattle.rules.proofs.Lists.{keep_more, first_least}
use Rattle.rules.proofs.Sets.{colours_few}
use Rattle.guesses.specs.declared.waiting.Guesses.{Guesses}
use Rattle.guesses.specs.Waiting.{guesses_of, Waiting, IfRoom}
use Rattle.guesses.proofs.Room.{room_waiting, room_more}

-- ## The colours of a set, the last one first

module _ (c : Cell) (s : ℕ) where
  -- those from y on, as guesses
  abbrev pub colours_from : ℕ → List Guess
  colours_from y = map (guess c) (keep (has s) (from y (8 - y)))

  -- one colour more: the set has it, or not
  module _ (g : Guesses) (y : ℕ) (h : 0 < y) (k : y ≤ 8) (room : IfRoom (colours_from y) g) where
    kept : keep (has s) (from (y - 1) (8 - (y - 1))) ≡ cond (has s (y - 1)) ((y - 1) ∷ keep (has s) (from y (8 - y))) (keep (has s) (from y (8 - y)))
    kept = let z : (y - 1) + 1 ≡ y = omega arith in
        keep_more (has s) (y - 1) 8 (omega arith) ∙ ap (λ i. cond (has s (y - 1)) ((y - 1) ∷ keep (has s) (from i (8 - i))) (keep (has s) (from i (8 - i)))) z

    pub listed_has : (r : Guesses) → true ≡ has s (y - 1) → IfRoom (guess c (y - 1) ∷ guesses_of g) r → IfRoom (colours_from (y - 1)) r
    listed_has r e u = rw (kept, ← e) (room_more (λ gs. guess c (y - 1) ∷ gs) (λ gs. omega arith) room u)

    pub listed_has_not : false ≡ has s (y - 1) → IfRoom (colours_from (y - 1)) g
    listed_has_not e = rw (kept, ← e) room

  pub listed_end : (g : Guesses) (y : ℕ) → y ≤ 0 → IfRoom (colours_from y) g → Waiting (map (guess c) (colours s)) g
  unfolding members
  listed_end g y h room =
      let z : y ≡ 0 = omega arith in
      let few = colours_few s in
      room_waiting (omega (arith, length-map (colours s) (guess c))) (subst (λ i. IfRoom (colours_from i) g) z room)

-- ## The first unsolved cell

abbrev unsolved : List ℕ → Cell → Bool
unsolved b c = not (single (at b c))

first_none : (p : ℕ → Bool) (i n : ℕ) → ((j : ℕ) → i ≤ j → j < i + n → p j ≡ false) → first p (from i n) ≡ none
first_none p i zero f = refl
first_none p i (suc n) f = rw (f i (omega arith) (omega arith), first) (first_none p (suc i) n (λ j h k. f j (omega arith) (omega arith)))

-- where it stands, if all before it are solved; and if all are solved there is none
module _ (b : List ℕ) (g : Guesses) where
  pub found_unsolved : (i : ℕ) → i < length b → HoldsAt (λ s. single s ≡ false) b i → AllWithin (λ s. single s ≡ true) b 0 i → Waiting (map (guess i) (colours (at b i))) g → Waiting (first_unsolved b) g
  unfolding first_unsolved
  found_unsolved i h here before w =
      rw (first_least (unsolved b) 0 (length b) i (omega arith) (omega arith) (ap not (here 0)) (λ j l m. ap not (before j 0 l m)), first_unsolved) w

  pub all_solved : AllWithin (λ s. single s ≡ true) b 0 (length b) → Waiting [] g → Waiting (first_unsolved b) g
  unfolding first_unsolved
  all_solved all w = rw (first_none (unsolved b) 0 (length b) (λ j l m. ap not (all j 0 l (omega arith))), first_unsolved) w
