-- A cell's other colours come to wait, one after the other.
use mathlib.Core.Path.{◌≡◌, refl, sym, ap, ◌∙◌}
use mathlib.Core.Bool.{Bool, true, false, not, ◌&&◌, ◌||◌}
use mathlib.Core.List.{List, [], ◌∷◌}
use Prim.Native.Nat.{ℕ, ◌+◌, ◌-◌, ◌≤◌, ◌<◌}
use native.Mathlib.Omega.{arith}
use lib.Dec.{eqb}
use lib.ListN.{length}
use Rattle.rules.specs.Lists.{keep, from}
use Rattle.rules.specs.Sets.{Colour, has, members, colours}
use Rattle.rules.specs.Boards.{Cell}
use Rattle.rules.specs.Guesses.{Guess, guess}
use Rattle.rules.specs.Search.{among, others}
use Rattle.rules.specs.Answers.{most_waiting}
use Rattle.rules.proofs.Tests.{on_test, by_test}
use Rattle.rules.proofs.Lists.{from_more, from_end}
use Rattle.guesses.specs.declared.waiting.Guesses.{Guesses}
use Rattle.guesses.specs.Waiting.{guesses_of, IfRoom, is_other, with_other}
use Rattle.guesses.proofs.Room.{room_kept}

-- ## One colour

module _ (g : Guesses) (c : Cell) (x : Colour) (s : ℕ) (y : Colour) where
  -- what waits already has room
  pub other_kept : g.head ≤ most_waiting → is_other c x s y (guesses_of g) ≡ false → IfRoom (with_other c x s y (guesses_of g)) g
  other_kept h e = rw (e, with_other) (room_kept g h)

  pub other_new : (r : Guesses) → is_other c x s y (guesses_of g) ≡ true → IfRoom (guess c y ∷ guesses_of g) r → IfRoom (with_other c x s y (guesses_of g)) r
  other_new r e u = rw (e, with_other) u

-- ## All colours

module _ (c : Cell) (x : Colour) (s : ℕ) where
  -- the colours from y on
  abbrev others_from : ℕ → List Guess → List Guess
  others_from y gs = others c x (keep (has s) (from y (8 - y))) gs

  one_more : (v : Bool) (y : Colour) (ys : List Colour) (gs : List Guess) →
      others c x (elim v [ true ↦ y ∷ ys | false ↦ ys ]) gs ≡ others c x ys (elim (v && not (eqb y x || among (guess c y) gs)) [ true ↦ guess c y ∷ gs | false ↦ gs ])
  unfolding others
  one_more true y ys gs = by_test (eqb y x || among (guess c y) gs) (λ e. rw e) (λ e. rw e)
  one_more false y ys gs = refl

  others_more : (y : ℕ) (gs : List Guess) → y < 8 → others_from y gs ≡ others_from (y + 1) (with_other c x s y gs)
  others_more y gs h = ap (λ l. others c x (keep (has s) l) gs) (from_more y 8 h) ∙ one_more (has s y) y (keep (has s) (from (y + 1) (8 - (y + 1)))) gs

  others_end : (y : ℕ) (gs : List Guess) → 8 ≤ y → others_from y gs ≡ gs
  unfolding others
  others_end y gs h = rw (from_end y 8 h)

  others_grow : (ys : List Colour) (gs : List Guess) → length gs ≤ length (others c x ys gs)
  unfolding others
  others_grow [] gs = omega arith
  others_grow (y ∷ ys) gs = on_test (λ (hs : List Guess). length gs ≤ length (others c x ys hs)) (eqb y x || among (guess c y) gs)
      (λ e. others_grow ys gs)
      (λ e. let l = others_grow ys (guess c y ∷ gs) in omega arith)

  -- what is still to be added to g makes the others of gs, where there is room for these
  pub record Adding (gs : List Guess) (g : Guesses) (y : ℕ) : Type 0 where
    pub within : g.head ≤ most_waiting
    pub all : length (others c x (colours s) gs) ≤ most_waiting → others_from y (guesses_of g) ≡ others c x (colours s) gs

  pub adding_start : (g : Guesses) → g.head ≤ most_waiting → Adding (guesses_of g) g 0
  unfolding members
  adding_start g h = record { within = h; all = λ _. refl }

  pub adding_turn : (gs : List Guess) (g r : Guesses) (y : ℕ) → Adding gs g y → y < 8 → IfRoom (with_other c x s y (guesses_of g)) r → Adding gs r (y + 1)
  adding_turn gs g r y a h k = record {
    within = k.within;
    all = λ room.
        let e : others_from (y + 1) (with_other c x s y (guesses_of g)) ≡ others c x (colours s) gs = sym (others_more y (guesses_of g) h) ∙ a.all room in
        let l = others_grow (keep (has s) (from (y + 1) (8 - (y + 1)))) (with_other c x s y (guesses_of g)) in
        ap (others_from (y + 1)) (k.guesses (omega (arith, ap length e))) ∙ e;
  }

  pub adding_end : (gs : List Guess) (g : Guesses) (y : ℕ) → Adding gs g y → 8 ≤ y → IfRoom (others c x (colours s) gs) g
  adding_end gs g y a h = record { within = a.within; guesses = λ room. sym (others_end y (guesses_of g) h) ∙ a.all room }
