-- What waits where there is room for it, as guesses are put before others.
use mathlib.Core.Path.{refl, ap, ◌∙◌}
use mathlib.Core.List.{List}
use Prim.Native.Nat.{◌≤◌}
use native.Mathlib.Omega.{arith}
use lib.ListN.{length}
use Rattle.rules.specs.Guesses.{Guess}
use Rattle.rules.specs.Answers.{most_waiting}
use Rattle.guesses.specs.declared.waiting.Guesses.{Guesses}
use Rattle.guesses.specs.Waiting.{guesses_of, Waiting, IfRoom}

pub waiting_room : {gs : List Guess} {g : Guesses} → Waiting gs g → IfRoom gs g
waiting_room w = record { within = w.within; guesses = λ _. w.guesses }

pub room_waiting : {gs : List Guess} {g : Guesses} → length gs ≤ most_waiting → IfRoom gs g → Waiting gs g
room_waiting h w = record { within = w.within; guesses = w.guesses h }

-- what waits already has room
pub room_kept : (g : Guesses) → g.head ≤ most_waiting → IfRoom (guesses_of g) g
room_kept g h = record { within = h; guesses = λ _. refl }

-- guesses put before what waits are put before what should wait
pub room_more : (f : List Guess → List Guess) → ((gs : List Guess) → length gs ≤ length (f gs)) → {gs : List Guess} {g r : Guesses} →
    IfRoom gs g → IfRoom (f (guesses_of g)) r → IfRoom (f gs) r
room_more f more {gs} {g} {r} u v = record {
  within = v.within;
  guesses = λ h. let e = ap f (u.guesses (let l = more gs in omega arith)) in v.guesses (omega (arith, ap length e)) ∙ e;
}
