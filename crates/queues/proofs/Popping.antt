-- How a loop takes things out in order, each by its number: those taken out, and those that still wait, are all, in order.
use mathlib.Core.Path.{◌≡◌, refl, sym, ap, ◌∙◌}
use mathlib.Core.Bool.{Bool}
use mathlib.Core.List.{List, [], ◌∷◌, ◌++◌, map, map-append, append-nil, append_assoc}
use mathlib.Core.Option.{Option, none, some}
use Prim.Native.Nat.{ℕ, ◌+◌, ◌≤◌, ◌<◌}
use native.Mathlib.Omega.{arith}
use lib.ListN.{length, length-append}
use Rattle.rules.specs.Queues.{Queue, waiting, pop, in_order}
use Rattle.rules.proofs.Queues.{waiting_few, pop_fewer, pop_some, in_order-is}

-- so many things have room
pub record Popping {A C : Type 0} (number : C → ℕ) (higher : A → A → Bool) (whole q : Queue A) (room : ℕ) (taken : List C) : Type 0 where
  pub few : length taken + waiting q ≤ room
  pub all : map number taken ++ in_order higher q ≡ in_order higher whole

module _ {A C : Type 0} (number : C → ℕ) (higher : A → A → Bool) (whole : Queue A) (room : ℕ) where
  abbrev rest : Option (ℕ × Queue A) → List ℕ
  rest o = elim o as (λ _. List ℕ) [ none ↦ [] | some e ↦ e.0 ∷ in_order higher e.1 ]

  pub popping_start : length whole ≤ room → (taken : List C) → taken ≡ [] → Popping number higher whole whole room taken
  popping_start h taken e = rw e (record { few = omega (arith, waiting_few whole); all = refl })

  module _ (q : Queue A) (taken : List C) (t : Popping number higher whole q room taken) where
    module _ (c : C) (r : Queue A) (e : some (number c, r) ≡ pop higher q) where
      pub popping_fewer : waiting r < waiting q
      popping_fewer = pop_fewer q (number c) r (pop_some higher q (number c) r (sym e))

      pub popping_room : length taken < room
      popping_room = omega (arith, t.few, popping_fewer)

      pub popping_turn : (next : List C) → next ≡ taken ++ (c ∷ []) → Popping number higher whole r room next
      popping_turn next h = rw h (record {
        few = omega (arith, t.few, popping_fewer, length-append taken (c ∷ []));
        all = ap (λ l. l ++ in_order higher r) (map-append number taken (c ∷ [])) ∙ append_assoc (map number taken) (number c ∷ []) (in_order higher r)
            ∙ ap (λ l. map number taken ++ l) (sym (in_order-is higher q ∙ ap rest (sym e))) ∙ t.all;
      })

    pub popping_end : none ≡ pop higher q → map number taken ≡ in_order higher whole
    popping_end e = sym (append-nil (map number taken)) ∙ ap (λ l. map number taken ++ l) (sym (in_order-is higher q ∙ ap rest (sym e))) ∙ t.all
