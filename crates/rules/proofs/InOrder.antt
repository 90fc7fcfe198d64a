-- What goes in order: each number that goes waited, and none goes twice.
use mathlib.Core.Path.{◌≡◌, refl, sym, ap, ◌∙◌}
use mathlib.Core.Logic.{inl, inr, ◌≢◌}
use mathlib.Core.Bool.{Bool}
use mathlib.Core.List.Memᴰ
use mathlib.Core.List.{List, [], ◌∷◌}
use mathlib.Core.Option.{Option, none, some}
use Prim.Native.Nat.{ℕ, zero, suc, ◌<◌}
use native.Mathlib.Omega.{arith}
use lib.ListN.{length, get_or, set, get_or-eq_default}
use lib.Seq.{get_or-set_same, get_or-set_other}
use lib.Dec.{ltb}
use borrow.Author.Tests.{ltb-true, ltb-false}
use Rattle.rules.specs.Queues.{Queue, pop, popped, in_order}
use Rattle.rules.proofs.Tests.{on_option, by_test, by_equal}
use Rattle.rules.proofs.Lists.{In}
use Rattle.rules.proofs.Distinct.{Distinct}
use Rattle.rules.proofs.Queues.{Popped, pop_low, pop_some}

module _ {A : Type 0} where
  -- a number that waits is within the queue's length
  pub waits_low : (q : Queue A) (c : ℕ) (p : A) → get_or q c none ≡ some p → c < length q
  waits_low q c p h = by_test (ltb c (length q)) (λ l. ltb-true c (length q) l)
      (λ l. absurd (let off : get_or q c none ≡ none = get_or-eq_default q none (ltb-false c (length q) l) in let z : ◌≡◌ {A = ℕ} 0 1 = cc in omega arith))

  -- what waits after a pop is another number, and waited before
  still_waits : (q : Queue A) (c : ℕ) (r : Queue A) (e : ℕ) → Popped q c r → (p : A) → get_or r e none ≡ some p → (e ≢ c) × (get_or q e none ≡ some p)
  still_waits q c r e o p h = let k : get_or (set q c none) e none ≡ some p = ap (λ l. get_or l e none) (sym o.rest) ∙ h in
      by_equal e c
      (λ u. absurd (let gone : get_or (set q c none) e none ≡ none = ap (λ i. get_or (set q c none) i none) u ∙ get_or-set_same q c none none (pop_low q c r o) in let z : ◌≡◌ {A = ℕ} 0 1 = cc in omega arith))
      (λ u. (u, sym (get_or-set_other q c e none none u) ∙ k))

module _ {A : Type 0} (higher : A → A → Bool) where
  -- what is popped waited, and no number is popped twice
  popped_waits : (n : ℕ) (q : Queue A) {c : ℕ} → In c (popped higher n q) → (p : A) × (get_or q c none ≡ some p)
  unfolding popped
  popped_waits zero q m = absurd (Memᴰ.not-nil m)
  popped_waits (suc n) q {c} m = go (pop higher q) refl m (λ r k. popped_waits n r k)
    where
      go : (v : Option (ℕ × Queue A)) → pop higher q ≡ v → In c (elim v as (λ _. List ℕ) [ none ↦ [] | some e ↦ e.0 ∷ popped higher n e.1 ]) →
          ((r : Queue A) → In c (popped higher n r) → (p : A) × (get_or r c none ≡ some p)) → (p : A) × (get_or q c none ≡ some p)
      go none u k ih = absurd (Memᴰ.not-nil k)
      go (some e) u k ih = let o = pop_some higher q e.0 e.1 u in elim (Memᴰ.cases_cons k) [
        | inl h ↦ (o.with, ap (λ i. get_or q i none) h ∙ o.there)
        | inr h ↦ (let r = ih e.1 h in let x = still_waits q e.0 e.1 c o r.0 r.1 in (r.0, x.1))
      ]

  popped_distinct : (n : ℕ) (q : Queue A) → Distinct (popped higher n q)
  unfolding popped
  popped_distinct zero q = tt
  popped_distinct (suc n) q = on_option Distinct (pop higher q) {f = λ e. e.0 ∷ popped higher n e.1} (λ _. tt)
      (λ e u. (
        λ m. let r = popped_waits n e.1 m in (still_waits q e.0 e.1 e.0 (pop_some higher q e.0 e.1 u) r.0 r.1).0 refl,
        popped_distinct n e.1,
      ))

  pub in_order-waits : (q : Queue A) {c : ℕ} → In c (in_order higher q) → (p : A) × (get_or q c none ≡ some p)
  unfolding in_order
  in_order-waits q m = popped_waits (length q) q m

  pub in_order-distinct : (q : Queue A) → Distinct (in_order higher q)
  unfolding in_order
  in_order-distinct q = popped_distinct (length q) q
