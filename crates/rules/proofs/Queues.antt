-- The queue: how the one that goes first is found, that it waited, that one fewer waits then, and nothing is lost.
use mathlib.Core.Path.{◌≡◌, refl, sym, ap, subst, ◌∙◌}
use mathlib.Core.Bool.{Bool, true, false}
use mathlib.Core.Logic.{◌≢◌}
use mathlib.Core.List.{List, [], ◌∷◌, map}
use mathlib.Core.Option.{Option, none, some}
use Prim.Native.Nat.{ℕ, zero, suc, ◌+◌, ◌-◌, ◌≤◌, ◌<◌}
use native.Mathlib.Numerals.{add-one}
use native.Mathlib.Omega.{arith}
use lib.ListN.{length, get_or, set, length-set, replicate, get_or-eq_default}
use lib.Dec.{ltb}
use borrow.Author.Tests.{lt-ltb, le-ltb, ltb-true, ltb-false}
use Rattle.rules.specs.Lists.{from}
use Rattle.rules.specs.Queues.{Queue, push, waits, waiting, ahead, leader, pop, popped, in_order}
use Rattle.rules.proofs.Tests.{on_test, on_option, by_test, by_equal}
use Rattle.rules.proofs.Lists.{keep_few}
use Rattle.rules.proofs.Given.{given_alike, given_same, given_set}

module _ {A : Type 0} where
  -- the number found waits with what was found
  abbrev Found : Queue A → Option (ℕ × A) → Type 0
  Found q none = Unit {0}
  Found q (some e) = get_or q e.0 none ≡ some e.1

  pub waiting_few : (q : Queue A) → waiting q ≤ length q
  unfolding waiting
  waiting_few q = keep_few waits q

  -- a number taken from the queue: one fewer waits
  taken : (q : Queue A) (c : ℕ) (p : A) → get_or q c none ≡ some p → waiting (set q c none) < waiting q
  unfolding waiting
  taken [] c p h = absurd (let z : ◌≡◌ {A = ℕ} 0 1 = cc in omega arith)
  taken (none ∷ q) zero p h = absurd (let z : ◌≡◌ {A = ℕ} 0 1 = cc in omega arith)
  taken (some x ∷ q) zero p h = omega arith
  taken (none ∷ q) (suc c) p h = taken q c p h
  taken (some x ∷ q) (suc c) p h = let ih = taken q c p h in omega arith

  -- c waited in q, and r is q without it
  pub record Popped (q : Queue A) (c : ℕ) (r : Queue A) : Type 0 where
    pub with : A
    pub there : get_or q c none ≡ some with
    pub rest : r ≡ set q c none

  pub pop_long : (q : Queue A) (c : ℕ) (r : Queue A) → Popped q c r → length r ≡ length q
  pop_long q c r p = ap length p.rest ∙ length-set q c none

  -- past the queue's end nothing waits
  pub pop_low : (q : Queue A) (c : ℕ) (r : Queue A) → Popped q c r → c < length q
  pop_low q c r p = by_test (ltb c (length q)) (λ e. ltb-true c (length q) e)
      (λ e. let n = sym (get_or-eq_default q none (ltb-false c (length q) e)) ∙ p.there in absurd (let z : ◌≡◌ {A = ℕ} 0 1 = cc in omega arith))

  pub pop_fewer : (q : Queue A) (c : ℕ) (r : Queue A) → Popped q c r → waiting r < waiting q
  pop_fewer q c r p = rw p.rest (taken q c p.with p.there)

-- A queue filled number by number: below i each number waits with what f gives, and from i on none waits yet.
module _ {A : Type 0} (f : ℕ → Option A) where
  abbrev up_to : ℕ → ℕ → Option A
  up_to i c = elim (ltb c i) [ true ↦ f c | false ↦ none ]

  unfoldable pub filled : ℕ → ℕ → Queue A
  filled n i = map (up_to i) (from 0 n)

  passed : (i c : ℕ) → c < i → up_to i c ≡ f c
  passed i c h = rw (lt-ltb c i h, up_to)

  to_come : (i c : ℕ) → i ≤ c → up_to i c ≡ none
  to_come i c h = rw (le-ltb c i h, up_to)

  other : (i c : ℕ) → c ≢ i → up_to (i + 1) c ≡ up_to i c
  other i c e = by_test (ltb c i)
      (λ h. let l = ltb-true c i h in passed (i + 1) c (omega arith) ∙ sym (passed i c l))
      (λ h. let l = ltb-false c i h in to_come (i + 1) c (omega arith) ∙ sym (to_come i c l))

  pub filled_none : (n : ℕ) → filled n 0 ≡ replicate n none
  unfolding filled
  filled_none n = given_alike (up_to 0) none 0 n (λ c h. to_come 0 c (omega arith))

  pub filled_all : (n i : ℕ) → n ≤ i → filled n i ≡ map f (from 0 n)
  unfolding filled
  filled_all n i k = given_same (up_to i) f n (λ c h. passed i c (omega arith))

  -- a number that waits is pushed, and one that does not is passed over
  pub filled_push : (n i : ℕ) (p : A) → f i ≡ some p → filled n (i + 1) ≡ push i p (filled n i)
  unfolding filled push
  filled_push n i p e = given_set (up_to i) (up_to (i + 1)) n i (some p) (λ h. passed (i + 1) i (omega arith) ∙ e) (λ c h k. other i c k)

  pub filled_pass : (n i : ℕ) → f i ≡ none → filled n (i + 1) ≡ filled n i
  unfolding filled
  filled_pass n i e = given_same (up_to (i + 1)) (up_to i) n (λ c h. by_equal c i
      (λ k. passed (i + 1) c (omega arith) ∙ ap f k ∙ e ∙ sym (to_come i c (omega arith)))
      (λ k. other i c k))

module _ {A : Type 0} (higher : A → A → Bool) where
  -- a later number goes first only where it is higher
  pub ahead_higher : (e : ℕ × A) (c : ℕ) (p : A) → higher p e.1 ≡ true → ahead higher (some e) c (some p) ≡ some (c, p)
  ahead_higher e c p h = rw (h, ahead)

  pub ahead_lower : (e : ℕ × A) (c : ℕ) (p : A) → higher p e.1 ≡ false → ahead higher (some e) c (some p) ≡ some e
  ahead_lower e c p h = rw (h, ahead)

  -- the leader of the numbers from i on, below n
  pub leader_more : (q : Queue A) (n i : ℕ) (best : Option (ℕ × A)) → i < n →
      leader higher q (from i (n - i)) best ≡ leader higher q (from (i + 1) (n - (i + 1))) (ahead higher best i (get_or q i none))
  unfolding leader
  leader_more q n i best h = let z : n - i ≡ suc (n - (i + 1)) = omega arith in rw (z, leader, add-one i)

  pub leader_end : (q : Queue A) (n i : ℕ) (best : Option (ℕ × A)) → n ≤ i → leader higher q (from i (n - i)) best ≡ best
  unfolding leader
  leader_end q n i best h = let z : n - i ≡ 0 = omega arith in rw z

  -- and of all is popped
  pub pop_leader : (q : Queue A) (c : ℕ) (p : A) → leader higher q (from 0 (length q)) none ≡ some (c, p) → pop higher q ≡ some (c, set q c none)
  unfolding pop
  pop_leader q c p e = ap (λ o. elim o as (λ _. Option (ℕ × Queue A)) [ none ↦ none | some f ↦ some (f.0, set q f.0 none) ]) e

  pub pop_nothing : (q : Queue A) → leader higher q (from 0 (length q)) none ≡ none → pop higher q ≡ none
  unfolding pop
  pop_nothing q e = ap (λ o. elim o as (λ _. Option (ℕ × Queue A)) [ none ↦ none | some f ↦ some (f.0, set q f.0 none) ]) e

  ahead_found : (q : Queue A) (best : Option (ℕ × A)) (c : ℕ) → Found q best → Found q (ahead higher best c (get_or q c none))
  ahead_found q best c f = go best f (get_or q c none) refl
    where
      go : (best : Option (ℕ × A)) → Found q best → (v : Option A) → get_or q c none ≡ v → Found q (ahead higher best c v)
      go best f none h = f
      go none f (some p) h = h
      go (some e) f (some p) h = on_test (Found q) (higher p e.1) {a = some (c, p)} {b = some e} (λ _. h) (λ _. f)

  leader_found : (q : Queue A) (cs : List ℕ) (best : Option (ℕ × A)) → Found q best → Found q (leader higher q cs best)
  unfolding leader
  leader_found q [] best f = f
  leader_found q (c ∷ cs) best f = leader_found q cs (ahead higher best c (get_or q c none)) (ahead_found q best c f)

  pub pop_some : (q : Queue A) (c : ℕ) (r : Queue A) → pop higher q ≡ some (c, r) → Popped q c r
  unfolding pop
  pop_some q c r e = go (leader higher q (from 0 (length q)) none) (leader_found q (from 0 (length q)) none tt) e
    where
      go : (o : Option (ℕ × A)) → Found q o → ◌≡◌ {A = Option (ℕ × Queue A)} (elim o [ none ↦ none | some e ↦ some (e.0, set q e.0 none) ]) (some (c, r)) → Popped q c r
      go none f h = absurd (let z : ◌≡◌ {A = ℕ} 0 1 = cc in omega arith)
      go (some e) f h =
          let pair : ◌≡◌ {A = ℕ × Queue A} (e.0, set q e.0 none) (c, r) = cc in
          let k : e.0 ≡ c = ap (λ x. x.0) pair in
          record { with = e.1; there = subst (λ i. get_or q i none ≡ some e.1) k f; rest = sym (ap (λ x. x.1) pair) ∙ ap (λ i. set q i none) k }

  -- one popped after the other
  pub popped_some : (n : ℕ) (q : Queue A) (c : ℕ) (r : Queue A) → pop higher q ≡ some (c, r) → popped higher (suc n) q ≡ c ∷ popped higher n r
  unfolding popped
  popped_some n q c r e = ap (λ o. elim o as (λ _. List ℕ) [ none ↦ [] | some f ↦ f.0 ∷ popped higher n f.1 ]) e

  pub popped_none : (n : ℕ) (q : Queue A) → pop higher q ≡ none → popped higher n q ≡ []
  unfolding popped
  popped_none zero q e = refl
  popped_none (suc n) q e = ap (λ o. elim o as (λ _. List ℕ) [ none ↦ [] | some f ↦ f.0 ∷ popped higher n f.1 ]) e

  -- as many pops as wait are enough, and more change nothing
  pub popped_any : (n m : ℕ) (q : Queue A) → waiting q ≤ n → waiting q ≤ m → popped higher n q ≡ popped higher m q
  unfolding popped
  popped_any zero zero q h k = refl
  popped_any zero (suc m) q h k = on_option (λ (r : List ℕ). [] ≡ r) (pop higher q) {f = λ e. e.0 ∷ popped higher m e.1} (λ _. refl)
      (λ e u. absurd (let l = pop_fewer q e.0 e.1 (pop_some q e.0 e.1 u) in omega arith))
  popped_any (suc n) zero q h k = on_option (λ (r : List ℕ). r ≡ []) (pop higher q) {f = λ e. e.0 ∷ popped higher n e.1} (λ _. refl)
      (λ e u. absurd (let l = pop_fewer q e.0 e.1 (pop_some q e.0 e.1 u) in omega arith))
  popped_any (suc n) (suc m) q h k = go (pop higher q) refl (λ r i j. popped_any n m r i j)
    where
      go : (v : Option (ℕ × Queue A)) → pop higher q ≡ v → ((r : Queue A) → waiting r ≤ n → waiting r ≤ m → popped higher n r ≡ popped higher m r) →
          ◌≡◌ {A = List ℕ} (elim v [ none ↦ [] | some e ↦ e.0 ∷ popped higher n e.1 ]) (elim v [ none ↦ [] | some e ↦ e.0 ∷ popped higher m e.1 ])
      go none u ih = refl
      go (some e) u ih = let l = pop_fewer q e.0 e.1 (pop_some q e.0 e.1 u) in ap (λ t. e.0 ∷ t) (ih e.1 (omega arith) (omega arith))

  -- the equation that determines the order
  pub in_order-is : (q : Queue A) → in_order higher q ≡ (elim (pop higher q) as (λ _. List ℕ) [ none ↦ [] | some e ↦ e.0 ∷ in_order higher e.1 ])
  unfolding in_order popped
  in_order-is q = popped_any (length q) (suc (length q)) q (waiting_few q) (let l = waiting_few q in omega arith) ∙ go (pop higher q) refl
    where
      go : (v : Option (ℕ × Queue A)) → pop higher q ≡ v →
          ◌≡◌ {A = List ℕ} (elim v [ none ↦ [] | some e ↦ e.0 ∷ popped higher (length q) e.1 ]) (elim v [ none ↦ [] | some e ↦ e.0 ∷ popped higher (length e.1) e.1 ])
      go none u = refl
      go (some e) u = ap (λ n. e.0 ∷ popped higher n e.1) (sym (pop_long q e.0 e.1 (pop_some q e.0 e.1 u)))
