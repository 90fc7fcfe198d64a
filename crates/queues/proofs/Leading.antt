-- How a loop finds the number that goes first, in any order: it holds the one found so far, and passes the numbers ascending.
use mathlib.Core.Path.{◌≡◌, refl, sym, ap, ◌∙◌}
use mathlib.Core.Bool.{Bool, true, false}
use mathlib.Core.List.{List, [], ◌∷◌, map}
use mathlib.Core.Option.{Option, none, some}
use Prim.Native.Nat.{ℕ, zero, suc, ◌+◌, ◌-◌, ◌≤◌, ◌<◌}
use native.Mathlib.Omega.{arith}
use lib.ListN.{length, get_or, set}
use Rattle.rules.specs.Lists.{from}
use Rattle.rules.specs.Queues.{Queue, ahead, leader, pop}
use Rattle.rules.proofs.Queues.{leader_more, leader_end, pop_leader, pop_nothing}

module _ {A : Type 0} (higher : A → A → Bool) (q : Queue A) (n : ℕ) where
  -- the one that goes first of the numbers from i on, below n, and of the one found so far
  abbrev pub leader_from : ℕ → Option (ℕ × A) → Option (ℕ × A)
  leader_from i best = leader higher q (from i (n - i)) best

  pub leader_start : leader_from 0 none ≡ leader higher q (from 0 n) none
  leader_start = let z : n - 0 ≡ n = omega arith in ap (λ m. leader higher q (from 0 m) none) z

  pub leader_turn : (i : ℕ) (best next : Option (ℕ × A)) (o : Option A) → i < n → get_or q i none ≡ o → next ≡ ahead higher best i o → leader_from (i + 1) next ≡ leader_from i best
  leader_turn i best next o h e k = ap (leader_from (i + 1)) (k ∙ ap (ahead higher best i) (sym e)) ∙ sym (leader_more higher q n i best h)

  pub leader_last : (i : ℕ) (best : Option (ℕ × A)) → n ≤ i → leader_from i best ≡ best
  leader_last i best h = leader_end higher q n i best h

  -- the one found of all is popped
  module _ (l : length q ≡ n) where
    led : (o : Option (ℕ × A)) → o ≡ leader higher q (from 0 n) none → leader higher q (from 0 (length q)) none ≡ o
    led o e = ap (λ m. leader higher q (from 0 m) none) l ∙ sym e

    pub none_pops : none ≡ leader higher q (from 0 n) none → pop higher q ≡ none
    none_pops e = pop_nothing higher q (led none e)

    pub found_pops : (c : ℕ) (p : A) → some (c, p) ≡ leader higher q (from 0 n) none → pop higher q ≡ some (c, set q c none)
    found_pops c p e = pop_leader higher q c p (led (some (c, p)) e)

-- ## Where a number waits with a rank that is made of what it waits with in q

module _ {A B : Type 0} (f : A → B) where
  abbrev pub ranked : Option A → Option B
  ranked none = none
  ranked (some a) = some (f a)

  pub get_ranked : (q : Queue A) (c : ℕ) → get_or (map ranked q) c none ≡ ranked (get_or q c none)
  get_ranked [] c = refl
  get_ranked (o ∷ q) zero = refl
  get_ranked (o ∷ q) (suc c) = get_ranked q c

module _ {A B : Type 0} (f : A → B) (higher : B → B → Bool) where
  abbrev best_ranked : Option (ℕ × A) → Option (ℕ × B)
  best_ranked none = none
  best_ranked (some e) = some (e.0, f e.1)

  ahead_ranked : (best : Option (ℕ × A)) (c : ℕ) (o : Option A) → ahead higher (best_ranked best) c (ranked f o) ≡ best_ranked (ahead (λ a b. higher (f a) (f b)) best c o)
  ahead_ranked best c none = refl
  ahead_ranked none c (some p) = refl
  ahead_ranked (some e) c (some p) = go (higher (f p) (f e.1))
    where
      go : (v : Bool) → ◌≡◌ {A = Option (ℕ × B)} (elim v [ true ↦ some (c, f p) | false ↦ some (e.0, f e.1) ]) (best_ranked (elim v [ true ↦ some (c, p) | false ↦ some e ]))
      go true = refl
      go false = refl

  abbrev by : A → A → Bool
  by a b = higher (f a) (f b)

  leader_ranked : (q : Queue A) (cs : List ℕ) (best : Option (ℕ × A)) → leader higher (map (ranked f) q) cs (best_ranked best) ≡ best_ranked (leader by q cs best)
  unfolding leader
  leader_ranked q [] best = refl
  leader_ranked q (c ∷ cs) best = ap (leader higher (map (ranked f) q) cs) (ap (ahead higher (best_ranked best) c) (get_ranked f q c) ∙ ahead_ranked best c (get_or q c none))
      ∙ leader_ranked q cs (ahead by best c (get_or q c none))

  module _ (q : Queue A) (n : ℕ) (l : length q ≡ n) where
    pub none_ranked : none ≡ leader higher (map (ranked f) q) (from 0 n) none → pop by q ≡ none
    none_ranked e = none_pops by q n l (go (leader by q (from 0 n) none) (e ∙ leader_ranked q (from 0 n) none))
      where
        go : (o : Option (ℕ × A)) → ◌≡◌ {A = Option (ℕ × B)} none (best_ranked o) → none ≡ o
        go none h = refl
        go (some a) h = cc

    pub found_ranked : (c : ℕ) (p : B) → some (c, p) ≡ leader higher (map (ranked f) q) (from 0 n) none → pop by q ≡ some (c, set q c none)
    found_ranked c p e = let r = go (leader by q (from 0 n) none) (e ∙ leader_ranked q (from 0 n) none) in found_pops by q n l c r.0 r.1
      where
        go : (o : Option (ℕ × A)) → ◌≡◌ {A = Option (ℕ × B)} (some (c, p)) (best_ranked o) → (a : A) × (some (c, a) ≡ o)
        go none h = cc
        go (some a) h = (a.1, let k : ◌≡◌ {A = ℕ × B} (c, p) (a.0, f a.1) = cc in ap (λ i. some (i, a.1)) (ap (λ x. x.0) k))
