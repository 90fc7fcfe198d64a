-- Choosing guesses: how a cell's colours wait in its tally.
use mathlib.Core.Path.{◌≡◌, refl, sym, ap, ◌∙◌}
use mathlib.Core.Bool.{Bool, true, false}
use mathlib.Core.List.{List, ◌∷◌, map}
use mathlib.Core.Option.{Option, none, some}
use Prim.Native.Nat.{ℕ, zero, suc, ◌+◌, ◌≤◌, ◌<◌}
use native.Mathlib.Omega.{arith}
use lib.Dec.{leb}
use borrow.Author.Tests.{le-leb, lt-leb, leb-true, leb-false}
use Rattle.rules.specs.Lists.{keep, from}
use Rattle.rules.specs.Sets.{Colour, has, members, colours}
use Rattle.rules.specs.Queues.{push}
use Rattle.rules.specs.Guesses.{tally}
use Rattle.rules.proofs.Tests.{by_test, by_equal}
use Rattle.rules.proofs.Given.{given_alike, given_same, given_set}

-- The colours of a set wait with what f gives.
module _ (s : ℕ) (f : Colour → ℕ) where
  -- what a colour waits with
  abbrev waits : Colour → Option ℕ
  waits x = elim (has s x) [ true ↦ some (f x) | false ↦ none ]

  -- the same of the colours from i on
  abbrev waits_from : ℕ → Colour → Option ℕ
  waits_from i x = elim (leb i x) [ true ↦ waits x | false ↦ none ]

  reached : (i x : ℕ) → i ≤ x → waits_from i x ≡ waits x
  reached i x h = rw (le-leb i x h, waits_from)

  not_reached : (i x : ℕ) → x < i → waits_from i x ≡ none
  not_reached i x h = rw (lt-leb i x h, waits_from)

  other : (i x : ℕ) → (x ≡ i → ⊥) → waits_from i x ≡ waits_from (suc i) x
  other i x e = by_test (leb i x)
      (λ h. let l = leb-true i x h in reached i x l ∙ sym (reached (suc i) x (omega arith)))
      (λ h. let l = leb-false i x h in not_reached i x l ∙ sym (not_reached (suc i) x (omega arith)))

  abbrev each : List Colour → List (Colour × ℕ)
  each xs = map (λ x. (x, f x)) xs

  tally_from : (i n : ℕ) → i + n ≡ 8 → tally (each (keep (has s) (from i n))) ≡ map (waits_from i) (from 0 8)
  unfolding tally push
  tally_from i zero e = sym (given_alike (waits_from i) none 0 8 (λ x h. not_reached i x (omega arith)))
  tally_from i (suc n) e = go (has s i) refl (tally_from (suc i) n (omega arith))
    where
      rest : List Colour
      rest = keep (has s) (from (suc i) n)

      go : (v : Bool) → has s i ≡ v → tally (each rest) ≡ map (waits_from (suc i)) (from 0 8) →
          tally (each (elim v as (λ _. List Colour) [ true ↦ i ∷ rest | false ↦ rest ])) ≡ map (waits_from i) (from 0 8)
      go true h ih = ap (push i (f i)) ih ∙ sym (given_set (waits_from (suc i)) (waits_from i) 8 i (some (f i)) (λ _. reached i i (omega arith) ∙ rw (h, waits)) (λ x m p. other i x p))
      go false h ih = ih ∙ sym (given_same (waits_from i) (waits_from (suc i)) 8 (λ x m. by_equal x i
          (λ p. ap (waits_from i) p ∙ reached i i (omega arith) ∙ rw (h, waits) (sym (not_reached (suc i) x (omega arith))))
          (λ p. other i x p)))

  pub tally_waits : tally (each (colours s)) ≡ map waits (from 0 8)
  unfolding members
  tally_waits = tally_from 0 8 refl ∙ given_same (waits_from 0) waits 8 (λ x h. reached 0 x (omega arith))
