-- Numbers waiting in order: the highest first, on a tie the lower number. Cells wait so for probing, and noted cells and their colours for guesses.
use Rattle.std.specs.Prelude.{Bool, true, false, List, [], ◌∷◌, ℕ, zero, suc, length, get_or, set}
use Rattle.std.proofs.Math.Option.{Option, none, some}
use Rattle.rules.specs.Lists.{keep, from}

-- for each number what it waits with, or nothing where it does not wait: so each number is held once
abbrev pub Queue : Type 0 → Type 0
Queue A = List (Option A)

module _ {A : Type 0} where
  -- pushing a number already there replaces what it waits with
  unfoldable pub push : ℕ → A → Queue A → Queue A
  push c p q = set q c (some p)

  abbrev pub waits : Option A → Bool
  waits none = false
  waits (some p) = true

  -- how many wait
  unfoldable pub waiting : Queue A → ℕ
  waiting q = length (keep waits q)

module _ {A : Type 0} (higher : A → A → Bool) where
  -- of the number found so far and a later one the one that goes first: the later one only where it is higher
  abbrev pub ahead : Option (ℕ × A) → ℕ → Option A → Option (ℕ × A)
  ahead best c none = best
  ahead none c (some p) = some (c, p)
  ahead (some e) c (some p) = elim (higher p e.1) [ true ↦ some (c, p) | false ↦ some e ]

  -- the number that goes first, of the one found so far and of more numbers, ascending
  unfoldable pub leader : Queue A → List ℕ → Option (ℕ × A) → Option (ℕ × A)
  leader q [] best = best
  leader q (c ∷ cs) best = leader q cs (ahead best c (get_or q c none))

  -- the number that goes first, and the queue without it
  unfoldable pub pop : Queue A → Option (ℕ × Queue A)
  pop q = elim (leader q (from 0 (length q)) none) [ none ↦ none | some e ↦ some (e.0, set q e.0 none) ]

  -- at most n numbers, popped one after the other
  unfoldable pub popped : ℕ → Queue A → List ℕ
  popped zero q = []
  popped (suc n) q = elim (pop q) [ none ↦ [] | some e ↦ e.0 ∷ popped n e.1 ]

  -- all that wait, in order; there are no more than the queue is long: `in_order-is` of `proofs/Queues.antt`
  unfoldable pub in_order : Queue A → List ℕ
  in_order q = popped (length q) q
