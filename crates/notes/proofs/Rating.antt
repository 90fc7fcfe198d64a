-- Rates: the largest and the smallest count of a cell's colours, and cells that wait with their rates.
use mathlib.Core.Path.{◌≡◌, refl, sym, ap, ◌∙◌}
use mathlib.Core.Bool.{Bool, true, false}
use mathlib.Core.List.{List, [], ◌∷◌, map}
use mathlib.Core.Option as Math
use Prim.Native.Nat.{ℕ, ◌+◌, ◌≤◌, ◌<◌, max, min}
use native.Mathlib.Omega.{arith}
use lib.ListN.{length, get_or, replicate}
use lib.Ieee.{Float}
use Rattle.std.specs.Prelude.{Option, None, Some, unwrap_or, fold}
use Rattle.std.specs.Option.{option_map}
use Rattle.std.proofs.lemmas.Iterator.Adapters.{option_map_id}
use Rattle.std.specs.List.{reduce, filter_map, cons_option, range_with_len}
use Rattle.rules.specs.Lists.{keep, from}
use Rattle.rules.specs.Sets.{Colour, has, members}
use Rattle.rules.specs.Boards.{cells}
use Rattle.rules.specs.Queues.{push}
use Rattle.rules.specs.Guesses.{largest, smallest, rate_at}
use Rattle.rules.proofs.Queues.{filled, filled_none, filled_all, filled_push, filled_pass}
use Rattle.queues.specs.declared.Queue.{Queue}
use Rattle.queues.specs.Entries.{queue_of, Holds}
use Rattle.notes.specs.declared.round.Notes.{Notes}
use Rattle.notes.specs.declared.round.Note.{Note}
use Rattle.notes.specs.Round.{note_of, note_at, notes_of, solves}
use Rattle.notes.specs.Choosing.{rate_of}
use Rattle.notes.proofs.Noting.{note_at_lem}

-- ## The largest and the smallest

fold_max : (a : ℕ) (gs : List (Colour × ℕ)) → fold max a (map (λ (g : Colour × ℕ). g.1) gs) ≡ max a (largest gs)
fold_max a [] = omega arith
fold_max a (g ∷ gs) = fold_max (max a g.1) gs ∙ (let z : max (max a g.1) (largest gs) ≡ max a (max g.1 (largest gs)) = omega arith in z)

largest_reduced : (gs : List (Colour × ℕ)) → unwrap_or (reduce max (map (λ (g : Colour × ℕ). g.1) gs)) 0 ≡ largest gs
largest_reduced [] = refl
largest_reduced (g ∷ gs) = fold_max g.1 gs

fold_min : (a : ℕ) (g : Colour × ℕ) (gs : List (Colour × ℕ)) → fold min a (map (λ (h : Colour × ℕ). h.1) (g ∷ gs)) ≡ min a (smallest (g ∷ gs))
fold_min a g [] = refl
fold_min a g (h ∷ gs) = fold_min (min a g.1) h gs ∙ (let z : min (min a g.1) (smallest (h ∷ gs)) ≡ min a (min g.1 (smallest (h ∷ gs))) = omega arith in z)

smallest_reduced : (gs : List (Colour × ℕ)) → unwrap_or (reduce min (map (λ (g : Colour × ℕ). g.1) gs)) 0 ≡ smallest gs
smallest_reduced [] = refl
smallest_reduced (g ∷ []) = refl
smallest_reduced (g ∷ h ∷ gs) = fold_min g.1 h gs

-- the counts that a note has, one after the other
counts : (t : Note) (xs : List ℕ) → filter_map (solves t) xs ≡ map (λ (g : Colour × ℕ). g.1) (map (λ x. (x, get_or t.counts x 0)) (keep (has t.set) xs))
counts t [] = refl
counts t (x ∷ xs) = go (has t.set x) _ _ (counts t xs)
  where
    go : (v : Bool) (l k : List ℕ) → l ≡ map (λ (g : Colour × ℕ). g.1) (map (λ y. (y, get_or t.counts y 0)) k) →
        cons_option (elim v [ true ↦ Some (get_or t.counts x 0) | false ↦ None ]) l ≡ map (λ (g : Colour × ℕ). g.1) (map (λ y. (y, get_or t.counts y 0)) (elim v as (λ _. List ℕ) [ true ↦ x ∷ k | false ↦ k ]))
    go true l k e = ap (λ r. get_or t.counts x 0 ∷ r) e
    go false l k e = e

-- the largest and the smallest of those
module _ (t : Note) (r : Option ℕ) where
  pub largest_counted : option_map (λ x. x) r ≡ reduce max (filter_map (solves t) (range_with_len 0 8)) → unwrap_or r 0 ≡ largest (note_of t)
  unfolding members
  largest_counted e = ap (λ o. unwrap_or o 0) (sym (option_map_id r) ∙ e ∙ ap (reduce max) (counts t (from 0 8))) ∙ largest_reduced (note_of t)

  pub smallest_counted : option_map (λ x. x) r ≡ reduce min (filter_map (solves t) (range_with_len 0 8)) → unwrap_or r 0 ≡ smallest (note_of t)
  unfolding members
  smallest_counted e = ap (λ o. unwrap_or o 0) (sym (option_map_id r) ∙ e ∙ ap (reduce min) (counts t (from 0 8))) ∙ smallest_reduced (note_of t)

-- ## Cells by rate

module _ (b : List ℕ) (ns : Notes) where
  abbrev rates : ℕ → Math.Option Float
  rates = rate_at b (notes_of ns)

  rate_at_lem : (c : ℕ) → c < ns.n → rates c ≡ rate_of (get_or b c 0) (note_at ns c)
  rate_at_lem c h = ap (rate_of (get_or b c 0)) (sym (note_at_lem ns c h))

  -- the loop that fills the queue: the cells below i are rated
  abbrev pub Rated : Queue → ℕ → Type 0
  Rated q i = Holds ns.n (filled rates ns.n i) q

  pub rated_start : (q : Queue) → Holds ns.n (replicate ns.n Math.none) q → Rated q 0
  rated_start q h = record { size = h.size; queue = h.queue ∙ sym (filled_none rates ns.n) }

  module _ (q : Queue) (i : ℕ) (t : Rated q i) where
    -- one more cell: it does not wait, or it is pushed with its rate
    pub rated_pass : Math.none ≡ rates i → Rated q (i + 1)
    rated_pass e = record { size = t.size; queue = t.queue ∙ sym (filled_pass rates ns.n i (sym e)) }

    pub rated_push : (p : Float) (r : Queue) → Math.some p ≡ rates i → Holds q.n (push i p (queue_of q)) r → Rated r (i + 1)
    rated_push p r e h = record { size = h.size ∙ t.size; queue = h.queue ∙ ap (push i p) t.queue ∙ sym (filled_push rates ns.n i p (sym e)) }

    pub rated_end : ns.n ≤ i → length b ≡ ns.n → Holds ns.n (map rates (cells b)) q
    rated_end h e = record { size = t.size; queue = t.queue ∙ filled_all rates ns.n i h ∙ ap (λ n. map rates (from 0 n)) (sym e) }
