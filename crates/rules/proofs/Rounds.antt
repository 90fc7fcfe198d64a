-- A turn of probing in each of its ways, and what assuming the colours of a cell comes to, colour by colour.
use mathlib.Core.Path.{◌≡◌, refl, ap, subst, ◌∙◌}
use mathlib.Core.Bool.{Bool, true, false}
use mathlib.Core.List.Memᴰ
use mathlib.Core.List.{List, [], ◌∷◌, map}
use mathlib.Core.Option.{Option, none, some}
use Prim.Native.Nat.{ℕ, ◌<◌}
use lib.ListN.{set}
use Rattle.rules.specs.Lists.{keep}
use Rattle.rules.specs.Loops.{more, stop, Holds}
use Rattle.rules.specs.Sets.{Colour, colours}
use Rattle.rules.specs.Queues.{pop}
use Rattle.rules.specs.Boards.{Board, Cell, at, solved, Puzzle}
use Rattle.rules.specs.Floats.{higher}
use Rattle.rules.specs.Probing.{Run, CellQueue, Notes, no_notes, Probing, probing, Probed, probed, contradicting, solving, assumed_all, new_round, outcomes, judge, probe_step, probe_measure, probe_on, probe}
use Rattle.rules.proofs.Lists.{In}
use Rattle.rules.proofs.Probing.{probe_falls, probe_turn}

-- ## Outcomes

-- assuming came to a contradiction
abbrev pub fails : Option ℕ → Bool
fails none = true
fails (some n) = false

pub contradicting_keep : (f : Colour → Option ℕ) (l : List Colour) → contradicting (map (λ x. (x, f x)) l) ≡ keep (λ x. fails (f x)) l
contradicting_keep f [] = refl
contradicting_keep f (x ∷ l) = go (f x) refl (contradicting_keep f l)
  where
    go : (o : Option ℕ) → f x ≡ o → contradicting (map (λ x. (x, f x)) l) ≡ keep (λ x. fails (f x)) l → contradicting (map (λ x. (x, f x)) (x ∷ l)) ≡ keep (λ x. fails (f x)) (x ∷ l)
    go none e ih = rw (e, contradicting, keep) (ap (λ r. x ∷ r) ih)
    go (some n) e ih = rw (e, contradicting, keep) ih

-- where none contradicts
pub solving_all : (f : Colour → Option ℕ) (g : Colour → ℕ) (l : List Colour) → ((x : Colour) → In x l → f x ≡ some (g x)) → solving (map (λ x. (x, f x)) l) ≡ map (λ x. (x, g x)) l
solving_all f g [] h = refl
solving_all f g (x ∷ l) h = rw (h x (Memᴰ.head refl), solving) (ap (λ r. (x, g x) ∷ r) (solving_all f g l (λ y m. h y (Memᴰ.tail m))))

-- ## Turns

module _ (z : Puzzle) where
  pub probe_more : (t : Probing) {u : Probing} → probe_step z t ≡ more u → probe_on z t ≡ probe_on z u
  probe_more t e = probe_turn z t ∙ ap (λ o. elim o as (λ _. Probed) [ more u ↦ probe_on z u | stop r ↦ r ]) e

  pub probe_stop : (t : Probing) {r : Probed} → probe_step z t ≡ stop r → probe_on z t ≡ r
  probe_stop t e = probe_turn z t ∙ ap (λ o. elim o as (λ _. Probed) [ more u ↦ probe_on z u | stop r ↦ r ]) e

  pub probe_less : (t : Probing) {u : Probing} → probe_step z t ≡ more u → probe_measure u < probe_measure t
  probe_less t e = subst (Holds (λ u. probe_measure u < probe_measure t) (λ r. Unit {0})) e (probe_falls z t)

  module _ (b : Board) (q : CellQueue) (ns : Notes) (s : Run) where
    -- nothing waits
    pub step_empty : pop higher q ≡ none → probe_step z (probing b q ns s) ≡ stop (probed b ns s)
    step_empty e = rw (e, probe_step)

    module _ (c : Cell) (r : CellQueue) (e : pop higher q ≡ some (c, r)) where
      -- no colour contradicts
      pub step_noted : contradicting (outcomes z b c) ≡ [] →
          probe_step z (probing b q ns s) ≡ more (probing b r (set ns c (some (solving (outcomes z b c)))) (assumed_all c (colours (at b c)) s))
      step_noted f = rw (e, probe_step, f, judge)

      -- some colours contradict
      pub step_judged : (xs : List Colour) → contradicting (outcomes z b c) ≡ xs →
          probe_step z (probing b q ns s) ≡ judge z b c r ns (assumed_all c (colours (at b c)) s) (solving (outcomes z b c)) xs
      step_judged xs f = rw (e, probe_step, f)

  -- ## A run starts with a new round

  module _ (b : Board) (q : CellQueue) (s : Run) where
    pub probe_solved : solved b ≡ true → probe z b q s ≡ probed b (no_notes b) s
    unfolding probe
    probe_solved e = rw (e, probe, new_round)

    pub probe_starts : solved b ≡ false → probe z b q s ≡ probe_on z (probing b q (no_notes b) s)
    unfolding probe
    probe_starts e = rw (e, probe, new_round)
