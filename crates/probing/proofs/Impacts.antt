-- What assuming the colours of a cell comes to, put down colour by colour.
use mathlib.Core.Path.{◌≡◌, refl, sym, ap, ap₂, ◌∙◌}
use mathlib.Core.Bool.{Bool, true, false, ◌&&◌, ◌||◌}
use mathlib.Core.Option.{Option, none, some}
use Prim.Native.Nat.{ℕ, ◌+◌, ◌≤◌, ◌<◌}
use native.Mathlib.Nat.{add-zero}
use native.Mathlib.Omega.{arith}
use lib.Dec.{eqb, ltb}
use lib.ListN.{length, get_or, replicate, length-set}
use lib.Seq.{get_or-set_same, get_or-set_other}
use borrow.Author.Tests.{lt-ltb, le-ltb, eq-eqb, ne_eqb, ltb-true, ltb-false}
use Rattle.rules.specs.Lists.{keep, from, digit}
use Rattle.rules.specs.Sets.{Colour, has, members, colours}
use Rattle.rules.specs.Boards as Rules
use Rattle.rules.specs.Boards.{Cell, at, Puzzle}
use Rattle.rules.specs.Probing.{contradicting, solving, assume, outcomes}
use Rattle.rules.proofs.Tests.{by_test, by_equal, clash, and_all, and_none, or_none}
use Rattle.rules.proofs.Lists.{keep_keep, keep_same, from_low}
use Rattle.rules.proofs.Sets.{has_none, has-set_of, set_of-low, member}
use Rattle.rules.proofs.Counting.{Counted, counted_start, counted_turn, counted_end}
use Rattle.rules.proofs.Rounds.{fails, contradicting_keep, solving_all}
use Rattle.cells.specs.Sets.{including}
use Rattle.notes.specs.Round.{each_of}
use Rattle.probing.specs.declared.probe.Impact.{Impact}
use Rattle.probing.specs.Probing.{with_outcome}

-- ## One colour

-- one colour is assumed if the cell has it
abbrev pub tried : Bool → Colour → Option ℕ → Impact → Impact
tried true x o r = with_outcome x o r
tried false x o r = r

-- those below x that pass a test, and x where it passes
added : (p : ℕ → Bool) (w : Bool) (k x : ℕ) → w ≡ ltb k x && p k → w || (eqb k x && p x) ≡ ltb k (x + 1) && p k
added p w k x h = by_equal k x
    (λ e. rw (h ∙ ap (λ u. u && p k) (le-ltb k x (omega arith)), eq-eqb k x e, lt-ltb k (x + 1) (omega arith)) (ap p (sym e)))
    (λ e. rw (ne_eqb k x e) (or_none w ∙ h ∙ ap (λ u. u && p k) (by_test (ltb k x)
    (λ f. let l = ltb-true k x f in f ∙ sym (lt-ltb k (x + 1) (omega arith)))
    (λ f. let l = ltb-false k x f in f ∙ sym (le-ltb k (x + 1) (omega arith))))))

-- what it changes
module _ (x : Colour) (r : Impact) where
  outcome_low : (v : Bool) (o : Option ℕ) → r.bad < 256 → (tried v x o r).bad < 256
  unfolding including
  outcome_low false o h = h
  outcome_low true none h = set_of-low 8 (λ y. has r.bad y || eqb y x)
  outcome_low true (some n) h = h

  outcome_long : (v : Bool) (o : Option ℕ) → length (tried v x o r).counts ≡ length r.counts
  outcome_long false o = refl
  outcome_long true none = refl
  outcome_long true (some n) = length-set r.counts x n

  outcome_steps : (v : Bool) (o : Option ℕ) → (tried v x o r).steps ≡ r.steps + digit v
  outcome_steps false o = sym (add-zero r.steps)
  outcome_steps true none = refl
  outcome_steps true (some n) = refl

  nothing_more : (k : ℕ) → has r.bad k ≡ has r.bad k || (eqb k x && false)
  nothing_more k = sym (ap (λ w. has r.bad k || w) (and_none (eqb k x)) ∙ or_none (has r.bad k))

  outcome_bad : (v : Bool) (o : Option ℕ) (k : ℕ) → k < 8 → has (tried v x o r).bad k ≡ has r.bad k || (eqb k x && (v && fails o))
  unfolding including
  outcome_bad false o k h = nothing_more k
  outcome_bad true none k h = has-set_of 8 (λ y. has r.bad y || eqb y x) k h ∙ ap (λ w. has r.bad k || w) (sym (and_all (eqb k x)))
  outcome_bad true (some n) k h = nothing_more k

  outcome_here : (v : Bool) (o : Option ℕ) (n : ℕ) → x < length r.counts → v ≡ true → o ≡ some n → get_or (tried v x o r).counts x 0 ≡ n
  outcome_here v o n h e f = rw (e, f) (get_or-set_same r.counts x n 0 h)

  outcome_other : (v : Bool) (o : Option ℕ) (k : ℕ) → (k ≡ x → ⊥) → get_or (tried v x o r).counts k 0 ≡ get_or r.counts k 0
  outcome_other false o k h = refl
  outcome_other true none k h = refl
  outcome_other true (some n) k h = get_or-set_other r.counts x k n 0 h

-- ## All colours

-- the colours before x are assumed: those that contradict are bad, the others are counted
pub record Tried (z : Puzzle) (b : Rules.Board) (c : Cell) (x : ℕ) (r : Impact) : Type 0 where
  pub low : r.bad < 256
  pub long : length r.counts ≡ 8
  pub steps : Counted (has (at b c)) 8 r.steps x
  pub bad : (k : ℕ) → k < 8 → has r.bad k ≡ ltb k x && (has (at b c) k && fails (assume z b c k))
  pub counts : (k n : ℕ) → k < x → has (at b c) k ≡ true → assume z b c k ≡ some n → get_or r.counts k 0 ≡ n

module _ (z : Puzzle) (b : Rules.Board) (c : Cell) where
  pub tried_start : Tried z b c 0 (record { bad = 0; counts = replicate 8 0; steps = 0 })
  tried_start = record {
    low = omega arith;
    long = refl;
    steps = counted_start (has (at b c)) 8;
    bad = λ k h. has_none k ∙ ap (λ v. v && (has (at b c) k && fails (assume z b c k))) (sym (le-ltb k 0 (omega arith)));
    counts = λ k n h. absurd (omega arith);
  }

  module _ (x : ℕ) (r : Impact) (t : Tried z b c x r) where
    v : Bool
    v = has (at b c) x

    o : Option ℕ
    o = assume z b c x

    turn : x < 8 → Tried z b c (x + 1) (tried v x o r)
    unfolding v o
    turn h = record {
      low = outcome_low x r v o t.low;
      long = outcome_long x r v o ∙ t.long;
      steps = rw (outcome_steps x r v o) (counted_turn (has (at b c)) 8 r.steps x t.steps (digit v) h refl);
      bad = λ k l. outcome_bad x r v o k l ∙ added (λ k. has (at b c) k && fails (assume z b c k)) (has r.bad k) k x (t.bad k l);
      counts = λ k n l f g. by_equal k x
          (λ e. ap (λ j. get_or (tried v x o r).counts j 0) e ∙ outcome_here x r v o n (omega (arith, t.long)) (ap (has (at b c)) (sym e) ∙ f) (ap (assume z b c) (sym e) ∙ g))
          (λ e. outcome_other x r v o k e ∙ t.counts k n (omega arith) f g);
    }

    -- the colour was assumed, since the cell has it
    pub tried_has : {a : Impact} {p : Option ℕ} → x < 8 → has (at b c) x ≡ true → p ≡ assume z b c x → a ≡ with_outcome x p r → Tried z b c (x + 1) a
    unfolding turn v o
    tried_has h e f g = rw (g, f) (rw e at (turn h))

    pub tried_lacks : {a : Impact} → x < 8 → has (at b c) x ≡ false → a ≡ r → Tried z b c (x + 1) a
    unfolding turn v o
    tried_lacks h e g = rw g (rw e at (turn h))

    pub tried_bad : 8 ≤ x → contradicting (outcomes z b c) ≡ colours r.bad
    unfolding outcomes members
    tried_bad h =
        contradicting_keep (assume z b c) (keep (has (at b c)) (from 0 8)) ∙ keep_keep (λ k. fails (assume z b c k)) (has (at b c)) (from 0 8)
        ∙ keep_same (λ k. has (at b c) k && fails (assume z b c k)) (has r.bad) (from 0 8)
        (λ k m. let l = from_low 0 8 m in sym (t.bad k l.1 ∙ ap (λ v. v && (has (at b c) k && fails (assume z b c k))) (lt-ltb k x (omega arith))))

    pub tried_good : 8 ≤ x → r.bad ≡ 0 → solving (outcomes z b c) ≡ each_of (at b c) r.counts
    unfolding outcomes
    tried_good h e = solving_all (assume z b c) (λ k. get_or r.counts k 0) (colours (at b c)) (λ k m. let l = member 8 (at b c) m in solved k l.0 l.1 (assume z b c k) refl)
      where
        none_bad : (k : ℕ) → k < 8 → has (at b c) k ≡ true → fails (assume z b c k) ≡ false
        none_bad k l f = sym (ap₂ (λ u w. u && (w && fails (assume z b c k))) (lt-ltb k x (omega arith)) f) ∙ sym (t.bad k l) ∙ ap (λ s. has s k) e ∙ has_none k

        solved : (k : ℕ) → k < 8 → has (at b c) k ≡ true → (o : Option ℕ) → assume z b c k ≡ o → o ≡ some (get_or r.counts k 0)
        solved k l f none g = clash (ap fails g) (none_bad k l f)
        solved k l f (some n) g = ap some (sym (t.counts k n (omega arith) f g))

    pub tried_steps : 8 ≤ x → r.steps ≡ length (colours (at b c))
    unfolding members
    tried_steps h = counted_end (has (at b c)) 8 r.steps x t.steps h
