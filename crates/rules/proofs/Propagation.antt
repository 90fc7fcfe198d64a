-- Propagating ends by itself, and narrows the board.
use mathlib.Core.Path.{◌≡◌, refl, sym, subst, ◌∙◌}
use mathlib.Core.Logic.{inl, inr}
use mathlib.Core.Bool.{true, false, not, ◌&&◌, ◌||◌}
use mathlib.Core.List.{List}
use mathlib.Core.Option.{Option, none, some}
use Prim.Native.Nat.{ℕ, suc, ◌*◌, ◌≤◌, ◌<◌}
use native.Mathlib.Nat.{mul-le-mul_right}
use native.Mathlib.Omega.{arith}
use lib.ListN.{length, get_or, length-map}
use lib.Dec.{eqb}
use borrow.Author.Tests.{eq-eqb, not-true}
use Rattle.rules.specs.Lists.{any, from}
use Rattle.rules.specs.Loops.{Turn, more, stop, Holds, Falls}
use Rattle.rules.specs.Sets.{has, members, set_of, lost}
use Rattle.rules.specs.Lines.{reduce}
use Rattle.rules.specs.Boards.{Board, Cell, at, size, Puzzle, line_count, row_of, column_of, line_cells, line_of, clue_at, crossing}
use Rattle.rules.specs.Propagation.{Pending, pending, write, next, woken, pend, reduced, propagate_step, propagate_measure, propagate_on, propagate}
use Rattle.rules.proofs.Tests.{on_option, by_test, clash, and_true, or_true}
use Rattle.rules.proofs.Lists.{keep_few, keep_less, any_out, any_in, first_some, length_from, from_low, below, get_or-map}
use Rattle.rules.proofs.Loops.{run_is, run_more, run_stop, run_ends}
use Rattle.rules.proofs.Sets.{has-set_of}
use Rattle.rules.proofs.Lines.{Bytes, reduce_under}
use Rattle.rules.proofs.Narrowing.{◌⊑◌, ⊑_refl, ⊑_trans, write_sub, sub_size, lost_less}

module _ (z : Puzzle) where
  -- what line i's reducing leaves of the board
  abbrev pub after : Board → ℕ → List ℕ → Board
  after b i sets = write b (line_cells z i) sets

  pub after_sub : (b : Board) (i : ℕ) (sets : List ℕ) → reduce (clue_at z i) (line_of z b i) ≡ some sets → after b i sets ⊑ b
  after_sub b i sets e = write_sub b b (line_cells z i) sets (⊑_refl b) (reduce_under (clue_at z i) (line_of z b i) sets e)

  -- lines of a board of bytes
  pub line_bytes_lem : (b : Board) (i : ℕ) → ((c : Cell) → at b c < 256) → Bytes (line_of z b i)
  line_bytes_lem b i h j l = subst (λ s. s < 256) (sym (get_or-map (at b) (line_cells z i) j 0 0 (let e = length-map (line_cells z i) (at b) in omega arith))) (h (get_or (line_cells z i) j 0))

  -- the pending lines, one by one
  pub pend_has : (i : ℕ) (b a : Board) (p j : ℕ) → j < line_count z → has (pend z i b a p) j ≡ ((has p j && not (eqb j i)) || woken z i b a j)
  unfolding pend
  pend_has i b a p j h = has-set_of (line_count z) (λ j. (has p j && not (eqb j i)) || woken z i b a j) j h

  pub next_some : (p i : ℕ) → next z p ≡ some i → (i < line_count z) × (has p i ≡ true)
  next_some p i e = let r = first_some (has p) (from 0 (line_count z)) e in let l = from_low 0 (line_count z) r.0 in (omega arith, r.1)

  -- where no cell lost a colour nothing is made pending, and a line fewer is pending
  quiet_fewer : (a b : Board) (p i : ℕ) → i < line_count z → has p i ≡ true → any (λ c. lost (at b c) (at a c)) (line_cells z i) ≡ false →
      length (members (line_count z) (pend z i b a p)) < length (members (line_count z) p)
  unfolding members
  quiet_fewer a b p i l h n =
      keep_less (has (pend z i b a p)) (has p) (from 0 (line_count z)) (λ j m. still j (let r = from_low 0 (line_count z) m in omega arith)) (below (line_count z) i l) gone h
    where
      asleep : (j : ℕ) → woken z i b a j ≡ true → ⊥
      asleep j w = let r = any_out (λ c. eqb (crossing z i c) j && lost (at b c) (at a c)) (line_cells z i) w in
          clash (any_in (λ c. lost (at b c) (at a c)) (line_cells z i) r.1 (and_true (eqb (crossing z i r.0) j) (lost (at b r.0) (at a r.0)) r.2).1) n

      still : (j : ℕ) → j < line_count z → has (pend z i b a p) j ≡ true → has p j ≡ true
      still j k e = elim (or_true (has p j && not (eqb j i)) (woken z i b a j) (sym (pend_has i b a p j k) ∙ e))
          [ inl q ↦ (and_true (has p j) (not (eqb j i)) q).0 | inr q ↦ absurd (asleep j q) ]

      gone : has (pend z i b a p) i ≡ false
      gone = by_test (has (pend z i b a p) i)
          (λ e. elim (or_true (has p i && not (eqb i i)) (woken z i b a i) (sym (pend_has i b a p i l) ∙ e))
          [ inl q ↦ clash (eq-eqb i i refl) (not-true (eqb i i) (and_true (has p i) (not (eqb i i)) q).1) | inr q ↦ absurd (asleep i q) ])
          (λ e. e)

  members_few : (p : ℕ) → length (members (line_count z) p) ≤ line_count z
  unfolding members
  members_few p = let k = keep_few (has p) (from 0 (line_count z)) in let l = length_from 0 (line_count z) in omega arith

  -- whichever pending line is reduced, a colour goes from the board or a line fewer is pending
  pub turn_smaller : (b : Board) (p i : ℕ) (sets : List ℕ) → i < line_count z → has p i ≡ true → reduce (clue_at z i) (line_of z b i) ≡ some sets →
      propagate_measure z (pending (after b i sets) (pend z i b (after b i sets) p)) < propagate_measure z (pending b p)
  turn_smaller b p i sets l h e =
      let a = after b i sets in
      let s : a ⊑ b = after_sub b i sets e in
      by_test (any (λ c. lost (at b c) (at a c)) (line_cells z i))
      (λ t. let r = any_out (λ c. lost (at b c) (at a c)) (line_cells z i) t in
      let k : size a < size b = lost_less a b r.0 s r.2 in
      let q : suc (size a) * suc (line_count z) ≤ size b * suc (line_count z) = mul-le-mul_right (suc (line_count z)) k in
      omega (arith, members_few (pend z i b a p)))
      (λ t. let q : size a * suc (line_count z) ≤ size b * suc (line_count z) = mul-le-mul_right (suc (line_count z)) (sub_size a b s) in
      omega (arith, quiet_fewer a b p i l h t))

  Smaller : ℕ → Turn Pending (Option Board) → Type 0
  Smaller m = Holds (λ t. propagate_measure z t < m) (λ r. Unit {0})

  reduced_smaller : (b : Board) (p i : ℕ) → i < line_count z → has p i ≡ true → (r : Option (List ℕ)) → reduce (clue_at z i) (line_of z b i) ≡ r →
      Smaller (propagate_measure z (pending b p)) (reduced z b p i r)
  unfolding Smaller
  reduced_smaller b p i l h none e = tt
  reduced_smaller b p i l h (some sets) e = turn_smaller b p i sets l h e

  -- PROPAGATING ENDS
  pub propagate_falls : Falls (propagate_step z) (propagate_measure z)
  unfolding Smaller
  propagate_falls (pending b p) = on_option (Smaller (propagate_measure z (pending b p))) (next z p) (λ _. tt)
      (λ i e. let r = next_some p i e in reduced_smaller b p i r.0 r.1 (reduce (clue_at z i) (line_of z b i)) refl)

  -- the equation that determines it
  pub propagate_turn : (t : Pending) → propagate_on z t ≡ (elim (propagate_step z t) as (λ _. Option Board) [ more u ↦ propagate_on z u | stop r ↦ r ])
  unfolding propagate_on
  propagate_turn t = run_is (propagate_step z) (propagate_measure z) propagate_falls (λ u. none) t

  -- one step of it, and the last
  pub propagate_more : (t : Pending) {u : Pending} → propagate_step z t ≡ more u → propagate_on z t ≡ propagate_on z u
  unfolding propagate_on
  propagate_more t {u} e = run_more (propagate_step z) (propagate_measure z) propagate_falls (λ s. none) t u e

  pub propagate_stop : (t : Pending) {r : Option Board} → propagate_step z t ≡ stop r → propagate_on z t ≡ r
  unfolding propagate_on
  propagate_stop t {r} e = run_stop (propagate_step z) (propagate_measure z) propagate_falls (λ s. none) t r e

  pub propagate_less : (t : Pending) {u : Pending} → propagate_step z t ≡ more u → propagate_measure z u < propagate_measure z t
  propagate_less t e = subst (Holds (λ u. propagate_measure z u < propagate_measure z t) (λ r. Unit {0})) e (propagate_falls t)

  -- ## Propagating narrows

  module _ (b₀ : Board) where
    abbrev Below : Pending → Type 0
    Below (pending b p) = b ⊑ b₀

    abbrev Ends : Option Board → Type 0
    Ends none = Unit {0}
    Ends (some b) = b ⊑ b₀

    reduced_below : (b : Board) (p i : ℕ) → b ⊑ b₀ → (r : Option (List ℕ)) → reduce (clue_at z i) (line_of z b i) ≡ r → Holds Below Ends (reduced z b p i r)
    reduced_below b p i h none e = tt
    reduced_below b p i h (some sets) e = ⊑_trans (after_sub b i sets e) h

    step_below : (t : Pending) → Below t → Holds Below Ends (propagate_step z t)
    step_below (pending b p) h = on_option (Holds Below Ends) (next z p) (λ _. h) (λ i e. reduced_below b p i h (reduce (clue_at z i) (line_of z b i)) refl)

    ends_below : (c : Cell) → Ends (propagate z b₀ c)
    unfolding propagate propagate_on
    ends_below c = run_ends (propagate_step z) (propagate_measure z) propagate_falls Below Ends step_below (λ t. none)
        (pending b₀ (set_of (line_count z) (λ j. eqb j (row_of z c) || eqb j (column_of z c)))) (⊑_refl b₀)

  pub propagate_sub : (a b : Board) (c : Cell) → propagate z b c ≡ some a → a ⊑ b
  propagate_sub a b c e = subst (Ends b) e (ends_below b c)
