-- Order does not matter in propagation: whichever pending line is the next, it comes to a contradiction, or to one and the same board.
-- A run that ends leaves each line stable, that is, reduced to itself, or as it was at the start and never pending. Any other run stays above the board at that end: a line that is
-- pending there was pending in the first run or has lost a colour in it, so it is stable at its end, and the wider line reduces to a wider one, with no contradiction.
use mathlib.Core.Path.{◌≡◌, refl, sym, ap, subst, ◌∙◌}
use mathlib.Core.Logic.{◌⊎◌, inl, inr, ◌≢◌}
use mathlib.Core.Bool.{true, false, not, ◌&&◌}
use mathlib.Core.List.{List}
use mathlib.Core.Option.{Option, none, some}
use Prim.Native.Nat.{ℕ, ◌<◌}
use native.Mathlib.Omega.{arith}
use lib.ListN.{length-map}
use lib.Dec.{eqb}
use borrow.Author.Tests.{eqb-true, eq-eqb, ne_eqb}
use Rattle.rules.specs.Lists.{any, from}
use Rattle.rules.specs.Loops.{Holds}
use Rattle.rules.specs.Sets.{has, lost}
use Rattle.rules.specs.Lines.{reduce}
use Rattle.rules.specs.Boards.{Board, Cell, at, Puzzle, line_count, line_cells, line_of, clue_at, crossing}
use Rattle.rules.specs.Propagation.{Pending, pending, next, woken, pend, reduced, propagate_step, propagate_measure, propagate_on, propagate}
use Rattle.rules.specs.Promises.{◌⊑◌, lines_of, Reaches, ended, contradicted, onward, AnyOrder}
use Rattle.rules.proofs.Tests.{on_option, by_test, by_equal, clash, and_true, true_and, or_true, true_or}
use Rattle.rules.proofs.Lists.{In, any_out, any_in, first_none, in_or_not, map_same, map_agree, below}
use Rattle.rules.proofs.Loops.{run_ends}
use Rattle.rules.proofs.Sets.{lost_out, lost_none}
use Rattle.rules.proofs.Boards.{Sized, line_low, line_distinct, lines_cross, crossing_line}
use Rattle.rules.proofs.Lines.{Above, reduce_length, reduce_narrower, reduce_again}
use Rattle.rules.proofs.Narrowing.{⊑_refl, ⊑_trans, ⊑_same, sub_low, sub_under, write_above, write_other, write_read}
use Rattle.rules.proofs.Propagation.{after, after_sub, line_bytes_lem, pend_has, next_some, propagate_falls}

module _ (z : Puzzle) where
  -- each cell is a byte
  abbrev BytesOn : Board → Type 0
  BytesOn b = (c : Cell) → at b c < 256

  -- a line that is reduced to itself
  abbrev Stable : Board → ℕ → Type 0
  Stable b i = reduce (clue_at z i) (line_of z b i) ≡ some (line_of z b i)

  -- a run that has come to no contradiction, and to no narrower board
  abbrev StaysAbove : Board → Option Board → Type 0
  StaysAbove a none = ⊥
  StaysAbove a (some b) = a ⊑ b

  -- a line is made pending where one of its cells has lost a colour
  pend_lost : (j i : ℕ) (b a : Board) (p : ℕ) {c : Cell} → i < line_count z → In c (line_cells z j) → crossing z j c ≡ i → lost (at b c) (at a c) ≡ true → has (pend z j b a p) i ≡ true
  pend_lost j i b a p {c} h m e l = pend_has z j b a p i h ∙ true_or (has p i && not (eqb i j)) (woken z j b a i)
      (inr (any_in (λ c. eqb (crossing z j c) i && lost (at b c) (at a c)) (line_cells z j) m (true_and (eq-eqb (crossing z j c) i e) l)))

  pend_still : (j i : ℕ) (b a : Board) (p : ℕ) → i < line_count z → i ≢ j → has p i ≡ true → has (pend z j b a p) i ≡ true
  pend_still j i b a p h d e = pend_has z j b a p i h ∙ true_or (has p i && not (eqb i j)) (woken z j b a i) (inl (true_and e (ap not (ne_eqb i j d))))

  -- ## What a run leaves of the lines

  module _ (b₀ : Board) (p₀ : ℕ) (sized : Sized z b₀) (bytes : BytesOn b₀) where
    -- a line that was not pending at the start, and is as it was then
    abbrev Untouched : Board → ℕ → Type 0
    Untouched b i = (has p₀ i ≡ false) × (line_of z b i ≡ line_of z b₀ i)

    abbrev AtRest : Board → ℕ → Type 0
    AtRest b i = Stable b i ⊎ Untouched b i

    record Running (b : Board) (p : ℕ) : Type 0 where
      sub : b ⊑ b₀
      each : (i : ℕ) → i < line_count z → (has p i ≡ true) ⊎ AtRest b i

    small : {b : Board} → b ⊑ b₀ → BytesOn b
    small h c = sub_low c 256 h (bytes c)

    step : (b : Board) (p j : ℕ) (sets : List ℕ) → j < line_count z → Running b p → reduce (clue_at z j) (line_of z b j) ≡ some sets → Running (after z b j sets) (pend z j b (after z b j sets) p)
    step b p j sets h r e = record { sub = ⊑_trans narrower r.sub; each = λ i l. by_equal i j (λ q. inr (inl (subst (Stable a) (sym q) itself))) (λ q. other i l q) }
      where
        a : Board
        a = after z b j sets

        narrower : a ⊑ b
        narrower = after_sub z b j sets e

        -- the reduced line reads as it was written, and is stable
        written : line_of z a j ≡ sets
        written = write_read b (line_cells z j) sets (line_distinct z j h) (λ c m. let k = line_low z j h m in let n = r.sub.long in omega arith)
            (reduce_length (clue_at z j) (line_of z b j) sets e ∙ length-map (line_cells z j) (at b))

        itself : Stable a j
        itself = rw written (reduce_again (clue_at z j) (line_of z b j) sets (line_bytes_lem z b j (small r.sub)) e)

        -- another line that has lost no colour is as it was
        same_line : (i : ℕ) → any (λ c. lost (at b c) (at a c)) (line_cells z i) ≡ false → line_of z a i ≡ line_of z b i
        same_line i u = map_same (at a) (at b) (line_cells z i)
            (λ c m. lost_none (at b c) (at a c) (small r.sub c) (narrower.each c)
            (by_test (lost (at b c) (at a c)) (λ v. clash (any_in (λ c. lost (at b c) (at a c)) (line_cells z i) m v) u) (λ v. v)))

        -- and one that has crosses the reduced line there
        on_line : (c : Cell) → lost (at b c) (at a c) ≡ true → In c (line_cells z j)
        on_line c u = elim (in_or_not c (line_cells z j)) [
          | inl m ↦ m
          | inr m ↦ (let q = lost_out (at b c) (at a c) u in clash q.2 (ap (λ s. has s q.0) (sym (write_other b (line_cells z j) sets c m)) ∙ q.3))
        ]

        other : (i : ℕ) → i < line_count z → i ≢ j → (has (pend z j b a p) i ≡ true) ⊎ AtRest a i
        other i l d = by_test (any (λ c. lost (at b c) (at a c)) (line_cells z i))
            (λ u. let q = any_out (λ c. lost (at b c) (at a c)) (line_cells z i) u in let m = on_line q.0 q.2 in
            inl (pend_lost j i b a p l m (lines_cross z j i h l (λ k. d (sym k)) m q.1) q.2))
            (λ u. let q = same_line i u in elim (r.each i l) [
              | inl v ↦ inl (pend_still j i b a p l d v)
              | inr v ↦ inr (elim v [ inl k ↦ inl (rw q k) | inr k ↦ inr (k.0, q ∙ k.1) ])
            ])

    -- what a run has come to
    abbrev ComesTo : Option Board → Type 0
    ComesTo none = Unit {0}
    ComesTo (some a) = (a ⊑ b₀) × ((i : ℕ) → i < line_count z → AtRest a i)

    run_ended : {b : Board} {p : ℕ} {r : Option Board} → Reaches z b p r → Running b p → ComesTo r
    run_ended (ended f) i = (i.sub, λ j h. elim (i.each j h) [ inl e ↦ clash e (f j h) | inr k ↦ k ])
    run_ended (contradicted j h m e) i = tt
    run_ended (onward {b = b} {p = p} j sets h m e w) i = run_ended w (step b p j sets h i e)

    -- ## Any other run stays above

    module _ (a : Board) (sub : a ⊑ b₀) (each : (i : ℕ) → i < line_count z → AtRest a i) where
      record Higher (b : Board) (p : ℕ) : Type 0 where
        above : a ⊑ b
        below₀ : b ⊑ b₀
        stable : (i : ℕ) → i < line_count z → has p i ≡ true → Stable a i

      -- a stable line is no wider than what a line above it reduces to
      wider : {b : Board} {p : ℕ} (j : ℕ) → Higher b p → j < line_count z → has p j ≡ true → Above (line_of z a j) (reduce (clue_at z j) (line_of z b j))
      wider {b} j k h m = reduce_narrower (clue_at z j) (line_of z a j) (line_of z b j) (line_of z a j) (line_bytes_lem z a j (small sub)) (line_bytes_lem z b j (small k.below₀)) (sub_under (line_cells z j) k.above) (k.stable j h m)

      higher_step : (b : Board) (p j : ℕ) (sets : List ℕ) → Higher b p → j < line_count z → has p j ≡ true → reduce (clue_at z j) (line_of z b j) ≡ some sets →
          Higher (after z b j sets) (pend z j b (after z b j sets) p)
      higher_step b p j sets k h m e = record { above = over; below₀ = ⊑_trans (after_sub z b j sets e) k.below₀; stable = stable }
        where
          over : a ⊑ after z b j sets
          over = write_above a b (line_cells z j) sets k.above (subst (Above (line_of z a j)) e (wider j k h m))

          -- a line that has lost a colour since the start is not as it was
          moved : (i : ℕ) {c : Cell} → i < line_count z → In c (line_cells z i) → lost (at b c) (at (after z b j sets) c) ≡ true → AtRest a i → Stable a i
          moved i l n u (inl v) = v
          moved i {c} l n u (inr v) = let q = lost_out (at b c) (at (after z b j sets) c) u in let x = q.0 in
              clash (over.each c x (subst (λ s. has s x ≡ true) (sym (map_agree (at a) (at b₀) (line_cells z i) v.1 n)) (k.below₀.each c x q.2))) q.3

          stable : (i : ℕ) → i < line_count z → has (pend z j b (after z b j sets) p) i ≡ true → Stable a i
          stable i l u = elim (or_true (has p i && not (eqb i j)) (woken z j b (after z b j sets) i) (sym (pend_has z j b (after z b j sets) p i l) ∙ u)) [
            | inl v ↦ k.stable i l (and_true (has p i) (not (eqb i j)) v).0
            | inr v ↦ (
                let q = any_out (λ c. eqb (crossing z j c) i && lost (at b c) (at (after z b j sets) c)) (line_cells z j) v in
                let t = and_true (eqb (crossing z j q.0) i) (lost (at b q.0) (at (after z b j sets) q.0)) q.2 in
                moved i l (subst (λ n. In q.0 (line_cells z n)) (eqb-true (crossing z j q.0) i t.0) (crossing_line z j h q.1).1) t.1 (each i l))
          ]

      stays_above : {b : Board} {p : ℕ} {r : Option Board} → Reaches z b p r → Higher b p → StaysAbove a r
      stays_above (ended f) k = k.above
      stays_above (contradicted j h m e) k = subst (Above (line_of z a j)) e (wider j k h m)
      stays_above (onward {b = b} {p = p} j sets h m e w) k = stays_above w (higher_step b p j sets k h m e)

    above_other : (a : Board) {r : Option Board} → Reaches z b₀ p₀ (some a) → Reaches z b₀ p₀ r → StaysAbove a r
    above_other a v w =
        let start : Running b₀ p₀ = record { sub = ⊑_refl b₀; each = λ i _. by_test (has p₀ i) (λ e. inl e) (λ e. inr (inr (e, refl))) } in
        let e = run_ended v start in
        stays_above a e.0 e.1 w (record { above = e.0; below₀ = ⊑_refl b₀; stable = λ i h m. elim (e.1 i h) [ inl u ↦ u | inr u ↦ clash m u.0 ] })

    -- any two runs come to the same
    pub same_end : (r q : Option Board) → Reaches z b₀ p₀ r → Reaches z b₀ p₀ q → r ≡ q
    same_end none none v w = refl
    same_end none (some e) v w = absurd (above_other e w v)
    same_end (some a) none v w = absurd (above_other a v w)
    same_end (some a) (some e) v w = ap some (⊑_same (above_other a v w) (above_other e w v))

  -- ## The order of the rules is one of them

  module _ (b₀ : Board) (p₀ : ℕ) where
    abbrev OnTheWay : Pending → Type 0
    OnTheWay (pending b p) = (r : Option Board) → Reaches z b p r → Reaches z b₀ p₀ r

    abbrev There : Option Board → Type 0
    There r = Reaches z b₀ p₀ r

    reduced_way : (b : Board) (p i : ℕ) → i < line_count z → has p i ≡ true → OnTheWay (pending b p) → (r : Option (List ℕ)) → reduce (clue_at z i) (line_of z b i) ≡ r → Holds OnTheWay There (reduced z b p i r)
    reduced_way b p i h m f none e = f none (contradicted i h m e)
    reduced_way b p i h m f (some sets) e = λ r w. f r (onward i sets h m e w)

    step_way : (t : Pending) → OnTheWay t → Holds OnTheWay There (propagate_step z t)
    step_way (pending b p) f = on_option (Holds OnTheWay There) (next z p)
        (λ e. f (some b) (ended (λ i h. first_none (has p) (from 0 (line_count z)) e (below (line_count z) i h))))
        (λ i e. let q = next_some z p i e in reduced_way b p i q.0 q.1 f (reduce (clue_at z i) (line_of z b i)) refl)

    pub propagate_on-reaches : Reaches z b₀ p₀ (propagate_on z (pending b₀ p₀))
    unfolding propagate_on
    propagate_on-reaches = run_ends (propagate_step z) (propagate_measure z) (propagate_falls z) OnTheWay There step_way (λ t. none) (pending b₀ p₀) (λ r w. w)

  -- ORDER DOES NOT MATTER IN PROPAGATION, on a board of the puzzle's size whose cells are bytes; and every order ends, since each turn makes the measure smaller (`turn_smaller`)
  pub any_order : (b : Board) (c : Cell) → Sized z b → ((e : Cell) → at b e < 256) → AnyOrder z b c
  unfolding propagate
  any_order b c e h r w = same_end b (lines_of z c) e h r (propagate_on z (pending b (lines_of z c))) w (propagate_on-reaches b (lines_of z c))

  -- and there is an order, that of the rules
  pub some_order : (b : Board) (c : Cell) → Reaches z b (lines_of z c) (propagate z b c)
  unfolding propagate
  some_order b c = propagate_on-reaches b (lines_of z c)
