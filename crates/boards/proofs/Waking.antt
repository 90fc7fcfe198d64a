-- The lines that a reduced line makes pending: the set that the code works out is the one of the rules.
use mathlib.Core.Path.{◌≡◌, sym, ap, ap₂, subst, ◌∙◌}
use mathlib.Core.Bool.{Bool, true, not, ◌&&◌, ◌||◌}
use mathlib.Core.List.{List}
use Prim.Native.Nat.{ℕ, ◌-◌, ◌*◌, ◌%◌, ◌^◌, ◌≤◌, ◌<◌}
use native.Mathlib.Omega.{arith}
use lib.Bits.{bit_and, bit_or, or_lt, and_le_l}
use lib.Dec.{eqb}
use lib.ListN.{length, get_or, length-map}
use borrow.Author.Tests.{eqb-true, eq-eqb}
use Rattle.rules.specs.Lists.{any, from}
use Rattle.rules.specs.Sets.{has, lost}
use Rattle.rules.specs.Boards.{Board, at, Puzzle, line_count, line_cells, line_of, crossing}
use Rattle.rules.specs.Propagation.{woken, pend}
use Rattle.rules.proofs.Tests.{and_true, true_and, same_test}
use Rattle.rules.proofs.Lists.{In, any_out, any_in, from_low, map_in}
use Rattle.rules.proofs.Sets.{has-set_of, set_of-has, set_of-low, same_set}
use Rattle.rules.proofs.Boards.{line_low, line_distinct}
use Rattle.rules.proofs.Narrowing.{write_read}
use Rattle.rules.proofs.Propagation.{after, pend_has}
use Rattle.boards.specs.Propagation.{lost_cells, crossed}
use Rattle.boards.proofs.Pending.{has_or, has_except}
use Rattle.boards.proofs.Crossing.{place, line, line_cells_lem, place_in, line_length, line_at_lem, crosses, crossed_in, crossed_of, crossed_low}

module _ (z : Puzzle) (i : ℕ) (on : i < line_count z) (b : Board) (long : length b ≡ z.width * z.height) (new : List ℕ) (same : length new ≡ length (line_of z b i)) where
  -- the board with line i reduced, the set of its cells that lost a colour, and that of the lines that cross it there
  abbrev next : Board
  next = after z b i new

  abbrev gone : ℕ
  gone = lost_cells (line_of z b i) new

  abbrev awake : ℕ
  awake = crossed z.height i gone

  written : line_of z next i ≡ new
  written = write_read b (line_cells z i) new (line_distinct z i on) (λ c m. subst (λ n. c < n) (sym long) (line_low z i on m)) (same ∙ length-map (line_cells z i) (at b))

  gone_at : (j : ℕ) → j < (line z i).len → has gone j ≡ lost (at b (place (line z i) j)) (at next (place (line z i) j))
  unfolding lost_cells
  gone_at j k = has-set_of (length (line_of z b i)) (λ j. lost (get_or (line_of z b i) j 0) (get_or new j 0)) j (let e = line_length z i b in omega arith)
      ∙ ap₂ lost (line_at_lem z i b j k) (ap (λ l. get_or l j 0) (sym written) ∙ line_at_lem z i next j k)

  gone_few : (j : ℕ) → has gone j ≡ true → j < (line z i).len
  unfolding lost_cells
  gone_few j e = subst (λ n. j < n) (line_length z i b) (set_of-has (length (line_of z b i)) (λ j. lost (get_or (line_of z b i) j 0) (get_or new j 0)) j e).0

  gone_low : gone < 2 ^ (line z i).len
  unfolding lost_cells
  gone_low = subst (λ n. gone < 2 ^ n) (line_length z i b) (set_of-low (length (line_of z b i)) (λ j. lost (get_or (line_of z b i) j 0) (get_or new j 0)))

  awake_is : (j : ℕ) → has awake j ≡ woken z i b next j
  awake_is j = same_test (has awake j) (woken z i b next j) out back
    where
      test : ℕ → Bool
      test c = eqb (crossing z i c) j && lost (at b c) (at next c)

      out : has awake j ≡ true → any test (line_cells z i) ≡ true
      out e =
          let r = crossed_of z.height i gone j e in
          let k = gone_few r.0 r.2 in
          any_in test (line_cells z i) (place_in z i r.0 k)
          (true_and (eq-eqb (crossing z i (place (line z i) r.0)) j (crosses z i r.0 on k ∙ sym r.1)) (sym (gone_at r.0 k) ∙ r.2))

      back : any test (line_cells z i) ≡ true → has awake j ≡ true
      back e =
          let r = any_out test (line_cells z i) e in
          let m = map_in (place (line z i)) (from 0 (line z i).len) (subst (In r.0) (line_cells_lem z i) r.1) in
          let k : m.0 < (line z i).len = (let l = from_low 0 (line z i).len m.1 in omega arith) in
          let t = and_true (eqb (crossing z i r.0) j) (lost (at b r.0) (at next r.0)) r.2 in
          subst (λ n. has awake n ≡ true) (sym (crosses z i m.0 on k) ∙ ap (crossing z i) (sym m.2) ∙ eqb-true (crossing z i r.0) j t.0)
          (crossed_in z.height i gone m.0 (gone_at m.0 k ∙ ap (λ c. lost (at b c) (at next c)) (sym m.2) ∙ t.1))

  -- the lines pending then
  pub pend_is : (p : ℕ) → p < 2 ^ line_count z → line_count z ≤ 32 →
      bit_or (bit_and p (4294967295 - 1 * 2 ^ i % 4294967296)) (crossed z.height i (lost_cells (line_of z b i) new)) ≡ pend z i b (after z b i new) p
  unfolding pend
  pend_is p few small = same_set (line_count z) (bit_or others awake) (pend z i b next p)
      (or_lt (line_count z) others awake (let e = and_le_l p (4294967295 - 1 * 2 ^ i % 4294967296) in omega arith) (crossed_low z.width z.height i gone gone_low))
      (set_of-low (line_count z) (λ j. (has p j && not (eqb j i)) || woken z i b next j))
      (λ j l. has_or others awake j ∙ ap₂ ◌||◌ (has_except p i j (omega arith) (omega arith)) (awake_is j) ∙ sym (pend_has z i b next p j l))
    where
      others : ℕ
      others = bit_and p (4294967295 - 1 * 2 ^ i % 4294967296)
