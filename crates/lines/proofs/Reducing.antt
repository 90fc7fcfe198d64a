-- A clue's machine reduces a line as the rules say: `machine_reduces`.
use mathlib.Core.Path.{◌≡◌, refl, ap, ap₂, sym, ◌∙◌, subst}
use mathlib.Core.Bool.{true, false}
use mathlib.Core.List.{List, [], ◌∷◌, ◌++◌}
use mathlib.Core.Option.{Option, none, some}
use Prim.Native.Nat.{ℕ, zero, suc, ◌/◌, ◌%◌, ◌≤◌, ◌<◌}
use native.Mathlib.Omega.{arith}
use lib.Bits.{bit_and, bit_or, and_zero_r, or_lt}
use lib.Dec.{eqb, leb}
use lib.ListN.{length, get_or, length-append, length-replicate}
use borrow.Author.Tests.{eqb-true, eqb-false, leb-false}
use Rattle.rules.specs.Sets.{Colour, ◌∋◌}
use Rattle.rules.specs.Clues.{Clue, regular}
use Rattle.rules.specs.Lines.{cells_of, between, Meets, nothing, blank, block, Arranged, Possible, Reduced, Reduces, reduce}
use Rattle.rules.proofs.Tests.{on_test}
use Rattle.rules.proofs.Sets.{bit_zero}
use Rattle.rules.proofs.Lines.{from_length, Bytes, BytesIn, reduces_is}
use Rattle.lines.specs.declared.machine.Machine.{Machine}
use Rattle.lines.specs.Machines.{sign, stays, goes, before, moves, keeps, ends, kept, after, reduce_by, machine, closed, need, machine_of, Coloured}
use Rattle.lines.proofs.Masks.{bit_digit, digit_only, sign_le, moves_le}
use Rattle.lines.proofs.Runs.{Run, ends_in, ends_of, kept_in, kept_of, kept_length}
use Rattle.lines.proofs.Accepting.{coloured, meets_run, run_meets}

-- ## The clue's machine

module _ (clue : Clue) (sets : List ℕ) (ok : Coloured clue) where
  arranged : ends (machine clue) sets ∋ 0 → Arranged clue sets
  arranged h = let r = ends_of (machine clue) sets 0 h in record { line = r.0; meets = run_meets clue ok r.2; taken = r.1 }

  ends_arranged : Arranged clue sets → ends (machine clue) sets ∋ 0
  ends_arranged a = ends_in (machine clue) a.taken (meets_run ok a.meets)

  reduced : Reduced clue sets (kept (machine clue) 1 sets)
  reduced = record { same = kept_length (machine clue) 1 sets; exact = λ i c h. (out i c h, back i c h) }
    where
      out : (i c : ℕ) → i < length sets → get_or (kept (machine clue) 1 sets) i 0 ∋ c → Possible clue sets i c
      out i c h t =
          let r = kept_of (machine clue) sets 1 i c h t in
          let e = digit_only 1 r.3.0 (omega arith) r.3.1 in
          record { line = r.0; meets = run_meets clue ok (subst (λ j. Run (machine clue) j r.0) e.0 r.3.2); taken = r.1; there = r.2 }

      back : (i c : ℕ) → i < length sets → Possible clue sets i c → get_or (kept (machine clue) 1 sets) i 0 ∋ c
      back i c h p = subst (λ x. get_or (kept (machine clue) 1 sets) i 0 ∋ x) p.there (kept_in (machine clue) 1 i p.taken (meets_run ok p.meets) (bit_digit 1 (omega arith)) h)

  machine_is : Reduces clue sets (reduce_by (machine clue) sets)
  unfolding reduce_by
  machine_is = on_test (Reduces clue sets) (eqb (ends (machine clue) sets % 2) 1)
      (λ e. (arranged (bit_zero (ends (machine clue) sets) ∙ eqb-true (ends (machine clue) sets % 2) 1 e), reduced))
      (λ e a. eqb-false (ends (machine clue) sets % 2) 1 e (sym (bit_zero (ends (machine clue) sets)) ∙ ends_arranged a))

-- ## A clue too long for any line

-- a line that meets a clue has the cells that the clue needs
pub meets_need : {clue : Clue} {line : List Colour} → Meets clue line → need clue ≤ length line
unfolding need
meets_need nothing = omega arith
meets_need (blank r) = omega (arith, meets_need r)
meets_need (block {b = b} {clue = clue} {line = line} r) =
    omega (arith, meets_need r, length-append (cells_of b) (between b clue ++ line), length-append (between b clue) line, length-replicate b.cells b.colour)

closed_ends : (sets : List ℕ) → ends closed sets ≡ 0
unfolding ends before
closed_ends [] = refl
closed_ends (s ∷ sets) =
    ap (λ x. bit_or (bit_and (stays closed s) x) (bit_and (goes closed.by s) (x / 2))) (closed_ends sets)
    ∙ ap₂ bit_or (and_zero_r (stays closed s)) (and_zero_r (goes closed.by s))

closed_none : (sets : List ℕ) → reduce_by closed sets ≡ none
unfolding reduce_by
closed_none sets = ap {B = Option (List ℕ)} (λ x. elim (eqb (x % 2) 1) as (λ _. Option (List ℕ)) [ true ↦ some (kept closed 1 sets) | false ↦ none ]) (closed_ends sets)

-- ## The reduced cells are bytes

keeps_low : (m : Machine) (s from to : ℕ) → s < 256 → keeps m s from to < 256
unfolding keeps
keeps_low m s from to h =
    let n = bit_and (bit_and (stays m s) from) to in
    or_lt 8 (moves m.by s (bit_and from (to / 2))) (sign n) (omega (arith, moves_le m.by s (bit_and from (to / 2)))) (omega (arith, sign_le n))

kept_bytes : (m : Machine) (from : ℕ) (sets : List ℕ) → Bytes sets → Bytes (kept m from sets)
unfolding kept
kept_bytes m from [] b i h = absurd (omega arith)
kept_bytes m from (s ∷ sets) b zero h = keeps_low m s from (ends m sets) (b 0 (omega arith))
kept_bytes m from (s ∷ sets) b (suc i) h = kept_bytes m (after m s from) sets (λ i h. b (suc i) (omega arith)) i (omega arith)

pub reduce_by-bytes : (m : Machine) (sets : List ℕ) → Bytes sets → BytesIn (reduce_by m sets)
unfolding reduce_by
reduce_by-bytes m sets b = on_test BytesIn (eqb (ends m sets % 2) 1) (λ e. kept_bytes m 1 sets b) (λ e. tt)

-- ## The law

pub machine_reduces : (k : ℕ) (clue : Clue) (sets : List ℕ) → k < 8 → regular k clue ≡ true → length sets ≤ 16 → Bytes sets → reduce_by (machine_of clue) sets ≡ reduce clue sets
unfolding machine_of
machine_reduces k clue sets h e n b = reduces_is clue sets (reduce_by (machine_of clue) sets) b (reduce_by-bytes (machine_of clue) sets b)
    (on_test (λ m. Reduces clue sets (reduce_by m sets)) (leb (need clue) 16)
    (λ p. machine_is clue sets (coloured k clue h e))
    (λ p. subst (Reduces clue sets) (sym (closed_none sets))
    (λ a. let l = leb-false (need clue) 16 p in omega (arith, meets_need a.meets, from_length a.taken))))
