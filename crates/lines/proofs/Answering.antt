-- Reducing one line that a caller hands over: which number refuses it, what an accepted line comes to, and that there is one answer.
use mathlib.Core.Path.{◌≡◌, refl, ap, sym, subst, ◌∙◌}
use mathlib.Core.Bool.{Bool, true, false}
use mathlib.Core.List.{List, [], ◌∷◌}
use Rattle.std.specs.Prelude.{Option, MatchOption, Result}
use Prim.Native.Nat.{ℕ, ◌-◌, ◌≤◌}
use native.Mathlib.Omega.{arith}
use lib.Dec.{eqb}
use lib.ListN.{length, take, drop, length-append}
use lib.Seq.{take-length}
use borrow.Author.Tests.{eq-eqb, ne_eqb}
use Rattle.rules.specs.Clues.{Clue, regular, pair_bytes, line_bytes, Read, read, broken, whole, read_line, clue_of}
use Rattle.rules.specs.Answers.{LineAnswer, line, line_reduced, reduce_line}
use Rattle.rules.specs.Promises.{LinePromised}
use Rattle.rules.proofs.Clues.{read_line-exact, clue_of-exact}
use Rattle.rules.proofs.Accepting.{few_colours}
use Rattle.rules.proofs.OneLine.{line_few, line_bytes_lem, line_answer, line_promised}
use Rattle.lines.specs.declared.machine.Machine.{Machine}
use Rattle.rules.specs.declared.Refusal.{Refusal}
use Rattle.lines.specs.declared.single.Reduction.{Reduction}
use Rattle.lines.specs.declared.single.Reduction.TheVariants.{Reduced, Contradiction}
use Rattle.lines.specs.Answering.{Accepted, reduction_number, line_number}
use Rattle.lines.specs.Layout.{line_read, given}
use Rattle.lines.specs.Machines.{clue_in, Legal, machine_of, reduce_by, Became}
use Rattle.lines.proofs.Reading.{pairs_legal, pairs_clue}
use Rattle.lines.proofs.Reducing.{machine_reduces}

-- ## Whether the bytes are one clue

-- a line is read that ends where the bytes end
pub whole_given : (k : ℕ) (bytes : List ℕ) (r : Option ℕ) (v : Bool) {P : ℕ → Type 0} → r ≡ line_read (length bytes) (read_line k bytes) → MatchOption r (v ≡ false) P → ((end : ℕ) → P end → v ≡ eqb end (length bytes)) →
    v ≡ given (clue_of k bytes)
unfolding clue_of
whole_given k bytes r v {P} is h ends = go (read_line k bytes) refl (subst (λ x. MatchOption x (v ≡ false) P) is h)
  where
    go : (x : Read Clue) → read_line k bytes ≡ x → MatchOption (line_read (length bytes) x) (v ≡ false) P → v ≡ given (whole x)
    go broken e q = q
    go (read clue []) e q = ends (length bytes - 0) q ∙ eq-eqb (length bytes - 0) (length bytes) (omega arith)
    go (read clue (x ∷ rest)) e q =
        let n = ap length ((read_line-exact k bytes clue (x ∷ rest)).0 e).1 ∙ length-append (line_bytes clue) (x ∷ rest) in
        ends (length bytes - length (x ∷ rest)) q ∙ ne_eqb (length bytes - length (x ∷ rest)) (length bytes) (λ z. omega arith)

-- ## An accepted line

module _ (k : ℕ) (bytes cells : List ℕ) (a : Accepted k bytes cells) where
  abbrev clue : Clue
  clue = a.0

  pub few_cells : length cells ≤ 16
  few_cells = line_few k bytes cells clue a.1

  clue_read : (regular k clue ≡ true) × (bytes ≡ line_bytes clue)
  clue_read = (clue_of-exact k bytes clue).0 a.1.read

  pub some_bytes : 1 ≤ length bytes
  some_bytes = omega (arith, ap length clue_read.1)

  -- the bytes after the count are the clue's pairs
  pairs_read : take (length bytes - 1) (drop 1 bytes) ≡ pair_bytes clue
  pairs_read =
      let z : length bytes - 1 ≡ length (pair_bytes clue) = omega (arith, ap length clue_read.1) in
      ap (λ n. take n (drop 1 bytes)) z ∙ ap (λ l. take (length (pair_bytes clue)) (drop 1 l)) clue_read.1 ∙ take-length (pair_bytes clue)

  pub pairs_accepted : Legal (take (length bytes - 1) (drop 1 bytes))
  pairs_accepted = pairs_legal k clue (take (length bytes - 1) (drop 1 bytes)) (omega (arith, few_colours k a.1.colours)) clue_read.0 pairs_read

  answer_is : (m : Machine) → m ≡ machine_of (clue_in (take (length bytes - 1) (drop 1 bytes))) → line_reduced cells (reduce_by m cells) ≡ reduce_line k bytes cells
  answer_is m e =
      ap (λ o. line_reduced cells o)
      (ap (λ x. reduce_by x cells) (e ∙ ap machine_of (pairs_clue clue (take (length bytes - 1) (drop 1 bytes)) pairs_read))
      ∙ machine_reduces k clue cells (omega (arith, few_colours k a.1.colours)) clue_read.0 few_cells (line_bytes_lem k bytes cells clue a.1))
      ∙ line_answer k bytes cells clue a.1

  -- reduced by the clue's machine, the line is answered as the rules say
  pub came : (m : Machine) (reduction : Reduction) (out : List ℕ) → m ≡ machine_of (clue_in (take (length bytes - 1) (drop 1 bytes))) → Became (reduce_by m cells) cells (eqb (reduction_number reduction) 1) out →
      line (reduction_number reduction) out ≡ reduce_line k bytes cells
  came m Reduced out e h = ap (λ o. line_reduced cells o) (sym h) ∙ answer_is m e
  came m Contradiction out e h = ap (λ l. line 3 l) h.1 ∙ ap (λ o. line_reduced cells o) (sym h.0) ∙ answer_is m e

-- ## The promise

-- what the rules answer keeps the promise
pub promised : (k : ℕ) (bytes cells : List ℕ) {r : LineAnswer} → r ≡ reduce_line k bytes cells → LinePromised k bytes cells r
promised k bytes cells e = subst (λ r. LinePromised k bytes cells r) (sym e) (line_promised k bytes cells)

-- ## One answer

-- two results that the contract of `reduce_line` allows for one input are equal: the number, and every byte; and with the number what came of the line, or why it is refused
pub one_answer : (k : ℕ) (bytes cells : List ℕ) (n m : ℕ) (a b : List ℕ) → line n a ≡ reduce_line k bytes cells → line m b ≡ reduce_line k bytes cells → (n ≡ m) × (a ≡ b)
one_answer k bytes cells n m a b p q = let e : line n a ≡ line m b = p ∙ sym q in (ap (λ x. x.number) e, ap (λ x. x.cells) e)

pub one_result : (k : ℕ) (bytes cells : List ℕ) (r s : Result Reduction Refusal) (a b : List ℕ) → line (line_number r) a ≡ reduce_line k bytes cells → line (line_number s) b ≡ reduce_line k bytes cells → (r ≡ s) × (a ≡ b)
one_result k bytes cells r s a b p q = let e : (line_number r ≡ line_number s) × (a ≡ b) = one_answer k bytes cells (line_number r) (line_number s) a b p q in (grind arith, e.1)
