-- Reading what a caller hands over: one turn of each loop, and what a line that was read right is.
use Rattle.std.proofs.Common.{◌≡◌, refl, ap, sym, ◌∙◌, Bool, true, false, ◌&&◌, List, [], ◌∷◌, ℕ, zero, suc, ◌+◌, ◌-◌, ◌*◌, ◌≤◌, ◌<◌, leb, length, get_or, take, drop, length-append, length-drop, drop_of_length-le, drop-cons, add-one, length-take-le, take-append-drop, drop-drop, take_at, ◌++◌, Some, None, arith, leb-true, le-leb}
use borrow.Author.Tests.{lt-leb}
use Rattle.std.specs.Bool.{then_some}
use Rattle.std.specs.List.{list_all}
use Rattle.std.specs.Simd.{first_chunks}
use Rattle.std.proofs.lemmas.List.Recursion.{same_from_clauses}
use lib.Seq.{drop-append_seam}
use Rattle.rules.specs.Lists.{every}
use Rattle.rules.specs.Clues.{Block, Clue, within, allowed, regular, pair_bytes, line_bytes, Read, read, broken, ahead, read_pairs, read_line}
use Rattle.rules.proofs.Tests.{on_test, and_true, true_and}
use Rattle.rules.proofs.Clues.{read_line-exact}
use Rattle.lines.specs.Layout.{line_read}
use Rattle.lines.specs.Machines.{clue_in, Legal}

-- ## Tests made one after the other

pub then_also : (u v : Bool) → u ≡ true → v ≡ u && v
then_also u v e = rw e

pub then_not : (u v : Bool) → u ≡ false → u ≡ u && v
then_not u v e = rw e

-- ## Cells

pub every_is : (p : ℕ → Bool) (cells : List ℕ) → list_all p cells ≡ every p cells
every_is p = same_from_clauses (list_all p) (every p) (λ x r. p x && r) refl (λ x xs. refl) (λ x xs. refl)

-- ## A line

-- a pair of bytes that the layout allows
abbrev pub pair_allowed : ℕ → List ℕ → Bool
pair_allowed k pair = allowed k (record { colour = get_or pair 0 0; cells = get_or pair 1 0 })

-- a block in front does not change where the line ends
ahead_end : (m : ℕ) (b : Block) (r : Read Clue) → line_read m (ahead b r) ≡ line_read m r
ahead_end m b broken = refl
ahead_end m b (read clue rest) = refl

-- the pairs are not all there
few_broken : (k m n : ℕ) (bytes : List ℕ) → length bytes < 2 * n → line_read m (read_pairs k n bytes) ≡ None
unfolding read_pairs
few_broken k m zero bytes h = absurd (omega arith)
few_broken k m (suc n) [] h = refl
few_broken k m (suc n) (c ∷ []) h = refl
few_broken k m (suc n) (c ∷ l ∷ bytes) h =
    on_test (λ r. line_read m r ≡ None) (pair_allowed k (c ∷ l ∷ [])) (λ e. ahead_end m _ (read_pairs k n bytes) ∙ few_broken k m n bytes (omega arith)) (λ e. refl)

-- they are there, in front of the rest
pairs_read : (k m n : ℕ) (front rest : List ℕ) → length front ≡ 2 * n → line_read m (read_pairs k n (front ++ rest)) ≡ then_some (list_all (pair_allowed k) (first_chunks 2 n front)) (m - length rest)
unfolding read_pairs
pairs_read k m zero [] rest h = refl
pairs_read k m zero (c ∷ front) rest h = absurd (omega arith)
pairs_read k m (suc n) [] rest h = absurd (omega arith)
pairs_read k m (suc n) (c ∷ []) rest h = absurd (omega arith)
pairs_read k m (suc n) (c ∷ l ∷ front) rest h = step (pair_allowed k (c ∷ l ∷ [])) _ _ _ (ahead_end m _ (read_pairs k n (front ++ rest)) ∙ pairs_read k m n front rest (omega arith))
  where
    step : (v u : Bool) (r : Read Clue) (x : ℕ) → line_read m r ≡ then_some u x → line_read m (elim v [ true ↦ r | false ↦ broken ]) ≡ then_some (v && u) x
    step true u r x e = e
    step false u r x e = refl

-- n pairs from byte `at` on: there are fewer bytes, or `part` has their bytes
module _ (k n at : ℕ) (bytes : List ℕ) where
  pub pairs_missing : at ≤ length bytes → length bytes < at + 2 * n → None ≡ line_read (length bytes) (read_pairs k n (drop at bytes))
  pairs_missing l h = sym (few_broken k (length bytes) n (drop at bytes) (omega (arith, length-drop at bytes)))

  pub pairs_there : (part : List ℕ) → at + 2 * n ≤ length bytes → part ≡ take (at + 2 * n - at) (drop at bytes) →
      then_some (list_all (pair_allowed k) (first_chunks 2 n part)) (at + 2 * n) ≡ line_read (length bytes) (read_pairs k n (drop at bytes))
  pairs_there part h e =
      let rest = drop (2 * n) (drop at bytes) in
      let w : at + 2 * n - at ≡ 2 * n = omega arith in
      let p : part ≡ take (2 * n) (drop at bytes) = e ∙ ap (λ i. take i (drop at bytes)) w in
      let l = length-drop at bytes in
      let long : length part ≡ 2 * n = ap length p ∙ length-take-le (2 * n) (drop at bytes) (omega arith) in
      let z : at + 2 * n ≡ length bytes - length rest = omega (arith, length-drop (2 * n) (drop at bytes)) in
      ap (then_some (list_all (pair_allowed k) (first_chunks 2 n part))) z
      ∙ sym (pairs_read k (length bytes) n part rest long)
      ∙ ap (λ b. line_read (length bytes) (read_pairs k n b)) (ap (λ f. f ++ rest) p ∙ take-append-drop (2 * n) (drop at bytes))

-- the line from byte `at` on: its count n, and its pairs
module _ (k at : ℕ) (bytes : List ℕ) where
  pub line_missing : length bytes ≤ at → None ≡ line_read (length bytes) (read_line k (drop at bytes))
  unfolding read_line
  line_missing h = rw (drop_of_length-le bytes {i = at} h)

  module _ (n : ℕ) (inside : at < length bytes) (count : n ≡ get_or bytes at n) where
    counted : drop at bytes ≡ n ∷ drop (at + 1) bytes
    counted = rw (add-one) (drop-cons bytes at n inside ∙ ap (λ m. m ∷ drop (suc at) bytes) (sym count))

    pub line_long : 16 < n → None ≡ line_read (length bytes) (read_line k (drop at bytes))
    unfolding read_line
    line_long h = rw (counted, read_line, lt-leb n 16 h)

    pub line_pairs : n ≤ 16 → line_read (length bytes) (read_pairs k n (drop (at + 1) bytes)) ≡ line_read (length bytes) (read_line k (drop at bytes))
    unfolding read_line
    line_pairs h = rw (counted, read_line, le-leb n 16 h)

-- ## The clue that was read

pub clue_in-pairs : (clue : Clue) → clue_in (pair_bytes clue) ≡ clue
unfolding clue_in pair_bytes
clue_in-pairs [] = refl
clue_in-pairs (b ∷ clue) = ap (λ l. b ∷ l) (clue_in-pairs clue)

-- with more colours the layout allows more
regular_more : (j k : ℕ) (clue : Clue) → j ≤ k → regular j clue ≡ true → regular k clue ≡ true
unfolding regular
regular_more j k clue h e =
    let r = and_true (leb (length clue) 16) (every (allowed j) clue) e in
    true_and r.0 (each clue r.1)
  where
    each : (clue : Clue) → every (allowed j) clue ≡ true → every (allowed k) clue ≡ true
    each [] e = refl
    each (b ∷ clue) e =
        let r = and_true (allowed j b) (every (allowed j) clue) e in
        let c = and_true (within 1 j b.colour) (within 1 16 b.cells) r.0 in
        let w = and_true (leb 1 b.colour) (leb b.colour j) c.0 in
        let l = leb-true b.colour j w.1 in
        true_and (true_and (true_and w.0 (le-leb b.colour k (omega arith))) c.1) (each clue r.1)

-- a clue's pairs are what a machine is made of
pub pairs_legal : (k : ℕ) (clue : Clue) (bytes : List ℕ) → k < 8 → regular k clue ≡ true → bytes ≡ pair_bytes clue → Legal bytes
pairs_legal k clue bytes h e q = ap (λ c. regular 7 c) (ap clue_in q ∙ clue_in-pairs clue) ∙ regular_more k 7 clue (omega arith) e

pub pairs_clue : (clue : Clue) (bytes : List ℕ) → bytes ≡ pair_bytes clue → clue_in bytes ≡ clue
pairs_clue clue bytes q = ap clue_in q ∙ clue_in-pairs clue

-- a line that was read right, from byte `at` on and before byte `end`
pub record RightLine (k : ℕ) (bytes : List ℕ) (at end : ℕ) : Type 0 where
  pub clue : Clue
  pub is : read_line k (drop at bytes) ≡ read clue (drop end bytes)
  pub right : regular k clue ≡ true
  pub after : at < end
  pub inside : end ≤ length bytes
  pub pairs : take (end - (at + 1)) (drop (at + 1) bytes) ≡ pair_bytes clue

pub line_right : (k : ℕ) (bytes : List ℕ) (at end : ℕ) → Some end ≡ line_read (length bytes) (read_line k (drop at bytes)) → RightLine k bytes at end
line_right k bytes at end e = go (read_line k (drop at bytes)) refl e
  where
    go : (x : Read Clue) → read_line k (drop at bytes) ≡ x → Some end ≡ line_read (length bytes) x → RightLine k bytes at end
    go broken h q = absurd (cc)
    go (read clue rest) h q =
        let w = (read_line-exact k (drop at bytes) clue rest).0 h in
        let n = ap length w.1 ∙ length-append (line_bytes clue) rest in
        let l = length-drop at bytes in
        let z : end ≡ length bytes - length rest = cc in
        let s : at + length (line_bytes clue) ≡ end = omega arith in
        let t : length (pair_bytes clue) ≡ end - (at + 1) = omega arith in
        let d : drop end bytes ≡ rest = ap (λ i. drop i bytes) (sym s) ∙ sym (drop-drop (length (line_bytes clue)) at bytes) ∙ ap (drop (length (line_bytes clue))) w.1 ∙ drop-append_seam (line_bytes clue) rest in
        record {
          clue = clue;
          is = h ∙ ap (read clue) (sym d);
          right = w.0;
          after = omega arith;
          inside = omega arith;
          pairs = ap (take (end - (at + 1))) (sym (drop-drop 1 at bytes) ∙ ap (drop 1) w.1) ∙ take_at (pair_bytes clue) rest (end - (at + 1)) t;
        }
