-- Clues and their bytes: reading undoes writing, and the other way round. So bytes that are read mean one clue, and a clue that the layout allows has one way to be written.
use mathlib.Core.Path.{◌≡◌, refl, sym, ap, subst, ◌∙◌}
use mathlib.Core.Logic.{◌↔◌}
use mathlib.Core.Bool.{Bool, true, false, ◌&&◌}
use mathlib.Core.List.{List, [], ◌∷◌, ◌++◌, append_assoc, append-nil}
use mathlib.Core.Option.{some}
use Prim.Native.Nat.{ℕ, zero, suc, ◌≤◌}
use native.Mathlib.Omega.{arith}
use lib.ListN.{length}
use lib.Dec.{leb}
use borrow.Author.Tests.{leb-true}
use Rattle.rules.specs.Lists.{every}
use Rattle.rules.specs.Clues.{Block, Clue, within, allowed, regular, pair_bytes, line_bytes, clue_bytes, Read, read, broken, ahead, whole, read_pairs, read_line, read_lines, clues_of, clue_of}
use Rattle.rules.proofs.Tests.{on_test, clash, and_true, true_and}

-- a block that the layout allows
pub allowed_out : (k : ℕ) (b : Block) → allowed k b ≡ true → (1 ≤ b.colour) × (b.colour ≤ k) × (1 ≤ b.cells) × (b.cells ≤ 16)
allowed_out k b e =
    let r = and_true (within 1 k b.colour) (within 1 16 b.cells) e in
    let c = and_true (leb 1 b.colour) (leb b.colour k) r.0 in
    let n = and_true (leb 1 b.cells) (leb b.cells 16) r.1 in
    (leb-true 1 b.colour c.0, leb-true b.colour k c.1, leb-true 1 b.cells n.0, leb-true b.cells 16 n.1)

-- what was read, with one thing more in front of it
ahead_out : {A : Type 0} (a : A) (r : Read (List A)) (l : List A) (rest : List ℕ) → ahead a r ≡ read l rest → (tail : List A) × (r ≡ read tail rest) × (l ≡ a ∷ tail)
ahead_out a broken l rest e = absurd (let z : ◌≡◌ {A = ℕ} 0 1 = cc in omega arith)
ahead_out a (read tail left) l rest e = (tail, cc, cc)

-- nothing follows what is read whole
whole_out : {A : Type 0} (r : Read A) (a : A) → whole r ≡ some a → r ≡ read a []
whole_out broken a e = absurd (let z : ◌≡◌ {A = ℕ} 0 1 = cc in omega arith)
whole_out (read x []) a e = cc
whole_out (read x (y ∷ rest)) a e = absurd (let z : ◌≡◌ {A = ℕ} 0 1 = cc in omega arith)

module _ (k : ℕ) where
  -- ## Pairs

  pairs_out : (n : ℕ) (bytes : List ℕ) (clue : Clue) (rest : List ℕ) → read_pairs k n bytes ≡ read clue rest →
      (length clue ≡ n) × (every (allowed k) clue ≡ true) × (bytes ≡ pair_bytes clue ++ rest)
  unfolding read_pairs pair_bytes
  pairs_out zero bytes clue rest e =
      let p : [] ≡ clue = cc in
      let q : bytes ≡ rest = cc in
      subst (λ c. (length c ≡ 0) × (every (allowed k) c ≡ true) × (bytes ≡ pair_bytes c ++ rest)) p (refl, refl, q)
  pairs_out (suc n) [] clue rest e = absurd (let z : ◌≡◌ {A = ℕ} 0 1 = cc in omega arith)
  pairs_out (suc n) (c ∷ []) clue rest e = absurd (let z : ◌≡◌ {A = ℕ} 0 1 = cc in omega arith)
  pairs_out (suc n) (c ∷ l ∷ bytes) clue rest e = go (allowed k b) refl e (λ tail h. pairs_out n bytes tail rest h)
    where
      b : Block
      b = record { colour = c; cells = l }

      go : (v : Bool) → allowed k b ≡ v → (elim v as (λ _. Read Clue) [ true ↦ ahead b (read_pairs k n bytes) | false ↦ broken ]) ≡ read clue rest →
          ((tail : Clue) → read_pairs k n bytes ≡ read tail rest → (length tail ≡ n) × (every (allowed k) tail ≡ true) × (bytes ≡ pair_bytes tail ++ rest)) →
          (length clue ≡ suc n) × (every (allowed k) clue ≡ true) × (c ∷ l ∷ bytes ≡ pair_bytes clue ++ rest)
      go true a h ih =
          let r = ahead_out b (read_pairs k n bytes) clue rest h in
          let t = ih r.0 r.1 in
          subst (λ x. (length x ≡ suc n) × (every (allowed k) x ≡ true) × (c ∷ l ∷ bytes ≡ pair_bytes x ++ rest)) (sym r.2)
          (ap suc t.0, true_and a t.1, ap (λ x. c ∷ l ∷ x) t.2)
      go false a h ih = absurd (let z : ◌≡◌ {A = ℕ} 0 1 = cc in omega arith)

  pairs_in : (clue : Clue) (rest : List ℕ) → every (allowed k) clue ≡ true → read_pairs k (length clue) (pair_bytes clue ++ rest) ≡ read clue rest
  unfolding read_pairs pair_bytes
  pairs_in [] rest e = refl
  pairs_in (b ∷ clue) rest e =
      let r = and_true (allowed k b) (every (allowed k) clue) e in
      on_test (λ x. x ≡ read (b ∷ clue) rest) (allowed k b) (λ a. ap (λ x. ahead b x) (pairs_in clue rest r.1)) (λ a. clash r.0 a)

  -- ## A line

  line_out : (bytes : List ℕ) (clue : Clue) (rest : List ℕ) → read_line k bytes ≡ read clue rest → (regular k clue ≡ true) × (bytes ≡ line_bytes clue ++ rest)
  unfolding read_line regular
  line_out [] clue rest e = absurd (let z : ◌≡◌ {A = ℕ} 0 1 = cc in omega arith)
  line_out (n ∷ bytes) clue rest e = go (leb n 16) refl e
    where
      go : (v : Bool) → leb n 16 ≡ v → (elim v as (λ _. Read Clue) [ true ↦ read_pairs k n bytes | false ↦ broken ]) ≡ read clue rest →
          (leb (length clue) 16 && every (allowed k) clue ≡ true) × (n ∷ bytes ≡ length clue ∷ (pair_bytes clue ++ rest))
      go true a h =
          let r = pairs_out n bytes clue rest h in
          (true_and (ap (λ m. leb m 16) r.0 ∙ a) r.1, cc)
      go false a h = absurd (let z : ◌≡◌ {A = ℕ} 0 1 = cc in omega arith)

  line_in : (clue : Clue) (rest : List ℕ) → regular k clue ≡ true → read_line k (line_bytes clue ++ rest) ≡ read clue rest
  unfolding read_line regular
  line_in clue rest e = let r = and_true (leb (length clue) 16) (every (allowed k) clue) e in rw (r.0, read_line) (pairs_in clue rest r.1)

  pub read_line-exact : (bytes : List ℕ) (clue : Clue) (rest : List ℕ) → (read_line k bytes ≡ read clue rest) ↔ ((regular k clue ≡ true) × (bytes ≡ line_bytes clue ++ rest))
  read_line-exact bytes clue rest = (line_out bytes clue rest, λ r. ap (read_line k) r.1 ∙ line_in clue rest r.0)

  -- ## All lines

  lines_out : (m : ℕ) (bytes : List ℕ) (clues : List Clue) (rest : List ℕ) → read_lines k m bytes ≡ read clues rest →
      (length clues ≡ m) × (every (regular k) clues ≡ true) × (bytes ≡ clue_bytes clues ++ rest)
  unfolding read_lines clue_bytes
  lines_out zero bytes clues rest e =
      let p : [] ≡ clues = cc in
      let q : bytes ≡ rest = cc in
      subst (λ c. (length c ≡ 0) × (every (regular k) c ≡ true) × (bytes ≡ clue_bytes c ++ rest)) p (refl, refl, q)
  lines_out (suc m) bytes clues rest e = go (read_line k bytes) refl e (λ left tail h. lines_out m left tail rest h)
    where
      go : (r : Read Clue) → read_line k bytes ≡ r → (elim r as (λ _. Read (List Clue)) [ broken ↦ broken | read clue left ↦ ahead clue (read_lines k m left) ]) ≡ read clues rest →
          ((left : List ℕ) (tail : List Clue) → read_lines k m left ≡ read tail rest → (length tail ≡ m) × (every (regular k) tail ≡ true) × (left ≡ clue_bytes tail ++ rest)) →
          (length clues ≡ suc m) × (every (regular k) clues ≡ true) × (bytes ≡ clue_bytes clues ++ rest)
      go broken a h ih = absurd (let z : ◌≡◌ {A = ℕ} 0 1 = cc in omega arith)
      go (read clue left) a h ih =
          let r = ahead_out clue (read_lines k m left) clues rest h in
          let t = ih left r.0 r.1 in
          let f = line_out bytes clue left a in
          subst (λ x. (length x ≡ suc m) × (every (regular k) x ≡ true) × (bytes ≡ clue_bytes x ++ rest)) (sym r.2)
          (ap suc t.0, true_and f.0 t.1, f.1 ∙ ap (λ x. line_bytes clue ++ x) t.2 ∙ sym (append_assoc (line_bytes clue) (clue_bytes r.0) rest))

  lines_in : (clues : List Clue) (rest : List ℕ) → every (regular k) clues ≡ true → read_lines k (length clues) (clue_bytes clues ++ rest) ≡ read clues rest
  unfolding read_lines clue_bytes
  lines_in [] rest e = refl
  lines_in (clue ∷ clues) rest e =
      let r = and_true (regular k clue) (every (regular k) clues) e in
      let p : read_line k ((line_bytes clue ++ clue_bytes clues) ++ rest) ≡ read clue (clue_bytes clues ++ rest) =
      ap (read_line k) (append_assoc (line_bytes clue) (clue_bytes clues) rest) ∙ line_in clue (clue_bytes clues ++ rest) r.0 in
      rw (p, read_lines) (ap (λ x. ahead clue x) (lines_in clues rest r.1))

  -- ## Read whole

  pub clue_of-exact : (bytes : List ℕ) (clue : Clue) → (clue_of k bytes ≡ some clue) ↔ ((regular k clue ≡ true) × (bytes ≡ line_bytes clue))
  unfolding clue_of
  clue_of-exact bytes clue = (
    λ e. (let r = line_out bytes clue [] (whole_out (read_line k bytes) clue e) in (r.0, r.1 ∙ append-nil (line_bytes clue))),
    λ r. ap (λ x. whole x) (ap (read_line k) (r.1 ∙ sym (append-nil (line_bytes clue))) ∙ line_in clue [] r.0),
  )

  pub clues_of-exact : (m : ℕ) (bytes : List ℕ) (clues : List Clue) →
      (clues_of k m bytes ≡ some clues) ↔ ((length clues ≡ m) × (every (regular k) clues ≡ true) × (bytes ≡ clue_bytes clues))
  unfolding clues_of
  clues_of-exact m bytes clues = (
    λ e. (let r = lines_out m bytes clues [] (whole_out (read_lines k m bytes) clues e) in (r.0, r.1, r.2 ∙ append-nil (clue_bytes clues))),
    λ r. ap (λ x. whole x)
        (ap (λ n. read_lines k n bytes) (sym r.0) ∙ ap (read_lines k (length clues)) (r.2 ∙ sym (append-nil (clue_bytes clues))) ∙ lines_in clues [] r.1),
  )
