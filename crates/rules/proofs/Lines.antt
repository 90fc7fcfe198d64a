-- Lines: `fits` and `reduce` say what the relations mean, reducing takes colours away and brings none in, and a line's clue and sets determine what it reduces to.
-- Nothing here looks into `between`: what must stand between two blocks may be any colours.
use mathlib.Core.Path.{◌≡◌, refl, sym, ap, ap₂, subst, ◌∙◌}
use mathlib.Core.Logic.{◌↔◌}
use mathlib.Core.Bool.{Bool, true, false, ◌&&◌, false≢true}
use mathlib.Core.List.{List, [], ◌∷◌, ◌++◌, map, append_assoc}
use mathlib.Core.Option.{Option, none, some}
use Prim.Native.Nat.{ℕ, zero, suc, ◌+◌, ◌<◌}
use native.Mathlib.Omega.{arith}
use lib.ListN.{length, get_or, set, replicate, length-map, get_or-eq_default}
use lib.Seq.{ext_get_or}
use lib.Dec.{ltb}
use borrow.Author.Tests.{ltb-true, ltb-false}
use Rattle.rules.specs.Lists.{from}
use Rattle.rules.specs.Sets.{Colour, ◌∋◌, has, only}
use Rattle.rules.specs.Clues.{Clue}
use Rattle.rules.specs.Lines.{cells_of, between, Meets, nothing, blank, block, From, end, cell, Arranged, Possible, Reduced, Reduces, begins, later, is_end, fits, kept_at, reduce}
use Rattle.rules.proofs.Tests.{on_test, by_test, clash, and_true, true_and, same_test}
use Rattle.rules.proofs.Lists.{length_from}
use Rattle.rules.proofs.Sets.{has_in, in_has, has_none, set_of-low, has-set_of, set_of-has, same_set, only_self, only_one, byte_colour, member_pos}

-- ## Lines and the sets that they are taken from

pub from_length : {sets line : List ℕ} → From sets line → length sets ≡ length line
from_length end = refl
from_length (cell h f) = ap suc (from_length f)

pub from_at : {sets line : List ℕ} (i : ℕ) → From sets line → i < length sets → get_or sets i 0 ∋ get_or line i 0
from_at i end h = absurd (omega arith)
from_at zero (cell p f) h = p
from_at (suc i) (cell p f) h = from_at i f (omega arith)

pub at_from : (sets line : List ℕ) → length sets ≡ length line → ((i : ℕ) → i < length sets → get_or sets i 0 ∋ get_or line i 0) → From sets line
at_from [] [] e f = end
at_from [] (c ∷ line) e f = absurd (omega arith)
at_from (s ∷ sets) [] e f = absurd (omega arith)
at_from (s ∷ sets) (c ∷ line) e f = cell (f 0 (omega arith)) (at_from sets line (omega arith) (λ i h. f (suc i) (omega arith)))

-- ## `fits` says that some line is arranged

-- the colours that the sets begin with, before a line that is taken from those left
begins_out : (cs : List Colour) (rest : List ℕ → Bool) (sets : List ℕ) → begins cs rest sets ≡ true →
    (left : List ℕ) × (rest left ≡ true) × ((line : List Colour) → From left line → From sets (cs ++ line))
begins_out [] rest sets e = (sets, e, λ line f. f)
begins_out (c ∷ cs) rest [] e = absurd (false≢true e)
begins_out (c ∷ cs) rest (s ∷ sets) e = go (has s c) refl e (λ k. begins_out cs rest sets k)
  where
    go : (v : Bool) → has s c ≡ v → (elim v as (λ _. Bool) [ true ↦ begins cs rest sets | false ↦ false ]) ≡ true →
        (begins cs rest sets ≡ true → (left : List ℕ) × (rest left ≡ true) × ((line : List Colour) → From left line → From sets (cs ++ line))) →
        (left : List ℕ) × (rest left ≡ true) × ((line : List Colour) → From left line → From (s ∷ sets) (c ∷ (cs ++ line)))
    go true h k ih = let r = ih k in (r.0, r.1, λ line f. cell (in_has s c h) (r.2 line f))
    go false h k ih = absurd (false≢true k)

begins_in : (cs : List Colour) (rest : List ℕ → Bool) {sets : List ℕ} {line : List Colour} → From sets (cs ++ line) → ((left : List ℕ) → From left line → rest left ≡ true) → begins cs rest sets ≡ true
begins_in [] rest {sets} f p = p sets f
begins_in (c ∷ cs) rest (cell {s = s} h f) p = rw (has_in s c h, begins) (begins_in cs rest f p)

-- some blanks, before a line that is taken from those left
later_out : (rest : List ℕ → Bool) (sets : List ℕ) → later rest sets ≡ true →
    (n : ℕ) × (left : List ℕ) × (rest left ≡ true) × ((line : List Colour) → From left line → From sets (replicate n 0 ++ line))
later_out rest [] e = (0, [], e, λ line f. f)
later_out rest (s ∷ sets) e = first (rest (s ∷ sets)) refl e (λ k. later_out rest sets k)
  where
    Found : List ℕ → Type 0
    Found l = (n : ℕ) × (left : List ℕ) × (rest left ≡ true) × ((line : List Colour) → From left line → From l (replicate n 0 ++ line))

    second : (v : Bool) → has s 0 ≡ v → (elim v as (λ _. Bool) [ true ↦ later rest sets | false ↦ false ]) ≡ true → (later rest sets ≡ true → Found sets) → Found (s ∷ sets)
    second true h k ih = let r = ih k in (suc r.0, r.1, r.2, λ line f. cell (in_has s 0 h) (r.3 line f))
    second false h k ih = absurd (false≢true k)

    first : (v : Bool) → rest (s ∷ sets) ≡ v → (elim v as (λ _. Bool) [ true ↦ true | false ↦ elim (has s 0) [ true ↦ later rest sets | false ↦ false ] ]) ≡ true →
        (later rest sets ≡ true → Found sets) → Found (s ∷ sets)
    first true h k ih = (0, s ∷ sets, h, λ line f. f)
    first false h k ih = second (has s 0) refl k ih

later_now : (rest : List ℕ → Bool) (sets : List ℕ) → rest sets ≡ true → later rest sets ≡ true
later_now rest [] e = e
later_now rest (s ∷ sets) e = rw (e, later)

later_more : (rest : List ℕ → Bool) (s : ℕ) (sets : List ℕ) → s ∋ 0 → later rest sets ≡ true → later rest (s ∷ sets) ≡ true
later_more rest s sets h e = by_test (rest (s ∷ sets)) (λ k. rw (k, later)) (λ k. rw (k, has_in s 0 h, later) e)

pub blanks : (n : ℕ) {clue : Clue} {line : List Colour} → Meets clue line → Meets clue (replicate n 0 ++ line)
blanks zero m = m
blanks (suc n) m = blank (blanks n m)

end_out : (sets : List ℕ) → is_end sets ≡ true → From sets []
end_out [] e = end
end_out (s ∷ sets) e = absurd (false≢true e)

pub fits_arranged : (clue : Clue) (sets : List ℕ) → fits clue sets ≡ true → Arranged clue sets
unfolding fits
fits_arranged [] sets e =
    let r = later_out is_end sets e in
    record { line = replicate r.0 0 ++ []; meets = blanks r.0 nothing; taken = r.3 [] (end_out r.1 r.2) }
fits_arranged (b ∷ clue) sets e =
    let r = later_out (begins (cells_of b ++ between b clue) (fits clue)) sets e in
    let q = begins_out (cells_of b ++ between b clue) (fits clue) r.1 r.2 in
    let a = fits_arranged clue q.0 q.1 in
    record {
      line = replicate r.0 0 ++ (cells_of b ++ (between b clue ++ a.line));
      meets = blanks r.0 (block a.meets);
      taken = r.3 _ (subst (λ l. From r.1 l) (append_assoc (cells_of b) (between b clue) a.line) (q.2 a.line a.taken));
    }

pub meets_fits : {clue : Clue} {line : List Colour} {sets : List ℕ} → Meets clue line → From sets line → fits clue sets ≡ true
unfolding fits
meets_fits nothing end = refl
meets_fits {clue} (blank m) (cell {s = s} {sets = sets} h f) = more clue (meets_fits m f)
  where
    more : (clue : Clue) → fits clue sets ≡ true → fits clue (s ∷ sets) ≡ true
    more [] e = later_more is_end s sets h e
    more (b ∷ clue) e = later_more (begins (cells_of b ++ between b clue) (fits clue)) s sets h e
meets_fits {sets = sets} (block {b = b} {clue = clue} {line = line} m) f =
    later_now (begins (cells_of b ++ between b clue) (fits clue)) sets
    (begins_in (cells_of b ++ between b clue) (fits clue) (subst (λ l. From sets l) (sym (append_assoc (cells_of b) (between b clue) line)) f) (λ left g. meets_fits m g))

pub arranged_fits : (clue : Clue) (sets : List ℕ) → Arranged clue sets → fits clue sets ≡ true
arranged_fits clue sets a = meets_fits a.meets a.taken

-- ## Narrowing, which holds of any sets

-- each set of the first list lies in the set of the second that stands at its place
abbrev pub Under : List ℕ → List ℕ → Type 0
Under [] [] = Unit {0}
Under [] (t ∷ ts) = ⊥
Under (s ∷ ss) [] = ⊥
Under (s ∷ ss) (t ∷ ts) = ((x : ℕ) → has s x ≡ true → has t x ≡ true) × Under ss ts

pub under_of : (ss ts : List ℕ) → length ss ≡ length ts → ((i x : ℕ) → has (get_or ss i 0) x ≡ true → has (get_or ts i 0) x ≡ true) → Under ss ts
under_of [] [] e f = tt
under_of [] (t ∷ ts) e f = omega arith
under_of (s ∷ ss) [] e f = omega arith
under_of (s ∷ ss) (t ∷ ts) e f = (f 0, under_of ss ts (omega arith) (λ i. f (suc i)))

pub under_length : (ss ts : List ℕ) → Under ss ts → length ss ≡ length ts
under_length [] [] u = refl
under_length [] (t ∷ ts) u = absurd u
under_length (s ∷ ss) [] u = absurd u
under_length (s ∷ ss) (t ∷ ts) u = ap suc (under_length ss ts u.1)

-- a line taken from sets is taken from wider ones
pub from_under : {ss line : List ℕ} (ts : List ℕ) → Under ss ts → From ss line → From ts line
from_under [] u end = end
from_under (t ∷ ts) u end = absurd u
from_under [] u (cell h f) = absurd u
from_under (t ∷ ts) u (cell {s = s} {c = c} h f) = cell (in_has t c (u.0 c (has_in s c h))) (from_under ts u.1 f)

-- each cell is a byte
abbrev pub Bytes : List ℕ → Type 0
Bytes sets = (i : ℕ) → i < length sets → get_or sets i 0 < 256

-- element i of what a function gives of the numbers from j on
get_or-each : (f : ℕ → ℕ) (j n i : ℕ) → i < n → get_or (map f (from j n)) i 0 ≡ f (j + i)
get_or-each f j zero i h = absurd (omega arith)
get_or-each f j (suc n) zero h = ap f (omega arith)
get_or-each f j (suc n) (suc i) h = get_or-each f (suc j) n i (omega arith) ∙ ap f (omega arith)

-- the line that the reduced cells make
kept_line : Clue → List ℕ → List ℕ
kept_line clue sets = map (kept_at clue sets) (from 0 (length sets))

module _ (clue : Clue) (sets : List ℕ) where
  kept_length : length (kept_line clue sets) ≡ length sets
  unfolding kept_line
  kept_length = length-map (from 0 (length sets)) (kept_at clue sets) ∙ length_from 0 (length sets)

  kept_cell : (i : ℕ) → i < length sets → get_or (kept_line clue sets) i 0 ≡ kept_at clue sets i
  unfolding kept_line
  kept_cell i h = get_or-each (kept_at clue sets) 0 (length sets) i h ∙ ap (kept_at clue sets) (omega arith)

  kept_has : (i c : ℕ) → has (kept_at clue sets i) c ≡ true → (c < 8) × (has (get_or sets i 0) c ≡ true) × (fits clue (set sets i (only c)) ≡ true)
  kept_has i c e =
      let r = set_of-has 8 (λ c. has (get_or sets i 0) c && fits clue (set sets i (only c))) c e in
      let q = and_true (has (get_or sets i 0) c) (fits clue (set sets i (only c))) r.1 in
      (r.0, q.0, q.1)

  reduce_some : (out : List ℕ) → reduce clue sets ≡ some out → (fits clue sets ≡ true) × (out ≡ kept_line clue sets)
  unfolding reduce kept_line
  reduce_some out e = go (fits clue sets) e
    where
      go : (v : Bool) → (elim v as (λ _. Option (List ℕ)) [ true ↦ some (kept_line clue sets) | false ↦ none ]) ≡ some out → (v ≡ true) × (out ≡ kept_line clue sets)
      go true h = (refl, cc)
      go false h = absurd (let z : ◌≡◌ {A = ℕ} 0 1 = cc in omega arith)

  -- it is a contradiction exactly where no line is arranged
  pub reduce_fits : (out : List ℕ) → reduce clue sets ≡ some out → fits clue sets ≡ true
  reduce_fits out e = (reduce_some out e).0

  pub reduce_unfit : reduce clue sets ≡ none → fits clue sets ≡ false
  unfolding reduce
  reduce_unfit e = go (fits clue sets) e
    where
      go : (v : Bool) → ◌≡◌ {A = Option (List ℕ)} (elim v [ true ↦ some (map (kept_at clue sets) (from 0 (length sets))) | false ↦ none ]) none → v ≡ false
      go true h = absurd (let z : ◌≡◌ {A = ℕ} 0 1 = cc in omega arith)
      go false h = refl

  pub reduce_length : (out : List ℕ) → reduce clue sets ≡ some out → length out ≡ length sets
  reduce_length out e = ap length (reduce_some out e).1 ∙ kept_length

  -- no colour comes in
  pub reduce_narrows : (out : List ℕ) → reduce clue sets ≡ some out → (i c : ℕ) → has (get_or out i 0) c ≡ true → has (get_or sets i 0) c ≡ true
  reduce_narrows out e i c h =
      let r = reduce_some out e in
      by_test (ltb i (length sets))
      (λ k. (kept_has i c (subst (λ s. has s c ≡ true) (ap (λ l. get_or l i 0) r.1 ∙ kept_cell i (ltb-true i (length sets) k)) h)).1)
      (λ k. let l = ltb-false i (length sets) k in let q = reduce_length out e in
      clash h (ap (λ s. has s c) (get_or-eq_default out 0 (omega arith)) ∙ has_none c))

  pub reduce_under : (out : List ℕ) → reduce clue sets ≡ some out → Under out sets
  reduce_under out e = under_of out sets (reduce_length out e) (reduce_narrows out e)

  -- each reduced cell is a byte
  pub reduce_bytes : (out : List ℕ) → reduce clue sets ≡ some out → Bytes out
  reduce_bytes out e i h =
      let q = reduce_length out e in
      subst (λ s. s < 256) (sym (ap (λ l. get_or l i 0) (reduce_some out e).1 ∙ kept_cell i (omega arith))) (set_of-low 8 (λ c. has (get_or sets i 0) c && fits clue (set sets i (only c))))

-- ## `reduce` gives what reducing comes to

-- a line taken from sets of which set i has the colour c alone, and the other way round
one_out : (sets : List ℕ) (i c : ℕ) {line : List Colour} → i < length sets → get_or sets i 0 ∋ c → From (set sets i (only c)) line → From sets line × (get_or line i 0 ≡ c)
one_out [] i c h p f = absurd (omega arith)
one_out (s ∷ sets) zero c h p (cell {c = x} q f) = let e : x ≡ c = only_one c x (has_in (only c) x q) in (cell (subst (λ y. s ∋ y) (sym e) p) f, e)
one_out (s ∷ sets) (suc i) c h p (cell q f) = let r = one_out sets i c (omega arith) p f in (cell q r.0, r.1)

one_in : {sets : List ℕ} {line : List Colour} (i c : ℕ) → get_or line i 0 ≡ c → From sets line → From (set sets i (only c)) line
one_in i c e end = end
one_in zero c e (cell q f) = cell (subst (λ x. only c ∋ x) (sym e) (in_has (only c) c (only_self c))) f
one_in (suc i) c e (cell q f) = cell q (one_in i c e f)

module _ (clue : Clue) (sets : List ℕ) (bytes : Bytes sets) where
  kept_exact : (i c : ℕ) → i < length sets → (kept_at clue sets i ∋ c) ↔ Possible clue sets i c
  kept_exact i c h = (out, back)
    where
      out : kept_at clue sets i ∋ c → Possible clue sets i c
      out p =
          let r = kept_has clue sets i c (has_in (kept_at clue sets i) c p) in
          let a = fits_arranged clue (set sets i (only c)) r.2 in
          let q = one_out sets i c h (in_has (get_or sets i 0) c r.1) a.taken in
          record { line = a.line; meets = a.meets; taken = q.0; there = q.1 }

      back : Possible clue sets i c → kept_at clue sets i ∋ c
      back p =
          let k : has (get_or sets i 0) c ≡ true = has_in (get_or sets i 0) c (subst (λ x. get_or sets i 0 ∋ x) p.there (from_at i p.taken h)) in
          in_has (kept_at clue sets i) c
          (has-set_of 8 (λ c. has (get_or sets i 0) c && fits clue (set sets i (only c))) c (byte_colour (get_or sets i 0) c (bytes i h) k)
          ∙ true_and k (meets_fits p.meets (one_in i c p.there p.taken)))

  pub reduce_is : Reduces clue sets (reduce clue sets)
  unfolding reduce kept_line
  reduce_is = on_test (Reduces clue sets) (fits clue sets)
      (λ e. (
        fits_arranged clue sets e,
        record {
          same = kept_length clue sets;
          exact = λ i c h. subst (λ s. (s ∋ c) ↔ Possible clue sets i c) (sym (kept_cell clue sets i h)) (kept_exact i c h);
        },
      ))
      (λ e a. clash (arranged_fits clue sets a) e)

-- ## What reducing leaves

-- a line that is arranged is taken from what reducing leaves; so none is arranged at a contradiction
abbrev pub Leaves : List Colour → Option (List ℕ) → Type 0
Leaves line none = ⊥
Leaves line (some out) = From out line

pub reduce_leaves : (clue : Clue) (sets : List ℕ) {line : List Colour} → Bytes sets → Meets clue line → From sets line → Leaves line (reduce clue sets)
reduce_leaves clue sets {line} bytes m f = go (reduce clue sets) (reduce_is clue sets bytes)
  where
    go : (r : Option (List ℕ)) → Reduces clue sets r → Leaves line r
    go none p = p (record { line = line; meets = m; taken = f })
    go (some out) p = at_from out line (p.1.same ∙ from_length f)
        (λ i h. (p.1.exact i (get_or line i 0) (let z = p.1.same in omega arith)).1 (record { line = line; meets = m; taken = f; there = refl }))

-- each reduced cell keeps a colour
pub reduce_filled : (clue : Clue) (sets out : List ℕ) → Bytes sets → reduce clue sets ≡ some out → (i : ℕ) → i < length out → 0 < get_or out i 0
reduce_filled clue sets out bytes e i h =
    let a = (subst (Reduces clue sets) e (reduce_is clue sets bytes)).0 in
    let f : From out a.line = subst (Leaves a.line) e (reduce_leaves clue sets bytes a.meets a.taken) in
    member_pos (get_or out i 0) (get_or a.line i 0) (has_in (get_or out i 0) (get_or a.line i 0) (from_at i f h))

-- narrower sets reduce to narrower sets; so where they are no contradiction, the wider ones are none
abbrev pub Above : List ℕ → Option (List ℕ) → Type 0
Above out none = ⊥
Above out (some wide) = Under out wide

pub reduce_narrower : (clue : Clue) (ss ts out : List ℕ) → Bytes ss → Bytes ts → Under ss ts → reduce clue ss ≡ some out → Above out (reduce clue ts)
reduce_narrower clue ss ts out m n u e = go (reduce clue ts) refl
  where
    p : Arranged clue ss × Reduced clue ss out
    p = subst (Reduces clue ss) e (reduce_is clue ss m)

    left : {line : List Colour} → Meets clue line → From ss line → Leaves line (reduce clue ts)
    left h f = reduce_leaves clue ts n h (from_under ts u f)

    go : (r : Option (List ℕ)) → reduce clue ts ≡ r → Above out r
    go none k = subst (Leaves p.0.line) k (left p.0.meets p.0.taken)
    go (some wide) k = under_of out wide (p.1.same ∙ under_length ss ts u ∙ sym (reduce_length clue ts wide k)) each
      where
        each : (i x : ℕ) → has (get_or out i 0) x ≡ true → has (get_or wide i 0) x ≡ true
        each i x h = by_test (ltb i (length ss))
            (λ l. let q = (p.1.exact i x (ltb-true i (length ss) l)).0 (in_has (get_or out i 0) x h) in
            let f : From wide q.line = subst (Leaves q.line) k (left q.meets q.taken) in
            subst (λ y. has (get_or wide i 0) y ≡ true) q.there
            (has_in (get_or wide i 0) (get_or q.line i 0) (from_at i f (let z = ltb-true i (length ss) l in let y = under_length ss ts u in let w = reduce_length clue ts wide k in omega arith))))
            (λ l. clash h (ap (λ s. has s x) (get_or-eq_default out 0 (let z = ltb-false i (length ss) l in let y = p.1.same in omega arith)) ∙ has_none x))

-- ## A line's clue and sets determine what it reduces to

pub reduced_same : {clue : Clue} {sets a b : List ℕ} → Bytes a → Bytes b → Reduced clue sets a → Reduced clue sets b → a ≡ b
reduced_same {sets = sets} {a = a} {b = b} m n p q = ext_get_or 0 a b (p.same ∙ sym q.same)
    (λ i h. let l : i < length sets = (let z = p.same in omega arith) in let k : i < length b = (let z = q.same in omega arith) in
    same_set 8 (get_or a i 0) (get_or b i 0) (m i h) (n i k)
    (λ c j. same_test (has (get_or a i 0) c) (has (get_or b i 0) c)
    (λ e. has_in (get_or b i 0) c ((q.exact i c l).1 ((p.exact i c l).0 (in_has (get_or a i 0) c e))))
    (λ e. has_in (get_or a i 0) c ((p.exact i c l).1 ((q.exact i c l).0 (in_has (get_or b i 0) c e))))))

-- a result whose cells are bytes
abbrev pub BytesIn : Option (List ℕ) → Type 0
BytesIn none = Unit {0}
BytesIn (some out) = Bytes out

pub reduces_same : (clue : Clue) (sets : List ℕ) (a b : Option (List ℕ)) → BytesIn a → BytesIn b → Reduces clue sets a → Reduces clue sets b → a ≡ b
reduces_same clue sets none none m n p q = refl
reduces_same clue sets none (some b) m n p q = absurd (p q.0)
reduces_same clue sets (some a) none m n p q = absurd (q p.0)
reduces_same clue sets (some a) (some b) m n p q = ap some (reduced_same m n p.1 q.1)

-- so what reducing comes to is what `reduce` gives
pub reduces_is : (clue : Clue) (sets : List ℕ) (a : Option (List ℕ)) → Bytes sets → BytesIn a → Reduces clue sets a → a ≡ reduce clue sets
reduces_is clue sets a m n p = reduces_same clue sets a (reduce clue sets) n (given (reduce clue sets) refl) p (reduce_is clue sets m)
  where
    given : (r : Option (List ℕ)) → reduce clue sets ≡ r → BytesIn r
    given none e = tt
    given (some out) e = reduce_bytes clue sets out e

-- a reduced line reduces to itself
pub reduce_again : (clue : Clue) (sets out : List ℕ) → Bytes sets → reduce clue sets ≡ some out → reduce clue out ≡ some out
reduce_again clue sets out bytes e = sym (reduces_is clue out (some out) small small (record { line = p.0.line; meets = p.0.meets; taken = left p.0.meets p.0.taken }, again))
  where
    p : Arranged clue sets × Reduced clue sets out
    p = subst (Reduces clue sets) e (reduce_is clue sets bytes)

    small : Bytes out
    small = reduce_bytes clue sets out e

    left : {line : List Colour} → Meets clue line → From sets line → From out line
    left {line} m f = subst (Leaves line) e (reduce_leaves clue sets bytes m f)

    again : Reduced clue out out
    again = record {
      same = refl;
      exact = λ i c h. (
        λ k. let q = (p.1.exact i c (let z = p.1.same in omega arith)).0 k in record { line = q.line; meets = q.meets; taken = left q.meets q.taken; there = q.there },
        λ q. subst (λ x. get_or out i 0 ∋ x) q.there (from_at i q.taken h),
      );
    }

-- ## Solved lines

only_from : (line : List Colour) → From (map only line) line
only_from [] = end
only_from (c ∷ line) = cell (in_has (only c) c (only_self c)) (only_from line)

from_only : (line : List Colour) {other : List Colour} → From (map only line) other → other ≡ line
from_only [] end = refl
from_only (c ∷ line) (cell {c = x} {line = l} h f) = ap₂ (λ (y : ℕ) (r : List ℕ). y ∷ r) (only_one c x (has_in (only c) x h)) (from_only line f)

-- a line taken from sets, each colour alone in its cell, lies under them
pub only_under : {sets line : List ℕ} → From sets line → Under (map only line) sets
only_under end = tt
only_under (cell {s = s} {c = c} h f) = (λ x k. subst (λ y. has s y ≡ true) (sym (only_one c x k)) (has_in s c h), only_under f)

-- a solved line fits exactly if its colours meet the clue
pub meets_solved : (clue : Clue) (line : List Colour) → Meets clue line → fits clue (map only line) ≡ true
meets_solved clue line m = meets_fits m (only_from line)

pub solved_meets : (clue : Clue) (line : List Colour) → fits clue (map only line) ≡ true → Meets clue line
solved_meets clue line e = let a = fits_arranged clue (map only line) e in subst (λ l. Meets clue l) (from_only line a.taken) a.meets
