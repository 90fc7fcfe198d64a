-- The places of a line's cells, one by one, and the sets that are written there.
use mathlib.Core.Path.{◌≡◌, refl, sym, ap, subst, ◌∙◌}
use mathlib.Core.List.Memᴰ
use mathlib.Core.List.{List, [], ◌∷◌, map, map-map}
use Prim.Native.Nat.{ℕ, suc, ◌+◌, ◌-◌, ◌*◌, ◌≤◌, ◌<◌}
use native.Mathlib.Nat.{mul-le-mul}
use native.Mathlib.Numerals.{add-one}
use native.Mathlib.Omega.{arith}
use lib.ListN.{length, get_or, set, take, drop, length-map, length-set}
use lib.Seq.{drop-cons, get_or-take, take-set-lt, ext_get_or, length-take-le}
use borrow.Author.Tests.{lt-ltb, le-ltb}
use Rattle.rules.specs.Lists.{from}
use Rattle.rules.specs.Propagation.{write}
use Rattle.rules.proofs.Lists.{In}
use Rattle.rules.proofs.Given.{length_given, given_at, Written}
use Rattle.boards.specs.declared.line.Line.{Line}
use Rattle.boards.specs.Line.{line_at, places, Reaches}

-- rows and columns
pub line_row : (w h i : ℕ) → i < h → line_at w h i ≡ record { start = i * w; stride = 1; len = w }
unfolding line_at
line_row w h i l = rw (lt-ltb i h l, line_at)

pub line_column : (w h i : ℕ) → h ≤ i → line_at w h i ≡ record { start = i - h; stride = w; len = h }
unfolding line_at
line_column w h i l = rw (le-ltb i h l, line_at)

-- a place is small
pub small : {l : Line} {n : ℕ} → Reaches l n → (j : ℕ) → j < l.len → j * l.stride ≤ 256
small {l} r j h = let q : j ≤ 16 = (let z = r.few in omega arith) in mul-le-mul q r.close

pub length_places : (l : Line) → length (places l) ≡ l.len
length_places l = length_given (λ j. l.start + j * l.stride) 0 l.len

-- a function at the places
pub map_places : (f : ℕ → ℕ) (l : Line) (k : ℕ) → k < l.len → get_or (map f (places l)) k 0 ≡ f (l.start + k * l.stride)
map_places f l k h = ap (λ xs. get_or xs k 0) (map-map f (λ j. l.start + j * l.stride) (from 0 l.len)) ∙ given_at (λ j. f (l.start + j * l.stride)) l.len k 0 h

-- the sets of a line's cells, gathered one by one
pub gathered_end : (cells sets : List ℕ) (l : Line) (j : ℕ) → Written (λ k. get_or cells (l.start + k * l.stride) 0) 0 16 j sets → l.len ≤ j → take l.len sets ≡ map (λ c. get_or cells c 0) (places l)
gathered_end cells sets l j g h = ext_get_or 0 (take l.len sets) (map (λ c. get_or cells c 0) (places l))
    (short ∙ sym (length-map (places l) (λ c. get_or cells c 0) ∙ length_places l))
    (λ k q. let i : k < l.len = subst (λ n. k < n) short q in
    get_or-take l.len sets k 0 i ∙ g.passed k (omega arith) ∙ sym (map_places (λ c. get_or cells c 0) l k i))
  where
    short : length (take l.len sets) ≡ l.len
    short = length-take-le l.len sets (let z = g.long in let y = g.few in omega arith)

-- writing the sets from j on is all that is left to do
pub record Writing (before sets : List ℕ) (start stride len : ℕ) (cells : List ℕ) (j : ℕ) : Type 0 where
  pub all : write before (map (λ k. start + k * stride) (from 0 len)) (take len sets) ≡ write cells (map (λ k. start + k * stride) (from j (len - j))) (drop j (take len sets))
  pub upto : j ≤ len
  pub long : length cells ≡ length before

pub writing_turn : (before sets : List ℕ) (start stride len : ℕ) (cells : List ℕ) (j : ℕ) → Writing before sets start stride len cells j → j < len → len ≤ length sets →
    Writing before sets start stride len (set cells (start + j * stride) (get_or sets j 0)) (j + 1)
unfolding write
writing_turn before sets start stride len cells j w h k =
    let deep : j < length (take len sets) = subst (λ n. j < n) (sym (length-take-le len sets k)) h in
    let z : len - j ≡ suc (len - suc j) = omega arith in
    let next : write cells (map (λ k. start + k * stride) (from j (len - j))) (drop j (take len sets)) ≡
    write (set cells (start + j * stride) (get_or sets j 0)) (map (λ k. start + k * stride) (from (suc j) (len - suc j))) (drop (suc j) (take len sets)) =
    rw (z, drop-cons (take len sets) j 0 deep, get_or-take len sets j 0 h) in
    record {
      all = w.all ∙ subst (λ i. write cells (map (λ k. start + k * stride) (from j (len - j))) (drop j (take len sets)) ≡
          write (set cells (start + j * stride) (get_or sets j 0)) (map (λ k. start + k * stride) (from i (len - i))) (drop i (take len sets))) (sym (add-one j)) next;
      upto = omega arith;
      long = length-set cells (start + j * stride) (get_or sets j 0) ∙ w.long;
    }

pub writing_end : (before sets : List ℕ) (l : Line) (cells : List ℕ) (j : ℕ) → Writing before sets l.start l.stride l.len cells j → l.len ≤ j →
    cells ≡ write before (places l) (take l.len sets)
unfolding write
writing_end before sets l cells j w h = let z : l.len - j ≡ 0 = omega arith in sym (w.all ∙ rw z)

-- writing on the first n cells
pub take_write : (n : ℕ) (cells cs sets : List ℕ) → ((c : ℕ) → In c cs → c < n) → take n (write cells cs sets) ≡ write (take n cells) cs sets
unfolding write
take_write n cells [] sets f = refl
take_write n cells (c ∷ cs) [] f = refl
take_write n cells (c ∷ cs) (s ∷ sets) f =
    take_write n (set cells c s) cs sets (λ a m. f a (Memᴰ.tail m)) ∙ ap (λ l. write l cs sets) (take-set-lt n cells c s (f c (Memᴰ.head refl)))
