-- Narrowing: a board is below another when each cell's set is contained. Setting, removing and writing reduced lines narrow, and a board that has lost a colour is smaller.
use mathlib.Core.Path.{◌≡◌, refl, sym, ap, ap₂, subst, ◌∙◌}
use mathlib.Core.Logic.{◌≢◌}
use mathlib.Core.Bool.{Bool, true, false, cond}
use mathlib.Core.List.Memᴰ
use mathlib.Core.List.{List, [], ◌∷◌, map}
use Prim.Native.Nat.{ℕ, zero, suc, ◌+◌, ◌-◌, ◌*◌, ◌≤◌, ◌<◌}
use native.Mathlib.Nat.{mul-suc}
use native.Mathlib.Omega.{arith}
use lib.ListN.{length, set, length-set, get_or-eq_default}
use lib.Seq.{get_or-set_same, get_or-set_other, ext_get_or}
use lib.Dec.{leb}
use borrow.Author.Tests.{leb-true, leb-false}
use Rattle.rules.specs.Lists.{keep, from}
use Rattle.rules.specs.Sets.{Colour, has, only, without, lost}
use Rattle.rules.specs.Boards.{Board, Cell, at, put, remove, remove_all, size}
use Rattle.rules.specs.Propagation.{write}
pub use Rattle.rules.specs.Promises.{◌⊑◌}
use Rattle.rules.proofs.Tests.{by_test, by_equal, clash}
use Rattle.rules.proofs.Lists.{In, keep_more}
use Rattle.rules.proofs.Distinct.{Distinct}
use Rattle.rules.proofs.Sets.{has_none, only_one, without_sub, without_gone, within_le, within_lt, lost_out}
use Rattle.rules.proofs.Lines.{Under}

pub ⊑_refl : (b : Board) → b ⊑ b
⊑_refl b = record { long = refl; each = λ c x h. h }

pub ⊑_trans : {a b c : Board} → a ⊑ b → b ⊑ c → a ⊑ c
⊑_trans p q = record { long = p.long ∙ q.long; each = λ c x h. q.each c x (p.each c x h) }

pub ⊑_same : {a b : Board} → a ⊑ b → b ⊑ a → a ≡ b
⊑_same {a} {b} p q = ext_get_or 0 a b p.long (λ c _. let h = within_le (at a c) (at b c) (p.each c) in let k = within_le (at b c) (at a c) (q.each c) in omega arith)

-- sets below a bound stay below it
pub sub_low : {a b : Board} (c : Cell) (m : ℕ) → a ⊑ b → at b c < m → at a c < m
sub_low {a} {b} c m h l = let k = within_le (at a c) (at b c) (h.each c) in omega arith

-- a cell with a colour is on the board
pub on_board : (b : Board) (c : Cell) (x : Colour) → has (at b c) x ≡ true → c < length b
on_board b c x e = by_test (leb (length b) c)
    (λ h. clash (subst (λ s. has s x ≡ true) (get_or-eq_default b 0 (leb-true (length b) c h)) e) (has_none x))
    (λ h. leb-false (length b) c h)

-- some cells of a narrowing lie under the same cells
pub sub_under : {a b : Board} (cs : List Cell) → a ⊑ b → Under (map (at a) cs) (map (at b) cs)
sub_under [] h = tt
sub_under (c ∷ cs) h = (h.each c, sub_under cs h)

-- ## A cell gets a set

pub set_sub : (a b : Board) (c : Cell) (s : ℕ) → a ⊑ b → ((x : Colour) → has s x ≡ true → has (at b c) x ≡ true) → set a c s ⊑ b
set_sub a b c s h f = record {
  long = length-set a c s ∙ h.long;
  each = λ e x k. by_equal e c
      (λ q. by_test (leb (length a) c)
      (λ l. let lost : at (set a c s) e ≡ 0 = get_or-eq_default (set a c s) 0 (let z = leb-true (length a) c l in let y = length-set a c s in omega arith) in
      clash (subst (λ v. has v x ≡ true) lost k) (has_none x))
      (λ l. subst (λ i. has (at b i) x ≡ true) (sym q)
      (f x (subst (λ v. has v x ≡ true) (ap (λ i. at (set a c s) i) q ∙ get_or-set_same a c s 0 (leb-false (length a) c l)) k))))
      (λ q. h.each e x (subst (λ v. has v x ≡ true) (get_or-set_other a c e s 0 q) k));
}

-- and the other way round: a board below stays below where the cell keeps its colours
pub set_above : (a b : Board) (c : Cell) (s : ℕ) → a ⊑ b → ((x : Colour) → has (at a c) x ≡ true → has s x ≡ true) → a ⊑ set b c s
set_above a b c s h f = record {
  long = h.long ∙ sym (length-set b c s);
  each = λ e x k. by_equal e c
      (λ q. let j : has (at a c) x ≡ true = subst (λ i. has (at a i) x ≡ true) q k in
      subst (λ v. has v x ≡ true) (sym (ap (λ i. at (set b c s) i) q ∙ get_or-set_same b c s 0 (on_board b c x (h.each c x j)))) (f x j))
      (λ q. subst (λ v. has v x ≡ true) (sym (get_or-set_other b c e s 0 q)) (h.each e x k));
}

pub put_sub : (b : Board) (c : Cell) (x : Colour) → has (at b c) x ≡ true → put b c x ⊑ b
unfolding put
put_sub b c x h = set_sub b b c (only x) (⊑_refl b) (λ y k. subst (λ v. has (at b c) v ≡ true) (sym (only_one x y k)) h)

pub put_at : (b : Board) (c : Cell) (x : Colour) → c < length b → at (put b c x) c ≡ only x
unfolding put
put_at b c x h = get_or-set_same b c (only x) 0 h

pub remove_sub : (b : Board) (c : Cell) (x : Colour) → remove b c x ⊑ b
unfolding remove
remove_sub b c x = set_sub b b c (without (at b c) x) (⊑_refl b) (without_sub (at b c) x)

pub remove_all-sub : (b : Board) (c : Cell) (xs : List Colour) → remove_all b c xs ⊑ b
unfolding remove_all
remove_all-sub b c [] = ⊑_refl b
remove_all-sub b c (x ∷ xs) = ⊑_trans (remove_all-sub (remove b c x) c xs) (remove_sub b c x)

-- of the colours that pass a test, from colour i on, at a turn: colour i where it passes, and those after it
pub remove_all-turn : (b : Board) (c : Cell) (t : Colour → Bool) (i n : ℕ) → i < n →
    remove_all b c (keep t (from i (n - i))) ≡ remove_all (cond (t i) (remove b c i) b) c (keep t (from (i + 1) (n - (i + 1))))
unfolding remove_all
remove_all-turn b c t i n h = rw (keep_more t i n h) (by_test (t i) (λ e. rw e) (λ e. rw e))

pub remove_all-other : (b : Board) (c : Cell) (xs : List Colour) (e : Cell) → e ≢ c → at (remove_all b c xs) e ≡ at b e
unfolding remove_all remove
remove_all-other b c [] e q = refl
remove_all-other b c (x ∷ xs) e q = remove_all-other (remove b c x) c xs e q ∙ get_or-set_other b c e (without (at b c) x) 0 q

pub write_sub : (a b : Board) (cs : List Cell) (sets : List ℕ) → a ⊑ b → Under sets (map (at b) cs) → write a cs sets ⊑ b
unfolding write
write_sub a b [] sets h u = h
write_sub a b (c ∷ cs) [] h u = h
write_sub a b (c ∷ cs) (s ∷ sets) h u = write_sub (set a c s) b cs sets (set_sub a b c s h u.0) u.1

pub write_above : (a b : Board) (cs : List Cell) (sets : List ℕ) → a ⊑ b → Under (map (at a) cs) sets → a ⊑ write b cs sets
unfolding write
write_above a b [] sets h u = h
write_above a b (c ∷ cs) [] h u = h
write_above a b (c ∷ cs) (s ∷ sets) h u = write_above a (set b c s) cs sets (set_above a b c s h u.0) u.1

-- ## What a written line leaves

-- other cells stay as they are
pub write_other : (b : Board) (cs : List Cell) (sets : List ℕ) (e : Cell) → (In e cs → ⊥) → at (write b cs sets) e ≡ at b e
unfolding write
write_other b [] sets e f = refl
write_other b (c ∷ cs) [] e f = refl
write_other b (c ∷ cs) (s ∷ sets) e f = write_other (set b c s) cs sets e (λ m. f (Memᴰ.tail m)) ∙ get_or-set_other b c e s 0 (λ q. f (Memᴰ.head q))

-- cells that are written once are read as they were written
pub write_read : (b : Board) (cs : List Cell) (sets : List ℕ) → Distinct cs → ((c : Cell) → In c cs → c < length b) → length sets ≡ length cs → map (at (write b cs sets)) cs ≡ sets
unfolding write
write_read b [] [] d f e = refl
write_read b [] (s ∷ sets) d f e = absurd (omega arith)
write_read b (c ∷ cs) [] d f e = absurd (omega arith)
write_read b (c ∷ cs) (s ∷ sets) d f e = ap₂ (λ (x : ℕ) (r : List ℕ). x ∷ r)
    (write_other (set b c s) cs sets c d.0 ∙ get_or-set_same b c s 0 (f c (Memᴰ.head refl)))
    (write_read (set b c s) cs sets d.1 (λ y m. subst (λ n. y < n) (sym (length-set b c s)) (f y (Memᴰ.tail m))) (omega arith))

-- a colour that was removed is gone
pub remove_gone : (b : Board) (c : Cell) (x : Colour) → c < length b → has (at (remove b c x) c) x ≡ false
unfolding remove
remove_gone b c x h = ap (λ v. has v x) (get_or-set_same b c (without (at b c) x) 0 h) ∙ without_gone (at b c) x

pub remove_all-gone : (b : Board) (c : Cell) (x : Colour) (xs : List Colour) → c < length b → has (at (remove_all b c (x ∷ xs)) c) x ≡ false
unfolding remove_all
remove_all-gone b c x xs h = by_test (has (at (remove_all (remove b c x) c xs) c) x) (λ e. clash ((remove_all-sub (remove b c x) c xs).each c x e) (remove_gone b c x h)) (λ e. e)

-- ## What the measures rest on

pub tail_sub : {s t : ℕ} {a b : Board} → (s ∷ a) ⊑ (t ∷ b) → a ⊑ b
tail_sub h = record { long = (let z = h.long in omega arith); each = λ c. h.each (suc c) }

pub size_few : (m : ℕ) (b : Board) → ((c : Cell) → at b c ≤ m) → size b ≤ m * length b
unfolding size
size_few m [] f = omega arith
size_few m (s ∷ b) f = let ih = size_few m b (λ c. f (suc c)) in omega (arith, f 0, mul-suc m (length b))

pub sub_size : (a b : Board) → a ⊑ b → size a ≤ size b
unfolding size
sub_size [] b h = omega arith
sub_size (s ∷ a) [] h = absurd (let z = h.long in omega arith)
sub_size (s ∷ a) (t ∷ b) h = omega (arith, sub_size a b (tail_sub h), within_le s t (h.each 0))

pub sub_less : (a b : Board) (c : Cell) (x : Colour) → a ⊑ b → has (at b c) x ≡ true → has (at a c) x ≡ false → size a < size b
unfolding size
sub_less a [] c x h p q = clash p (has_none x)
sub_less [] (t ∷ b) c x h p q = absurd (let z = h.long in omega arith)
sub_less (s ∷ a) (t ∷ b) zero x h p q = omega (arith, sub_size a b (tail_sub h), within_lt s t x (h.each 0) p q)
sub_less (s ∷ a) (t ∷ b) (suc c) x h p q = omega (arith, sub_less a b c x (tail_sub h) p q, within_le s t (h.each 0))

pub lost_less : (a b : Board) (c : Cell) → a ⊑ b → lost (at b c) (at a c) ≡ true → size a < size b
lost_less a b c h e = let r = lost_out (at b c) (at a c) e in sub_less a b c r.0 h r.2 r.3

pub remove_size : (b : Board) (c : Cell) (x : Colour) → has (at b c) x ≡ true → size (remove b c x) < size b
remove_size b c x h = sub_less (remove b c x) b c x (remove_sub b c x) h (remove_gone b c x (on_board b c x h))

pub remove_all-size : (b : Board) (c : Cell) (x : Colour) (xs : List Colour) → has (at b c) x ≡ true → size (remove_all b c (x ∷ xs)) < size b
remove_all-size b c x xs h = sub_less (remove_all b c (x ∷ xs)) b c x (remove_all-sub b c (x ∷ xs)) h (remove_all-gone b c x xs (on_board b c x h))
