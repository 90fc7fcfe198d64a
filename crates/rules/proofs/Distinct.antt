-- Lists in which no two elements are equal: what keeps them so, and how few numbers below n they can hold.
use mathlib.Core.Path.{◌≡◌, refl, sym, subst}
use mathlib.Core.Logic.{inl, inr, ◌≢◌}
use mathlib.Core.Bool.{Bool, not}
use mathlib.Core.List.Memᴰ
use mathlib.Core.List.{List, [], ◌∷◌, ◌++◌, map}
use Prim.Native.Nat.{ℕ, zero, suc, ◌≤◌, ◌<◌}
use native.Mathlib.Omega.{arith}
use lib.ListN.{length}
use lib.Dec.{eqb}
use borrow.Author.Tests.{eqb-true, eqb-false, not-false, not-true}
use Rattle.rules.specs.Lists.{keep, from}
pub use Rattle.rules.specs.Promises.{Distinct}
use Rattle.rules.proofs.Tests.{on_test}
use Rattle.rules.proofs.Lists.{In, keep_in, map_in, from_low}

module _ {A : Type 0} where
  pub keep_distinct : (p : A → Bool) (l : List A) → Distinct l → Distinct (keep p l)
  keep_distinct p [] u = tt
  keep_distinct p (x ∷ l) u = let ih = keep_distinct p l u.1 in on_test Distinct (p x) (λ _. (λ m. u.0 (keep_in p l m).0, ih)) (λ _. ih)

  pub append_distinct : (l m : List A) → Distinct l → Distinct m → ((a : A) → In a l → In a m → ⊥) → Distinct (l ++ m)
  append_distinct [] m u v f = v
  append_distinct (x ∷ l) m u v f = (
    λ k. elim (Memᴰ.append_cases l k) [ inl j ↦ u.0 j | inr j ↦ f x (Memᴰ.head refl) j ],
    append_distinct l m u.1 v (λ a i j. f a (Memᴰ.tail i) j),
  )

pub map_distinct : {A C : Type 0} (f : A → C) (l : List A) → ((x y : A) → In x l → In y l → f x ≡ f y → x ≡ y) → Distinct l → Distinct (map f l)
map_distinct f [] i u = tt
map_distinct f (x ∷ l) i u = (
  λ m. let r = map_in f l m in u.0 (subst (λ y. In y l) (sym (i x r.0 (Memᴰ.head refl) (Memᴰ.tail r.1) r.2)) r.1),
  map_distinct f l (λ y z m n. i y z (Memᴰ.tail m) (Memᴰ.tail n)) u.1,
)

pub from_distinct : (i n : ℕ) → Distinct (from i n)
from_distinct i zero = tt
from_distinct i (suc n) = (λ m. let r = from_low (suc i) n m in omega arith, from_distinct (suc i) n)

-- ## Distinct numbers below n: there are at most n

abbrev other : ℕ → ℕ → Bool
other n c = not (eqb c n)

all_others : (n : ℕ) (l : List ℕ) → (In n l → ⊥) → length l ≤ length (keep (other n) l)
all_others n [] f = omega arith
all_others n (x ∷ l) f = let ih = all_others n l (λ m. f (Memᴰ.tail m)) in
    on_test (λ (r : List ℕ). suc (length l) ≤ length r) (other n x) {a = x ∷ keep (other n) l} {b = keep (other n) l} (λ e. omega arith)
    (λ e. absurd (f (Memᴰ.head (sym (eqb-true x n (not-false (eqb x n) e))))))

one_fewer : (n : ℕ) (l : List ℕ) → Distinct l → length l ≤ suc (length (keep (other n) l))
one_fewer n [] u = omega arith
one_fewer n (x ∷ l) u = let ih = one_fewer n l u.1 in
    on_test (λ (r : List ℕ). suc (length l) ≤ suc (length r)) (other n x) {a = x ∷ keep (other n) l} {b = keep (other n) l} (λ e. omega arith)
    (λ e. let q = all_others n l (λ m. u.0 (subst (λ y. In y l) (sym (eqb-true x n (not-false (eqb x n) e))) m)) in omega arith)

pub distinct_few : (n : ℕ) (l : List ℕ) → Distinct l → ((c : ℕ) → In c l → c < n) → length l ≤ n
distinct_few zero [] u f = omega arith
distinct_few zero (x ∷ l) u f = absurd (let z = f x (Memᴰ.head refl) in omega arith)
distinct_few (suc n) l u f = let ih = distinct_few n (keep (other n) l) (keep_distinct (other n) l u) lower in let o = one_fewer n l u in omega arith
  where
    lower : (c : ℕ) → In c (keep (other n) l) → c < n
    lower c m = let r = keep_in (other n) l m in let z = f c r.0 in let d : c ≢ n = eqb-false c n (not-true (eqb c n) r.1) in omega arith
